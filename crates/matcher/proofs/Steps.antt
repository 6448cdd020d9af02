-- The marks in the midst of a step, in an array of any size: what the loop over the path keeps.
use Prim.Native.Nat.{ℕ, ◌+◌, ◌≤◌, ◌<◌}
use mathlib.Core.Path.{◌≡◌, refl, ◌∙◌}
use mathlib.Core.Bool.{Bool, false, ◌||◌}
use mathlib.Core.List.{List}
use native.Mathlib.Omega.{arith}
use lib.ListN.{length, get_or, set, length-set}
use lib.Seq.{get_or-set_same, get_or-set_other}
use Rattle.pattern.specs.Pieces.{Piece}
use Rattle.matcher.specs.Match.{some_up_to}
use Rattle.matcher.specs.Walk.{after, mark_of, repeats_of, takes_of}
use Rattle.matcher.proofs.Laws.{first-right, mark-right, marks-before, more-marks, more-alive}

-- up to i the marks are new; behind it they are the old ones
pub record Stepping (size : ℕ) (p : Piece) (s : List ℕ) (old next : List Bool) (many before alive : Bool) (i : ℕ) : Type 0 where
  pub within : i ≤ length s
  pub room : length next ≡ size
  pub kind : many ≡ repeats_of p
  pub new : (k : ℕ) → k ≤ i → get_or next k false ≡ after p s old k
  pub lives : alive ≡ some_up_to (after p s old) i
  pub last : before ≡ get_or old i false
  pub behind : (k : ℕ) → i < k → get_or next k false ≡ get_or old k false

-- the old marks are the first new ones with the one at 0 put back
abbrev pub restored : (m : List Bool) → Bool → List Bool
restored m v = set (set m 0 v) 0 (get_or m 0 false)

module _ {size : ℕ} (p : Piece) (s : List ℕ) {many : Bool} where
  pub stepping-first : (m : List Bool) (v : Bool) → length m ≡ size → 0 < size → many ≡ repeats_of p → v ≡ mark_of many false (get_or m 0 false) false false →
      Stepping size p s (restored m v) (set m 0 v) many (get_or m 0 false) v 0
  stepping-first m v n pos kind e =
      let f : v ≡ after p s m 0 = first-right p s m many v kind e in
      rw (marks-before m v)
      (record {
        within = omega arith;
        room = length-set m 0 v ∙ n;
        kind = kind;
        new = λ k h. let q : k ≡ 0 = omega arith in rw q (get_or-set_same m 0 v false (omega arith) ∙ f);
        lives = f;
        last = refl;
        behind = λ k h. get_or-set_other m 0 k v false (λ q. omega arith);
      })

  module _ {old next : List Bool} {before alive : Bool} {i : ℕ} (t : Stepping size p s old next many before alive i) where
    pub stepping-turn : length s < size → i < length s → (ok v : Bool) → ok ≡ takes_of p (get_or s i 0) → v ≡ mark_of many before (get_or next (i + 1) false) (get_or next i false) ok →
        Stepping size p s old (set next (i + 1) v) many (get_or next (i + 1) false) (alive || v) (i + 1)
    stepping-turn short l ok v taken e =
        let h : get_or next (i + 1) false ≡ get_or old (i + 1) false = t.behind (i + 1) (omega arith) in
        let m : v ≡ after p s old (i + 1) = mark-right p s old i l next many before (get_or next (i + 1) false) ok v t.kind t.last h taken (t.new i (omega arith)) e in
        record {
          within = omega arith;
          room = length-set next (i + 1) v ∙ t.room;
          kind = t.kind;
          new = more-marks (after p s old) next i v (omega (arith, t.room)) t.new m;
          lives = more-alive (after p s old) alive v i t.lives m;
          last = h;
          behind = λ k b. get_or-set_other next (i + 1) k v false (λ q. omega arith) ∙ t.behind k (omega arith);
        }

  pub stepping-done : (m : List Bool) (v : Bool) {next : List Bool} {before alive : Bool} {i : ℕ} → Stepping size p s (restored m v) next many before alive i → length s ≤ i →
      ((j : ℕ) → j ≤ length s → get_or next j false ≡ after p s m j) × (alive ≡ some_up_to (after p s m) (length s))
  stepping-done m v {i = i} t h =
      let e : i ≡ length s = omega (arith, t.within) in
      (λ j l. rw (marks-before m v) at (t.new j (omega arith)), rw (marks-before m v, e) at t.lives)
