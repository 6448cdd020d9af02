-- What a head holds after judging, and what it tells.
use Rattle.std.proofs.Common.{Ok, Err}
use Prim.Native.Nat.{ℕ, zero, suc, ◌+◌, ◌*◌, ◌-◌, ◌≤◌, ◌<◌, min}
use mathlib.Core.Path.{◌≡◌, refl, sym, ap, ap₂, ◌∙◌}
use mathlib.Core.List.{List, [], ◌∷◌, ◌++◌, map, append_assoc}
use lib.ListN.{length, get_or, drop, length-append, length-map, get_or-append}
use lib.Seq.{paste, take-length, take-append_seam, drop-append-add, drop-drop, drop-append-le, drop_at, get_or-append-add}
use native.Mathlib.Nat.{min-eq_right, min-le_left, min-le_right}
use native.Mathlib.Omega.{arith}
use borrow.Author.Tests.{lt-ltb, le-ltb}
use Rattle.scan.specs.Bytes.{span}
use Rattle.text.specs.Reading.{Reading, Read, Refused, nowhere}
use Rattle.pattern.specs.Expansions.{Variable}
use Rattle.pattern.specs.Faults.{pattern_fault}
use Rattle.pattern.specs.Table.{bytes_at, env, values_from, variables}
use Rattle.preamble.proofs.Laws.{length-variables}
use Rattle.profile.specs.Profiles.{File, Profile, file_within, rule_count, rules_in}
use Rattle.profile.specs.Places.{FileKept, Judged as ReadJudged, Accepted as Taken, Rejected as NotTaken, judged_of, profiles_again, profiles_by, profiles_from, seen_file}
use Rattle.std.proofs.Common.{Result, Ok, Err}
use Rattle.text.specs.declared.Refusal.{Refusal}
use Rattle.profile.specs.declared.FileRead.{FileRead}
use Rattle.entries.specs.Entries.{Policy, Told, Rejected, Accepted, entry, entries_from, names_from, numbers_of, policy_of, read_of, told_of}
use Rattle.entries.specs.Filled.{told_by}
use Rattle.entries.specs.Ahead.{Judged, cursor_at, policy_ahead, refused_reading, rest_from}
use Rattle.entries.specs.declared.Unread.{Unread}
use Rattle.entries.specs.declared.Unread.TheVariants as unread
use Rattle.entries.proofs.Cursors.{rest_at}

-- ---- three copies, one behind the other, from the start of a head

pasted : (h b u : List ℕ) → paste (h ++ drop (length h) b) (length h) u (length u) ≡ h ++ u ++ drop (length (h ++ u)) b
pasted h b u =
    let n : ℕ = length h in
    ap₂ (λ (x y : List ℕ). x ++ y ++ drop (n + length u) (h ++ drop n b)) (take-append_seam h (drop n b)) (take-length u)
    ∙ ap (λ (x : List ℕ). h ++ u ++ x) (drop-append-add h (drop n b) (length u) ∙ drop-drop (length u) n b ∙ ap (λ (k : ℕ). drop k b) (sym (length-append h u)))

pub kept : (b v p c one two three : List ℕ) → length v ≡ 1120 → length p ≡ 128 → length c ≡ 3 → one ≡ paste b 0 v (length v) → two ≡ paste one 1120 p (length p) →
    three ≡ paste two 1248 c (length c) → three ≡ v ++ p ++ c ++ drop 1251 b
kept b v p c one two three i j k e f g =
    let a : one ≡ v ++ drop (length v) b = e ∙ pasted [] b v in
    let d : two ≡ v ++ p ++ drop (length (v ++ p)) b = f ∙ ap₂ (λ (x : List ℕ) (n : ℕ). paste x n p (length p)) a (sym i) ∙ pasted v b p in
    let m : 1248 ≡ length (v ++ p) = omega (arith, length-append v p) in
    let n : length (v ++ p ++ c) ≡ 1251 = omega (arith, length-append v p, length-append (v ++ p) c) in
    g
    ∙ ap₂ (λ (x : List ℕ) (y : ℕ). paste x y c (length c)) d m
    ∙ pasted (v ++ p) b c
    ∙ ap (λ (y : ℕ). v ++ p ++ c ++ drop y b) n

-- ---- tables that begin alike tell the same

module _ (s t u : List ℕ) (same : (m : ℕ) → m < 1120 → get_or t m 0 ≡ get_or u m 0) where
  bytes_same : (m : ℕ) → m + 1 < 1120 → bytes_at s t m ≡ bytes_at s u m
  bytes_same m h = ap₂ (λ (x y : ℕ). span s x y) (same m (omega arith)) (same (m + 1) h)

  values_same : (k i : ℕ) → i + k ≤ 512 → values_from s t k i ≡ values_from s u k i
  unfolding values_from
  values_same zero i h = refl
  values_same (suc k) i h = ap₂ ◌∷◌ (bytes_same (96 + 2 * i) (omega arith)) (values_same k (i + 1) (omega arith))

  variables-same : (w : ℕ) → w ≤ 32 → variables s t w ≡ variables s u w
  unfolding variables
  variables-same zero h = refl
  variables-same (suc w) h =
      ap₂ (λ (x : Variable) (l : List Variable). x ∷ l)
      (ap₂ (λ (x : List ℕ) (y : List (List ℕ)). record { name = x; values = y })
      (bytes_same (2 * w) (omega arith))
      (ap (λ (k : ℕ). values_from s t (min 16 k) (16 * w)) (same (64 + w) (omega arith))
      ∙ values_same (min 16 (get_or u (64 + w) 0)) (16 * w) (omega (arith, min-le_left 16 (get_or u (64 + w) 0)))))
      (variables-same w (omega arith))

module _ (fault : List ℕ → ℕ) (s t u : List ℕ) (same : (m : ℕ) → m < 128 → get_or t m 0 ≡ get_or u m 0) where
  profiles-same : (k i : ℕ) → i + k ≤ 32 → profiles_by fault s t k i ≡ profiles_by fault s u k i
  unfolding profiles_by
  profiles-same zero i h = refl
  profiles-same (suc k) i h =
      ap₂ ◌∷◌
      (rw (same (4 * i) (omega arith), same (4 * i + 1) (omega arith), same (4 * i + 2) (omega arith), same (4 * i + 3) (omega arith)))
      (profiles-same k (i + 1) (omega arith))

-- ---- names and entries, by the profiles

abbrev named : Profile → List ℕ
named p = p.name

names-by : (fault : List ℕ → ℕ) (s t : List ℕ) (k i : ℕ) → names_from s t k i ≡ map named (profiles_by fault s t k i)
unfolding names_from profiles_by
names-by fault s t zero i = refl
names-by fault s t (suc k) i = ap (λ (l : List (List ℕ)). bytes_at s t (4 * i) ∷ l) (names-by fault s t k (i + 1))

profiles-length : (fault : List ℕ → ℕ) (s t : List ℕ) (k i : ℕ) → length (profiles_by fault s t k i) ≡ k
unfolding profiles_by
profiles-length fault s t zero i = refl
profiles-length fault s t (suc k) i = ap suc (profiles-length fault s t k (i + 1))

entries-length : (i : ℕ) (ps : List Profile) → length (entries_from i ps) ≡ rules_in ps
unfolding entries_from rules_in
entries-length i [] = refl
entries-length i (p ∷ ps) =
    length-append (map (entry i) p.rules) (entries_from (i + 1) ps)
    ∙ ap₂ ◌+◌ (length-map p.rules (entry i)) (entries-length (i + 1) ps)

-- ---- what a head tells

-- the variables and profiles of a text
abbrev policy_by : List Variable → List Profile → Policy
policy_by vs ps = record { variables = vs; names = map named ps; entries = entries_from 0 ps }

module _ (text head v p rest : List ℕ) (n k m : ℕ) (i : length v ≡ 1120) (j : length p ≡ 128) (few : k ≤ 32) (e : head ≡ v ++ p ++ n ∷ k ∷ m ∷ rest) where
  size : length (v ++ p) ≡ 1248
  size = omega (arith, length-append v p)

  behind-at : (x : ℕ) → get_or head (1248 + x) 0 ≡ get_or (n ∷ k ∷ m ∷ rest) x 0
  behind-at x =
      ap₂ (λ (l : List ℕ) (y : ℕ). get_or l (y + x) 0) e (sym size)
      ∙ get_or-append-add (v ++ p) (n ∷ k ∷ m ∷ rest) x 0

  variables-at : (x : ℕ) → x < 1120 → get_or head x 0 ≡ get_or v x 0
  variables-at x h =
      ap (λ (l : List ℕ). get_or l x 0) e
      ∙ get_or-append (v ++ p) (n ∷ k ∷ m ∷ rest) 0 x (omega (arith, size))
      ∙ get_or-append v p 0 x (omega arith)

  profiles-at : (x : ℕ) → x < 128 → get_or (drop 1120 head) x 0 ≡ get_or p x 0
  profiles-at x h =
      ap (λ (l : List ℕ). get_or (drop 1120 l) x 0) e
      ∙ ap (λ (l : List ℕ). get_or l x 0) (drop-append-le 1120 (v ++ p) (n ∷ k ∷ m ∷ rest) (omega (arith, size)) ∙ ap (λ (l : List ℕ). l ++ n ∷ k ∷ m ∷ rest) (drop_at v p 1120 i))
      ∙ get_or-append p (n ∷ k ∷ m ∷ rest) 0 x (omega arith)

  few-counted : min 32 (get_or head 1249 0) ≡ k
  few-counted = ap (min 32) (behind-at 1) ∙ min-eq_right few

  pub counts-at : (get_or head 1248 0 ≡ n) × ((get_or head 1249 0 ≡ k) × (get_or head 1250 0 ≡ m))
  counts-at = (behind-at 0, (behind-at 1, behind-at 2))

  again : profiles_again text (drop 1120 head) (min 32 (get_or head 1249 0)) 0 ≡ profiles_again text p k 0
  again = ap (λ (x : ℕ). profiles_again text (drop 1120 head) x 0) few-counted ∙ profiles-same (λ _. 0) text (drop 1120 head) p profiles-at k 0 (omega arith)

  entries-told : rest_from text head (cursor_at head 0) ≡ entries_from 0 (profiles_again text p k 0)
  entries-told =
      let z : min 32 (get_or head 1249 0) - 0 ≡ min 32 (get_or head 1249 0) = omega arith in
      rest_at text head 0 ∙ ap (λ (x : ℕ). entries_from 0 (profiles_again text (drop 1120 head) x 0)) z ∙ ap (entries_from 0) again

  variables-told : env text head (get_or head 1248 0) ≡ env text v n
  variables-told =
      ap (env text head) (behind-at 0)
      ∙ variables-same text head v variables-at (min 32 n) (min-le_left 32 n)

  names-told : names_from text (drop 1120 head) (min 32 (get_or head 1249 0)) 0 ≡ map named (profiles_again text p k 0)
  names-told = names-by (λ _. 0) text (drop 1120 head) (min 32 (get_or head 1249 0)) 0 ∙ ap (map named) again

  pub policy-told : policy_ahead text head ≡ policy_by (env text v n) (profiles_again text p k 0)
  unfolding policy_ahead
  policy-told = rw (variables-told, names-told, entries-told)

-- ---- judging, by what was read

abbrev told_judged : ReadJudged → Told
told_judged (Taken vs ps) = Accepted (policy_by vs ps)
told_judged (NotTaken r) = Rejected r

told-judged : (s : List ℕ) (x : Reading File) → told_of s x ≡ told_judged (judged_of s x)
unfolding judged_of policy_of
told-judged s (Read f) = refl
told-judged s (Refused n p) = refl

pub three : {a b c x y z : ℕ} → a ≡ x → b ≡ y → c ≡ z → (a ∷ b ∷ c ∷ []) ≡ (x ∷ y ∷ z ∷ [])
three e f g = ap₂ (λ (n : ℕ) (l : List ℕ). n ∷ l) e (ap₂ (λ (n : ℕ) (l : List ℕ). n ∷ l) f (ap (λ (n : ℕ). n ∷ []) g))

abbrev count_judged : ReadJudged → ℕ
count_judged (Taken vs ps) = rules_in ps
count_judged (NotTaken r) = 0

count-judged : (s : List ℕ) (x : Reading File) → rule_count x ≡ count_judged (judged_of s x)
unfolding judged_of rule_count
count-judged s (Read f) = refl
count-judged s (Refused n p) = refl

module _ (text head : List ℕ) (rooms : ℕ) where
  -- nothing is written
  nothing : (e : Unread) → told_by (Err e) (policy_ahead text head) ≡ read_of (length head) rooms text → Judged text head rooms (Err e) head
  nothing e t = record { told = t; counted = refl; count = refl; fits = omega arith; stays = refl }

  pub judged-short : length head < 1256 → Judged text head rooms (Err unread.Short) head
  unfolding told_by read_of
  judged-short h = nothing unread.Short (rw (lt-ltb (length head) 1256 h))

  module _ (big : 1256 ≤ length head) where
    pub judged-long : 65535 < length text → Judged text head rooms (refused_reading (nowhere 1)) head
    unfolding told_by read_of
    judged-long h = nothing (unread.Refused (nowhere 1)) (rw (le-ltb (length head) 1256 big, lt-ltb 65535 (length text) h))

    module _ (short : length text ≤ 65535) (v : List ℕ) (x : Result FileRead Refusal) (g : seen_file text v x ≡ judged_of text (file_within (min 512 rooms) text)) where
      abbrev file : Reading File
      file = file_within (min 512 rooms) text

      read : read_of (length head) rooms text ≡ told_judged (seen_file text v x)
      unfolding read_of
      read = rw (le-ltb (length head) 1256 big, le-ltb 65535 (length text) short) (told-judged text file ∙ ap told_judged (sym g))

      pub judged-refused : (y : Refusal) → x ≡ Err y → Judged text head rooms (refused_reading y) head
      unfolding told_by seen_file
      judged-refused y h = nothing (unread.Refused y) (sym (read ∙ rw h))

      pub judged-accepted : (f : FileRead) → x ≡ Ok f → FileKept text v (min 512 rooms) f → length v ≡ 1120 → length f.profiles ≡ 128 → (head' : List ℕ) →
          head' ≡ v ++ f.profiles ++ (f.vars ∷ f.count ∷ f.rules ∷ []) ++ drop 1251 head → Judged text head rooms (Ok f.rules) head'
      unfolding told_by seen_file
      judged-accepted f h k i j head' w =
          let counts : List ℕ = f.vars ∷ f.count ∷ f.rules ∷ [] in
          let e : head' ≡ v ++ f.profiles ++ f.vars ∷ f.count ∷ f.rules ∷ drop 1251 head = w ∙ append_assoc (v ++ f.profiles) counts (drop 1251 head) in
          let size : length (v ++ f.profiles ++ counts) ≡ 1251 = omega (arith, i, j, length-append v f.profiles, length-append (v ++ f.profiles) counts) in
          let vs : List Variable = env text v f.vars in
          let ps : List Profile = profiles_from vs text f.profiles f.count 0 in
          let p : policy_ahead text head' ≡ policy_by vs ps =
          policy-told text head' v f.profiles (drop 1251 head) f.vars f.count f.rules i j k.few e ∙ ap (policy_by vs) k.again in
          let seen : seen_file text v x ≡ Taken vs ps = rw h in
          let all : f.rules ≡ rules_in ps = k.rules ∙ count-judged text file ∙ ap count_judged (sym g ∙ seen) in
          let at = counts-at text head' v f.profiles (drop 1251 head) f.vars f.count f.rules i j k.few e in
          let set : length vs ≡ f.vars = length-variables text v (min 32 f.vars) ∙ min-eq_right k.set in
          let n : length (map named ps) ≡ f.count = length-map ps named ∙ profiles-length (pattern_fault vs) text f.profiles f.count 0 in
          record {
            told = ap Accepted p ∙ sym (read ∙ ap told_judged seen);
            counted = three (at.0 ∙ sym set) (at.1.0 ∙ sym n) (at.1.1 ∙ all ∙ sym (entries-length 0 ps)) ∙ ap numbers_of (sym p);
            count = sym at.1.1;
            fits = omega (arith, k.fits, min-le_right 512 rooms);
            stays = ap (drop 1251) w ∙ drop_at (v ++ f.profiles ++ counts) (drop 1251 head) 1251 size;
          }
