-- Zeros, and a head and a target written over them.
use Prim.Native.Nat.{ℕ, zero, suc, ◌+◌, ◌-◌, ◌≤◌, ◌<◌, min}
use native.Mathlib.Omega.{arith}
use native.Mathlib.Numerals.{add-one}
use mathlib.Core.Path.{◌≡◌, refl, sym, ap, ap₂, ◌∙◌}
use mathlib.Core.List.{List, [], ◌++◌, append_assoc, append-nil}
use lib.ListN.{length, replicate, set, take, drop, length-take, length-replicate, get_or-replicate}
use lib.Seq.{paste, paste-suc, length-paste, take_all, take-length, take-append_seam, drop-append-add, drop-append-le, drop-length}
use borrow.Rule.Slice.PartMut.{put_mid}
use Rattle.std.proofs.lemmas.Slice.{put_mid-paste}
use Rattle.std.proofs.lemmas.List.{drop_at, drop-replicate}
use Rattle.scan.specs.Bytes.{span}
use Rattle.text.specs.Places.{span_of}
use Rattle.answer.specs.Answers.{whole_of}
use Rattle.answer.specs.declared.Answer.{Answer}
use Rattle.answer.specs.declared.Brief.{Brief}
use Rattle.layout.specs.Layout.{refusal_of, head_by, head_of, laid_out}
use Rattle.modes.specs.Modes.{execute_number}

-- ---- zeros

abbrev zeros : ℕ → List ℕ
zeros n = replicate n 0

zeros-length : (n : ℕ) → length (zeros n) ≡ n
zeros-length n = length-replicate n 0

-- ---- the bytes of an answer

-- t over the first bytes of m, which stand behind p
pasted : (p m q t : List ℕ) → length t ≤ length m → paste (p ++ (m ++ q)) (length p) t (length t) ≡ p ++ (t ++ (drop (length t) m ++ q))
pasted p m q t h =
    ap₂ (λ (x y : List ℕ). x ++ take (length t) t ++ y) (take-append_seam p (m ++ q)) (drop-append-add p (m ++ q) (length t) ∙ drop-append-le (length t) m q h)
    ∙ ap (λ (x : List ℕ). p ++ x ++ (drop (length t) m ++ q)) (take-length t)
    ∙ append_assoc p t (drop (length t) m ++ q)

-- n zeros behind the place a, then a target over them, and what stands from a on
pub laid : (b one two t : List ℕ) (a n m : ℕ) → a + n ≤ length b → length t ≤ n → m ≡ length t → one ≡ zeros n → two ≡ t
    → drop a (put_mid a m (put_mid a n b one) two) ≡ t ++ zeros (n - length t) ++ drop (a + n) b
laid b one two t a n m room h l e f =
    let p = take a b in
    let zs = zeros n in
    let q = drop (a + n) b in
    let size : length p ≡ a = simp length-take (omega arith) in
    let first : put_mid a n b one ≡ p ++ (zs ++ q) =
    put_mid-paste a n b one zs n e refl (sym (zeros-length n)) ∙ ap (λ (x : List ℕ). p ++ x ++ q) (take_all n zs (omega (arith, zeros-length n))) ∙ append_assoc p zs q in
    let rest = t ++ (drop (length t) zs ++ q) in
    let second : put_mid a m (put_mid a n b one) two ≡ p ++ rest =
    put_mid-paste a m (put_mid a n b one) two t (length t) f (sym l) refl
    ∙ ap₂ (λ (x : List ℕ) (i : ℕ). paste x i t (length t)) first (sym size)
    ∙ pasted p zs q t (omega (arith, zeros-length n)) in
    ap (drop a) second ∙ drop_at p rest a size ∙ ap (λ (x : List ℕ). t ++ (x ++ q)) (drop-replicate (length t) n 0) ∙ sym (append_assoc t (zeros (n - length t)) q)

-- 255 bytes leave no room for zeros
pub laid-whole : (a : Answer) (h t : List ℕ) → h ≡ head_by (refusal_of a.verdict) a.granted a.recorded (execute_number a.execute) a.target.len → 255 ≡ length t → t ≡ a.target.bytes
    → h ++ (t ++ zeros (255 - length t)) ≡ laid_out a
unfolding head_of laid_out
laid-whole a h t e n f =
    let none : 255 - length t ≡ 0 = omega arith in
    ap₂ ◌++◌ e (ap (λ (j : ℕ). t ++ zeros j) none ∙ append-nil t ∙ f)

-- the first 255 bytes of a place are those of the target there
pub laid-brief : (s : List ℕ) (b : Brief) (h t : List ℕ) → h ≡ head_by (refusal_of b.verdict) b.granted b.recorded (execute_number b.execute) (length t) → t ≡ span (span_of s b.target) 0 255
    → h ++ (t ++ zeros (255 - length t)) ≡ laid_out (whole_of s b)
unfolding head_of laid_out whole_of
laid-brief s b h t e f =
    let u = span_of s b.target in
    let n : length t ≡ min 255 (length u) = ap length f ∙ length-take 255 u in
    let m : 255 - length t ≡ 255 - length u = omega arith in
    ap₂ ◌++◌ (e ∙ ap (head_by (refusal_of b.verdict) b.granted b.recorded (execute_number b.execute)) n) (ap₂ (λ (l : List ℕ) (j : ℕ). l ++ zeros j) f m)

pub brief-short : (s t : List ℕ) → t ≡ span s 0 255 → length t ≤ 255
brief-short s t e = omega (arith, ap length e, length-take 255 s)
