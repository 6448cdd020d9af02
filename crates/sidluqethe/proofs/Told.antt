-- What reading told, as C gets it.
use Rattle.std.specs.Prelude.{if◌then◌else◌}
use Rattle.std.proofs.Common.{Result, Ok, Err}
use Prim.Native.Nat.{ℕ, ◌≤◌, ◌<◌}
use mathlib.Core.Path.{◌≡◌, refl, ap, subst, ◌∙◌}
use mathlib.Core.List.{List, ◌++◌}
use mathlib.Core.Bool.{false}
use borrow.Author.Tests.{lt-ltb, le-ltb}
use lib.ListN.{length, get_or, drop}
use lib.Dec.{ltb}
use Rattle.text.specs.Reading.{nowhere}
use Rattle.answer.specs.Answers.{refusal}
use Rattle.answer.specs.declared.Answer.{Answer}
use Rattle.entries.specs.Entries.{Told, policy_in}
use Rattle.entries.specs.Filled.{told_by}
use Rattle.entries.specs.declared.Unread.{Unread}
use Rattle.entries.specs.declared.Unread.TheVariants as unread
use Rattle.text.specs.declared.Refusal.{Refusal}
use Rattle.flat.specs.Layout.{records_in}
use Rattle.flat.specs.Filled.{FilledIn}
use Rattle.layout.specs.Layout.{laid_out}
use Rattle.sidluqethe.specs.Told.{FilledBy, bytes_told, read_into, told_in}

-- all that is promised of reading
abbrev pub Promised : (text memory buffer : List ℕ) (n : ℕ) (buffer' memory' : List ℕ) → Told → Type 0
Promised text memory buffer n buffer' memory' t = (n ≡ bytes_told t) × ((buffer' ≡ told_in buffer t) × FilledBy text memory t memory')

-- ---- where the buffer is too short, where memory is, and else

pub read_small : (text memory buffer : List ℕ) → length buffer < 268 → Promised text memory buffer 0 buffer memory (read_into (length buffer) (length memory) text)
unfolding read_into
read_small text memory buffer h = rw (lt-ltb (length buffer) 268 h) (refl, (refl, refl))

module _ (text memory buffer m : List ℕ) (long : 268 ≤ length buffer) where
  into : (r : Result ℕ Unread) → FilledIn text memory r m → told_by r (policy_in text m (records_in m)) ≡ read_into (length buffer) (length memory) text
  unfolding read_into
  into r f = f.told ∙ rw (le-ltb (length buffer) 268 long)

  pub read_short : FilledIn text memory (Err unread.Short) m → Promised text memory buffer 0 buffer m (read_into (length buffer) (length memory) text)
  unfolding told_by
  read_short f = subst (Promised text memory buffer 0 buffer m) (into (Err unread.Short) f) (refl, (refl, f.beyond))

  module _ (n : ℕ) (buffer' : List ℕ) (k : n ≡ (if ltb (length buffer) 268 then 0 else 268)) (a : Answer) (d : buffer' ≡ (if ltb (length buffer) 268 then buffer else laid_out a ++ drop 268 buffer)) where
    large : ltb (length buffer) 268 ≡ false
    large = le-ltb (length buffer) 268 long

    laid : buffer' ≡ laid_out a ++ drop 268 buffer
    laid = rw large at d

    pub read_refused : (r : Refusal) → FilledIn text memory (Err (unread.Refused r)) m → a ≡ refusal r → Promised text memory buffer n buffer' m (read_into (length buffer) (length memory) text)
    unfolding told_by
    read_refused r f e =
        subst (Promised text memory buffer n buffer' m) (into (Err (unread.Refused r)) f)
        (rw large at k, (laid ∙ ap (λ (x : Answer). laid_out x ++ drop 268 buffer) e, f.beyond))

    pub read_accepted : (i : ℕ) → FilledIn text memory (Ok i) m → a ≡ refusal (nowhere 0) → Promised text memory buffer n buffer' m (read_into (length buffer) (length memory) text)
    unfolding told_by
    read_accepted i f e =
        let c : i ≡ length (policy_in text m (records_in m)).entries = f.count ∙ ap (λ (l : List ℕ). get_or l 2 0) f.counted in
        subst (Promised text memory buffer n buffer' m) (into (Ok i) f)
        (rw large at k, (laid ∙ ap (λ (x : Answer). laid_out x ++ drop 268 buffer) e, (refl, f.counted, rw (← c) f.beyond)))
