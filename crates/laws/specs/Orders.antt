-- What demand 3 supposes of two accepted texts.
use Rattle.std.specs.Prelude.{ℕ, ◌≤◌, ◌<◌, ◌≡◌, true, ◌⊎◌, length}
use mathlib.Core.List.{List, Memᴰ}
use Rattle.perms.specs.Sets.{has}
use Rattle.modes.specs.declared.Mode.{Mode}
use Rattle.modes.specs.declared.Execute.TheVariants.{Conflict, ByMode}
use Rattle.text.specs.Reading.{Read}
use Rattle.rule.specs.Rules.{Rule}
use Rattle.profile.specs.Profiles.{Profile, File, file_of}
use Rattle.answer.specs.declared.Answer.{Answer}

-- a text is accepted and means this file
pub record Accepted (text : List ℕ) (f : File) : Type 0 where
  pub short : length text ≤ 65535
  pub file : file_of text ≡ Read f

-- "Files are the same but for their rules when preamble and profile names are": each profile of the one has one of its name in the other,
-- in whatever order they stand; the rules of the two are related by R: `SameRules`, or `Added` of deny or of allow rules. Rules whose tokens
-- are the same, quotes, a written allow and the order or repeating of letters in PERMS aside, are equal (proofs/Written.antt).
pub record SameButRules (R : List Rule → List Rule → Type 0) (f g : File) : Type 0 where
  pub preamble : f.preamble ≡ g.preamble
  pub there : (p : Profile) → Memᴰ p f.profiles → (q : Profile) × Memᴰ q g.profiles × (p.name ≡ q.name) × R p.rules q.rules
  pub back : (q : Profile) → Memᴰ q g.profiles → (p : Profile) × Memᴰ p f.profiles × (p.name ≡ q.name)

-- ---- what demand 3 says of two answers, the one before and the one after

-- "no bit and no transition is granted that wasn't before"
pub record NoMore (before after : Answer) : Type 0 where
  pub bits : (k : ℕ) → k < 7 → has after.granted.0 k ≡ true → has before.granted.0 k ≡ true
  pub transition : (m : Mode) → after.execute ≡ ByMode m → (before.execute ≡ ByMode m) × (before.target ≡ after.target)

-- "every granted bit but execute stays granted; execute may be lost only to a conflict, and its transition may change"
pub record NoLess (before after : Answer) : Type 0 where
  pub bits : (k : ℕ) → k < 6 → has before.granted.0 k ≡ true → has after.granted.0 k ≡ true
  pub execute : has before.granted.0 6 ≡ true → (has after.granted.0 6 ≡ true) ⊎ (after.execute ≡ Conflict)
