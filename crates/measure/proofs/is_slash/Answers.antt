use Prim.Native.Nat.{ℕ}
use mathlib.Core.Path.{◌≡◌, refl}
use mathlib.Core.Bool.{false}
use mathlib.Core.List.{List}
use Rattle.pattern.specs.Codes.{decode}
use Rattle.pattern.specs.Expansions.{is_slash}
use Rattle.pattern.specs.Reads.{code_of}
use Rattle.pattern.specs.declared.PieceRead.{PieceRead}
use Rattle.pattern.specs.declared.PieceRead.TheVariants as piece
use Rattle.sizes.proofs.Laws.{slash-byte, slash-class}
use borrow.Author.Rules.{rules}
use Rattle.measure.proofs.is_slash.Goals as goal

others : (text : List ℕ) (p : PieceRead) → ((b : ℕ) → p ≡ piece.Byte b → ⊥) → false ≡ is_slash (decode text (code_of p))
unfolding decode
others text (piece.Byte b) h = absurd (h b refl)
others text piece.One h = refl
others text piece.Star h = refl
others text piece.StarStar h = refl
others text (piece.Class k) h = slash-class text k

pub returns-in-Byte : goal.returns-in-Byte
returns-in-Byte c = λ text. rw c.in-Byte.is (slash-byte text c.in-Byte.b (search rules))

pub returns-in_default : goal.returns-in_default
returns-in_default c = λ text. others text c.args.p c.in_default.not-Byte
