-- Demand 3 on what was read once: rules in another order, deny rules added, allow rules added, other profiles.
use Prim.Native.Nat.{ℕ}
use mathlib.Core.Path.{◌≡◌, sym, ◌∙◌, subst, subst₂}
use mathlib.Core.List.{List, Memᴰ}
use mathlib.Core.Bool.{Bool, true, false}
use Rattle.family.specs.Families.{SameRules, Added}
use Rattle.profile.specs.Profiles.{Profile, File}
use Rattle.findings.specs.Findings.{allows, denies, Equal}
use Rattle.answer.specs.declared.Answer.{Answer}
use Rattle.decide.specs.Decide.{answer_of}
use Rattle.entries.specs.Entries.{Policy}
use Rattle.asking.specs.Asking.{asked_of}
use Rattle.laws.specs.Asked.{findings_of, Given}
use Rattle.laws.specs.Orders.{Accepted, SameButRules, NoMore, NoLess}
use Rattle.laws.specs.Written.{WrittenProfile, WrittenFile, AcceptedAs, SameWritten, AddedWritten, SameButWritten}
use Rattle.laws.proofs.Texts as texts
use Rattle.laws.proofs.Orders as orders
use Rattle.laws.proofs.Tokens as tokens
use Rattle.agreement.specs.Known.{Known}
use Rattle.agreement.proofs.Agreement.{read-answers}

-- "Unless a numbered refusal is given, findings and asked bits alone fix the whole answer", whatever the texts s and t, the profile names
-- m and n, the paths p and q and the owner marks o and w are
pub fixed : (s t : List ℕ) (u v : Policy) → Known s u → Known t v → (m n p q : List ℕ) (asked : ℕ) (o w : Bool) → Given (asked_of s u m p asked o) → Given (asked_of t v n q asked w)
    → Equal (findings_of s m p o) (findings_of t n q w) → asked_of s u m p asked o ≡ asked_of t v n q asked w
fixed s t u v k l m n p q asked o w a b e =
    let x = read-answers k.head k.rooms s u k.told m p asked o in
    let y = read-answers l.head l.rooms t v l.told n q asked w in
    x ∙ texts.fixed s t m n p q asked o w (subst Given x a) (subst Given y b) e ∙ sym y

-- two texts that were read, and a request
module _ (s t : List ℕ) (u v : Policy) (k : Known s u) (l : Known t v) (name path : List ℕ) (asked : ℕ) (owner : Bool) where
  -- what holds of the answers to the texts holds of those to what was read
  over : (R : Answer → Answer → Type 0) → R (answer_of s name path asked owner) (answer_of t name path asked owner) → R (asked_of s u name path asked owner) (asked_of t v name path asked owner)
  over R =
      subst₂ R (sym (read-answers k.head k.rooms s u k.told name path asked owner)) (sym (read-answers l.head l.rooms t v l.told name path asked owner))

  module _ (f g : File) (a : Accepted s f) (b : Accepted t g) where
    -- "If each profile holds the same rules, in whatever order and each however often, every request gets the same answer."
    pub any_order : SameButRules SameRules f g → asked_of s u name path asked owner ≡ asked_of t v name path asked owner
    any_order h = over (λ x y. x ≡ y) (orders.any_order s t name path asked owner f g a b h)

    -- "With deny rules added, wherever, no bit and no transition is granted that wasn't before."
    pub deny-added : SameButRules (Added denies) f g → NoMore (asked_of s u name path asked owner) (asked_of t v name path asked owner)
    deny-added h = over NoMore (orders.deny-added s t name path asked owner f g a b h)

    -- "With allow rules added, wherever, every granted bit but execute stays granted; execute may be lost only to a conflict, and its
    -- transition may change."
    pub allow-added : SameButRules (Added allows) f g → NoLess (asked_of s u name path asked owner) (asked_of t v name path asked owner)
    allow-added h = over NoLess (orders.allow-added s t name path asked owner f g a b h)

    -- "With the same preamble and the same rules in the asked profile, two accepted files that both hold it answer alike, whatever their
    -- other profiles hold."
    pub other-profiles : (p q : Profile) → f.preamble ≡ g.preamble → Memᴰ p f.profiles → Memᴰ q g.profiles → p.name ≡ name → q.name ≡ name
        → SameRules p.rules q.rules → asked_of s u name path asked owner ≡ asked_of t v name path asked owner
    other-profiles p q same m n d e rules = over (λ x y. x ≡ y) (orders.other-profiles s t name path asked owner f g p q a b same m n d e rules)

  -- the same of rules as they are written, token by token
  module _ (f g : WrittenFile) (a : AcceptedAs s f) (b : AcceptedAs t g) where
    pub any-order-written : SameButWritten SameWritten f g → asked_of s u name path asked owner ≡ asked_of t v name path asked owner
    any-order-written h = over (λ x y. x ≡ y) (tokens.any-order-written s t name path asked owner f g a b h)

    pub deny-added-written : SameButWritten (AddedWritten true) f g → NoMore (asked_of s u name path asked owner) (asked_of t v name path asked owner)
    deny-added-written h = over NoMore (tokens.deny-added-written s t name path asked owner f g a b h)

    pub allow-added-written : SameButWritten (AddedWritten false) f g → NoLess (asked_of s u name path asked owner) (asked_of t v name path asked owner)
    allow-added-written h = over NoLess (tokens.allow-added-written s t name path asked owner f g a b h)

    pub other-profiles-written : (p q : WrittenProfile) → f.preamble ≡ g.preamble → Memᴰ p f.profiles → Memᴰ q g.profiles → p.name ≡ name → q.name ≡ name
        → SameWritten p.rules q.rules → asked_of s u name path asked owner ≡ asked_of t v name path asked owner
    other-profiles-written p q same m n d e rules = over (λ x y. x ≡ y) (tokens.other-profiles-written s t name path asked owner f g a b p q same m n d e rules)
