-- Demand 3, joining: the findings of one list followed by another are both lists' findings joined, and joining is commutative,
-- associative and idempotent, with the empty list's findings neutral; of equal findings it gives equal ones.
use Prim.Native.Nat.{ℕ}
use mathlib.Core.Path.{◌≡◌, ap₂}
use mathlib.Core.List.{List, [], ◌++◌, append-nil, append_assoc}
use lib.Bits.{bit_or, or_zero_l, or_zero_r, or_comm as bit_or-comm, or_self as bit_or-self}
use Rattle.scan.specs.Bytes.{some}
use Rattle.perms.proofs.Laws.{or-associative}
use Rattle.family.specs.Members.{those, all}
use Rattle.family.proofs.Joining.{members-comm, members-self, members-both}
use Rattle.pattern.specs.Expansions.{Variable}
use Rattle.rule.specs.Rules.{Rule}
use Rattle.findings.specs.Findings.{Access, Findings, bits, moves, findings, join, same_move, Equal}
use Rattle.findings.proofs.Joining.{findings-append}

-- "the findings of the one list followed by the other are both lists' findings joined"
pub joined : (vs : List Variable) (q : Access) (xs ys : List Rule) → findings vs q (xs ++ ys) ≡ join (findings vs q xs) (findings vs q ys)
joined = findings-append

-- ---- joining

-- equal findings joined with equal ones are equal
pub join-equal : (f g h k : Findings) → Equal f g → Equal h k → Equal (join f h) (join g k)
unfolding join
join-equal f g h k e d = record {
  allowed = ap₂ bit_or e.allowed d.allowed;
  allowed_audit = ap₂ bit_or e.allowed_audit d.allowed_audit;
  denied = ap₂ bit_or e.denied d.denied;
  denied_audit = ap₂ bit_or e.denied_audit d.denied_audit;
  exact = members-both same_move f.exact g.exact h.exact k.exact e.exact d.exact;
  others = members-both same_move f.others g.others h.others k.others e.others d.others;
}

pub join-comm : (f g : Findings) → Equal (join f g) (join g f)
unfolding join
join-comm f g = record {
  allowed = bit_or-comm f.allowed g.allowed;
  allowed_audit = bit_or-comm f.allowed_audit g.allowed_audit;
  denied = bit_or-comm f.denied g.denied;
  denied_audit = bit_or-comm f.denied_audit g.denied_audit;
  exact = members-comm same_move f.exact g.exact;
  others = members-comm same_move f.others g.others;
}

pub join-assoc : (f g h : Findings) → join (join f g) h ≡ join f (join g h)
unfolding join
join-assoc f g h = λ i. record {
  allowed = or-associative f.allowed g.allowed h.allowed i;
  allowed_audit = or-associative f.allowed_audit g.allowed_audit h.allowed_audit i;
  denied = or-associative f.denied g.denied h.denied i;
  denied_audit = or-associative f.denied_audit g.denied_audit h.denied_audit i;
  exact = append_assoc f.exact g.exact h.exact i;
  others = append_assoc f.others g.others h.others i;
}

pub join-self : (f : Findings) → Equal (join f f) f
unfolding join
join-self f = record {
  allowed = bit_or-self f.allowed;
  allowed_audit = bit_or-self f.allowed_audit;
  denied = bit_or-self f.denied;
  denied_audit = bit_or-self f.denied_audit;
  exact = members-self same_move f.exact;
  others = members-self same_move f.others;
}

pub join-none : (vs : List Variable) (q : Access) (f : Findings) → join (findings vs q []) f ≡ f
unfolding join findings those all bits moves some
join-none vs q f = λ i. record {
  allowed = or_zero_l f.allowed i;
  allowed_audit = or_zero_l f.allowed_audit i;
  denied = or_zero_l f.denied i;
  denied_audit = or_zero_l f.denied_audit i;
  exact = f.exact;
  others = f.others;
}

pub join-none-r : (vs : List Variable) (q : Access) (f : Findings) → join f (findings vs q []) ≡ f
unfolding join findings those all bits moves some
join-none-r vs q f = λ i. record {
  allowed = or_zero_r f.allowed i;
  allowed_audit = or_zero_r f.allowed_audit i;
  denied = or_zero_r f.denied i;
  denied_audit = or_zero_r f.denied_audit i;
  exact = append-nil f.exact i;
  others = append-nil f.others i;
}
