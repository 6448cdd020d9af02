-- Demand 3: "Unless a numbered refusal is given, findings and asked bits alone fix the whole answer."
use Prim.Native.Nat.{ℕ}
use mathlib.Core.Path.{◌≡◌, ap, ◌∙◌}
use mathlib.Core.Bool.{true}
use Rattle.scan.specs.Bytes.{same}
use Rattle.scan.proofs.Bools.{and_left, and_right}
use Rattle.scan.proofs.Laws.{same-eq, same_self}
use Rattle.family.specs.Members.{SameMembers}
use Rattle.family.proofs.Fixed.{Sameness, chosen-members}
use Rattle.modes.specs.Modes.{same_mode}
use Rattle.modes.proofs.Table.{same-mode, same_self as mode-self}
use Rattle.findings.specs.Findings.{Move, Findings, same_move, Equal}
use Rattle.answer.specs.Answers.{move_of, execute_of, grants, records, answer_from}

-- ---- equal transitions

move-eq : (m n : Move) → same_move m n ≡ true → m ≡ n
move-eq m n e =
    let f : m.mode ≡ n.mode = same-mode m.mode n.mode (and_left (same_mode m.mode n.mode) (same m.target n.target) e) in
    let t : m.target ≡ n.target = same-eq m.target n.target (and_right (same_mode m.mode n.mode) (same m.target n.target) e) in
    λ i. record { mode = f i; target = t i }

move-self : (m : Move) → same_move m m ≡ true
move-self m = rw (mode-self m.mode) (same_self m.target)

pub moves-same : Sameness same_move
moves-same = record { eq = move-eq; self = move-self }

-- ---- the answer

move-fixed : (f g : Findings) → SameMembers same_move f.exact g.exact → SameMembers same_move f.others g.others → move_of f ≡ move_of g
unfolding move_of
move-fixed f g = chosen-members same_move moves-same f.exact g.exact f.others g.others

pub answer-fixed : (f g : Findings) (asked : ℕ) → Equal f g → answer_from f asked ≡ answer_from g asked
unfolding answer_from execute_of grants records
answer-fixed f g asked e =
    let h : Findings =
    record { allowed = g.allowed; allowed_audit = g.allowed_audit; denied = g.denied; denied_audit = g.denied_audit; exact = f.exact; others = f.others } in
    let bits : f ≡ h =
    λ i. record { allowed = e.allowed i; allowed_audit = e.allowed_audit i; denied = e.denied i; denied_audit = e.denied_audit i; exact = f.exact; others = f.others } in
    let moved : move_of h ≡ move_of g = move-fixed h g e.exact e.others in
    ap (λ (k : Findings). answer_from k asked) bits ∙ rw moved
