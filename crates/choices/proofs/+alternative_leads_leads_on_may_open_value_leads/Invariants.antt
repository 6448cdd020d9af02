use mathlib.Core.List.{List}
use mathlib.Core.Bool.{Bool}
use mathlib.Core.Path.{◌≡◌}
use Prim.Native.Nat.{ℕ, ◌+◌, ◌-◌, ◌*◌, ◌≤◌}
use lib.ListN.{length, drop}
use Rattle.scan.specs.Bytes.{some, span}
use Rattle.pattern.specs.Items.{alternatives}
use Rattle.pattern.specs.Table.{env, values_from, values_of}
use Rattle.choices.specs.Choices.{leads, leads_on, opens}
use Rattle.choices.proofs.+alternative_leads_leads_on_may_open_value_leads.Given as goal

-- may_open calls the loops at a smaller depth; they call leads_on, and that may_open, at the same
abbrev pub decreases-alternative_leads : goal.decreases-alternative_leads
decreases-alternative_leads l = 3 * l.depth + 2

abbrev pub decreases-leads_on : goal.decreases-leads_on
decreases-leads_on l = 3 * l.depth + 1

abbrev pub decreases-may_open : goal.decreases-may_open
decreases-may_open l = 3 * l.depth

abbrev pub decreases-value_leads : goal.decreases-value_leads
decreases-value_leads l = 3 * l.depth + 2

-- a value or alternative leads on to what stands from a to before e
abbrev pub leads_in : (text vars : List ℕ) (n depth a e : ℕ) (slash : Bool) (path : List ℕ) → List ℕ → Bool
leads_in text vars n depth a e slash path = leads_on (leads (opens depth (env text vars n)) (span text a e)) slash path

abbrev pub invariant-alternative_leads-loop-n : goal.invariant-alternative_leads-loop-n
invariant-alternative_leads-loop-n l =
    (l.i ≤ length l.body) × (some (leads_in l.text l.vars l.n l.depth l.a l.e l.slash l.path) (alternatives (drop l.i l.body)) ≡ some (leads_in l.text l.vars l.n l.depth l.a l.e l.slash l.path) (alternatives l.body))

abbrev pub decreases-alternative_leads-loop-n : goal.decreases-alternative_leads-loop-n
decreases-alternative_leads-loop-n l = length l.body - l.i

abbrev pub invariant-value_leads-loop-k : goal.invariant-value_leads-loop-k
invariant-value_leads-loop-k l =
    some (leads_in l.text l.vars l.n l.depth l.a l.e l.slash l.path) (values_from l.text l.vars (l.k-end - l.k) (16 * l.w + l.k)) ≡ some (leads_in l.text l.vars l.n l.depth l.a l.e l.slash l.path) (values_of l.text l.vars l.w)
