-- What the code's values mean over the text.
use Rattle.std.specs.Prelude.{Result}
use Rattle.text.specs.Reading.{Reading}
use Rattle.text.specs.Places.{seen_by}
use Rattle.text.specs.declared.Stop.{Stop}
use Rattle.statement.specs.Steps.{Counted}
use Rattle.body.specs.declared.Rules.{Rules}

-- how many rules were read, or the refusal
abbrev pub seen_rules : Result Rules Stop → Reading Counted
seen_rules r = seen_by (λ x. record { count = x.count; next = x.next.0 }) r
