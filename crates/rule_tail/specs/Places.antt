-- What the code's values mean over the text.
use Rattle.std.specs.Prelude.{ℕ, List, Result, not, length, ltb}
use Rattle.text.specs.Reading.{Reading, Read, ◌>>=◌, refuse_if}
use Rattle.text.specs.Places.{seen_by, span_of}
use Rattle.text.specs.declared.Place.{Place}
use Rattle.text.specs.declared.Stop.{Stop}
use Rattle.tokens.specs.Tokens.{comma, token_at, wanted}
use Rattle.names.specs.Names.{name_form}
use Rattle.rule_tail.specs.Tails.{Permissions, Target}
use Rattle.rule_tail.specs.declared.PermsRead.{PermsRead}
use Rattle.rule_tail.specs.declared.TargetRead.{TargetRead}

-- the target after a ->
unfoldable pub target_after : List ℕ → ℕ → Reading Target
target_after s at = do
  t ← wanted (token_at comma s at)
  _ ← refuse_if (not (name_form t.quoted t.content)) 4 t.start
  _ ← refuse_if (ltb 255 (length t.content)) 9 t.start
  Read (record { target = t.content; next = t.next })

-- what was read, or the refusal
abbrev pub seen_perms : Result PermsRead Stop → Reading Permissions
seen_perms r = seen_by (λ p. record { perms = p.perms; transition = p.transition; next = p.next.0 }) r

abbrev pub seen_target : List ℕ → Result TargetRead Stop → Reading Target
seen_target s r = seen_by (λ t. record { target = span_of s t.target; next = t.next.0 }) r

abbrev pub seen_comma : Result Place Stop → Reading ℕ
seen_comma r = seen_by (λ p. p.0) r
