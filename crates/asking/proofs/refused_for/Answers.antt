use borrow.Author.Rules.{rules}
use borrow.Author.Tests.{lt-ltb, le-ltb}
use mathlib.Core.Path.{sym, ◌∙◌}
use Rattle.asking.specs.Steps.{refused_for}
use Rattle.asking.proofs.refused_for.Goals as goal

pub returns-then-text-gt65535 : goal.returns-then-text-gt65535
unfolding refused_for
returns-then-text-gt65535 c = rw (lt-ltb _ _ c.if-text-gt65535.true)

pub returns-then-is_bad_path : goal.returns-then-is_bad_path
unfolding refused_for
returns-then-is_bad_path c = rw (le-ltb _ _ c.if-text-gt65535.false, sym c.is_bad_path.ensures ∙ c.if-is_bad_path.true)

pub returns-then-is_bad_asked : goal.returns-then-is_bad_asked
unfolding refused_for
returns-then-is_bad_asked c = rw (le-ltb _ _ c.if-text-gt65535.false, sym c.is_bad_path.ensures ∙ c.if-is_bad_path.false, sym c.is_bad_asked.ensures ∙ c.if-is_bad_asked.true)

pub returns : goal.returns
unfolding refused_for
returns c = rw (le-ltb _ _ c.if-text-gt65535.false, sym c.is_bad_path.ensures ∙ c.if-is_bad_path.false, sym c.is_bad_asked.ensures ∙ c.if-is_bad_asked.false)
