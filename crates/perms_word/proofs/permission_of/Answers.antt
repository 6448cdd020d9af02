use mathlib.Core.Path.{sym, ap, ◌∙◌}
use Rattle.perms.specs.Sets.{has, perms}
use Rattle.perms_word.specs.Words.{carried, letters}
use Rattle.scan.specs.Bytes.{some, bytes}
use Rattle.perms_word.proofs.Words.{carried_other}
use Rattle.perms_word.proofs.permission_of.Goals as goal

pub returns-in-114 : goal.returns-in-114
unfolding carried letters some bytes
returns-in-114 c = rw c.in-114.is

pub returns-in-119 : goal.returns-in-119
unfolding carried letters some bytes has
returns-in-119 c = c.union.ensures ∙ rw c.in-119.is

pub returns-in-97 : goal.returns-in-97
unfolding carried letters some bytes
returns-in-97 c = rw c.in-97.is

pub returns-in-109 : goal.returns-in-109
unfolding carried letters some bytes
returns-in-109 c = rw c.in-109.is

pub returns-in-108 : goal.returns-in-108
unfolding carried letters some bytes
returns-in-108 c = rw c.in-108.is

pub returns-in-107 : goal.returns-in-107
unfolding carried letters some bytes
returns-in-107 c = rw c.in-107.is

pub returns-in-120 : goal.returns-in-120
unfolding carried letters some bytes
returns-in-120 c = rw c.in-120.is

pub returns-in_default : goal.returns-in_default
returns-in_default c = ap perms (sym (carried_other c.args.b c.in_default.in_default-own.rest.0.0.0.0.0.0.1 c.in_default.in_default-own.rest.0.0.0.0.0.1 c.in_default.in_default-own.rest.0.0.0.0.1 c.in_default.in_default-own.rest.0.0.0.1 c.in_default.in_default-own.rest.0.0.1 c.in_default.in_default-own.rest.0.1 c.in_default.in_default-own.rest.1))
