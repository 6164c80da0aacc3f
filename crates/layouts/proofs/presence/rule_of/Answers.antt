-- `rule_of` by the categories' tables. Assumes nothing.
use Rattle.layouts.proofs.Rules.{no_rule}
use Rattle.layouts.proofs.presence.rule_of.Goals as goal

pub returns-in_default : goal.returns-in_default
returns-in_default c = no_rule _ c.in_default.in_default-own.rest _ _
