-- `is_met` by the need that the rule has. Assumes nothing.
use mathlib.Core.Path.{ap, ◌∙◌}
use mathlib.Core.Bool.{not}
use Rattle.blocks.proofs.PresenceLaws.{need-is}
use Rattle.blocks.proofs.presence.is_met.Goals as goal

pub returns-in-M : goal.returns-in-M
returns-in-M c = c.is_marked.ensures ∙ need-is _ _ _ c.rule_of.ensures c.in-M.is _

pub returns-in-O : goal.returns-in-O
returns-in-O c = need-is _ _ _ c.rule_of.ensures c.in-O.is _

pub returns-in-X : goal.returns-in-X
returns-in-X c = ap not c.is_marked-in-X.ensures ∙ need-is _ _ _ c.rule_of.ensures c.in-X.is _
