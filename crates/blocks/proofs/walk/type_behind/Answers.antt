-- Only item 000 gives a type. Assumes nothing.
use mathlib.Core.Path.{◌∙◌}
use Rattle.blocks.proofs.AtEnd.{octet-type}
use Rattle.blocks.proofs.walk.type_behind.Goals as goal

pub returns-in-MessageType : goal.returns-in-MessageType
returns-in-MessageType c = rw c.in-MessageType.is (c.octet_at.ensures ∙ octet-type _ _)
