-- `typed_record`: what the starts make. Assumes nothing.
use mathlib.Core.Path.{◌∙◌}
use Rattle.blocks.proofs.block.Block.typed_record.Goals as goal

pub returns : goal.returns
returns c x q h = c.record_by.ensures ∙ (c.starts_at.ensures x q h).1
