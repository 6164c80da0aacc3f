-- `put_header`: an octet stored, and two laid behind it. Assumes nothing.
use mathlib.Core.Path.{◌∙◌}
use native.Mathlib.Omega.{arith}
use Rattle.writing.proofs.BlockSteps.{first-laid}
use Rattle.writing.proofs.block.put_header.Goals as goal

pub returns : goal.returns
returns c =
    c.write.ensures ∙ first-laid _ _ _ (omega (arith, c.requires.0))
