-- `is_marked` tests a bit of the number. Assumes nothing.
use mathlib.Core.Path.{sym, ◌∙◌}
use native.Mathlib.Omega.{arith}
use Rattle.blocks.proofs.MarksLaws.{flags-at, marked-at}
use Rattle.blocks.proofs.marks.is_marked.Goals as goal

pub returns : goal.returns
returns c = sym (marked-at c.args.marks c.args.field c.requires.0 ∙ flags-at 32 c.args.marks _ (omega (arith, c.requires.1)))
