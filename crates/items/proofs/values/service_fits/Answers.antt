use mathlib.Core.Bool.{and-true}
use native.Mathlib.Omega.{arith}
use Rattle.std.proofs.lemmas.Bool.Decides.{nat_tests}
use Rattle.layouts.specs.Groups.{fits}
use Rattle.layouts.specs.Formats.{fits_in}
use Rattle.layouts.specs.Layouts.{format}
use Rattle.items.proofs.values.service_fits.Goals as goal

pub returns-then-x-lt16 : goal.returns-then-x-lt16
unfolding fits fits_in format
returns-then-x-lt16 c = simp and-true (grind (arith, nat_tests))

pub returns-else-x-lt16 : goal.returns-else-x-lt16
unfolding fits fits_in format
returns-else-x-lt16 c = simp and-true (grind (arith, nat_tests))
