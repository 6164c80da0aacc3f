use mathlib.Core.Path.{◌≡◌, refl}
use mathlib.Core.Bool.{true, and-true}
use mathlib.Core.List.{[], ◌∷◌}
use native.Mathlib.Omega.{arith}
use lib.Dec.{leb-zero}
use borrow.Author.Tests.{lt-ltb}
use denote.Laws.{Is}
use denote.Enum.Declared.{row}
use denote.Enum.Laws.{val}
use Rattle.layouts.specs.Groups.{fits}
use Rattle.layouts.specs.Formats.{fits_in}
use Rattle.layouts.specs.Layouts.{chain, format}
use Rattle.layouts.specs.Tables.{latest}
use Rattle.items.specs.Typed.{given, item_format, exact_fits}
use Rattle.items.specs.declared.typed.Item.{Item}
use Rattle.items.specs.contracts.typed.Item.{enum, the_type}
use Rattle.items.proofs.typed.Item.TheLaws.{the_laws}
use Rattle.items.proofs.ValueLaws.{in_bits, each_of}
use Rattle.items.proofs.values.exact_fits.Goals as goal

pub returns-in-Absent : goal.returns-in-Absent
unfolding fits fits_in chain format
returns-in-Absent c = rw c.in-Absent.is

pub returns-in-MessageType : goal.returns-in-MessageType
unfolding fits fits_in chain format
returns-in-MessageType c = simp (c.within.ensures, c.in-MessageType.is, and-true, in_bits 256 1 3 (omega arith))

pub returns-in-Time : goal.returns-in-Time
unfolding fits fits_in chain format
returns-in-Time c = simp (c.in-Time.is, and-true, in_bits 16777216 0 latest (omega arith)) (simp leb-zero)

pub returns-in-Report : goal.returns-in-Report
unfolding fits fits_in chain format
returns-in-Report c = simp (c.within-in-Report.ensures, c.in-Report.is, and-true, in_bits 256 1 16 (omega arith))

pub returns-in-Status : goal.returns-in-Status
unfolding fits fits_in chain format
returns-in-Status c = simp (c.in-Status.is, and-true)

pub returns-in_default : goal.returns-in_default
unfolding fits fits_in format
returns-in_default c =
    each_of enum (λ (i : Item). Is (row the_type) i (val the_type the_laws i ∷ []) → true ≡ exact_fits (item_format i) (given i))
    (1 ∷ 4 ∷ 6 ∷ 11 ∷ 13 ∷ 14 ∷ 15 ∷ 16 ∷ []) c.args.item c.in_default.in_default-own.keys10
    (λ v g. simp (lt-ltb v.0.sac 256 (omega arith), lt-ltb v.0.sic 256 (omega arith)))
    (λ v g. simp (lt-ltb v.0 256 (omega arith)))
    (λ v g. simp (lt-ltb v.0 256 (omega arith)))
    (λ v g. simp (lt-ltb v.0 256 (omega arith)))
    (λ v g. refl) (λ v g. refl) (λ v g. refl) (λ v g. refl)
    c.well_formed.0
