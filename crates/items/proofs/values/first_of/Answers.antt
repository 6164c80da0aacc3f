use mathlib.Core.Path.{◌≡◌, refl}
use mathlib.Core.List.{[], ◌∷◌}
use native.Mathlib.Omega.{arith}
use Rattle.layouts.specs.Groups.{merge}
use Rattle.layouts.specs.Layouts.{first_group}
use Rattle.layouts.specs.Tables.{layout}
use Rattle.items.specs.Typed.{form_of, given, first_number}
use Rattle.items.specs.declared.typed.Item.{Item}
use Rattle.items.specs.contracts.typed.Item.{enum}
use Rattle.items.proofs.ValueLaws.{each_of}
use Rattle.items.proofs.values.first_of.Goals as goal

pub returns-in-Source : goal.returns-in-Source
unfolding merge
returns-in-Source c = rw c.in-Source.is (omega arith)

pub returns-in-MessageType : goal.returns-in-MessageType
unfolding merge
returns-in-MessageType c = rw c.in-MessageType.is (omega arith)

pub returns-in-Service : goal.returns-in-Service
unfolding merge
returns-in-Service c = rw c.in-Service.is (omega arith)

pub returns-in-Identification : goal.returns-in-Identification
unfolding merge
returns-in-Identification c = rw c.in-Identification.is (omega arith)

pub returns-in-Time : goal.returns-in-Time
unfolding merge
returns-in-Time c = rw c.in-Time.is (omega arith)

pub returns-in-Batch : goal.returns-in-Batch
unfolding merge
returns-in-Batch c = rw c.in-Batch.is (omega arith)

pub returns-in-Sdps : goal.returns-in-Sdps
unfolding merge
returns-in-Sdps c = rw c.in-Sdps.is (omega arith)

pub returns-in-Report : goal.returns-in-Report
unfolding merge
returns-in-Report c = rw c.in-Report.is (omega arith)

pub returns-in-Station : goal.returns-in-Station
unfolding merge
returns-in-Station c = rw c.in-Station.is (omega arith)

pub returns-in-Configuration : goal.returns-in-Configuration
unfolding merge
returns-in-Configuration c = rw c.in-Configuration.is (omega arith)

pub returns-in-Range : goal.returns-in-Range
unfolding merge
returns-in-Range c = rw c.in-Range.is (omega arith)

pub returns-in-Status : goal.returns-in-Status
unfolding merge
returns-in-Status c = rw c.in-Status.is (omega arith)

pub returns-in-Absent : goal.returns-in-Absent
unfolding merge
returns-in-Absent c =
    each_of enum (λ (i : Item). 0 ≡ first_number (first_group (layout (form_of i))) (given i)) (0 ∷ 13 ∷ 14 ∷ 15 ∷ 16 ∷ [])
    c.args.item c.in-Absent.in-Absent-own.keys13 (λ v. refl) (λ v. refl) (λ v. refl) (λ v. refl) (λ v. refl)
