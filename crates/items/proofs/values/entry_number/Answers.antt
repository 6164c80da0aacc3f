use mathlib.Core.Path.{◌≡◌}
use mathlib.Core.List.{[], ◌∷◌}
use Prim.Native.Nat.{◌%◌}
use native.Mathlib.Omega.{arith}
use Rattle.layouts.specs.Groups.{values, merge}
use Rattle.layouts.specs.Layouts.{octet, entry_group}
use Rattle.layouts.specs.Tables.{layout}
use Rattle.layouts.specs.declared.form.Form.{Form}
use Rattle.layouts.specs.contracts.form.Form.{enum}
use Rattle.items.proofs.ValueLaws.{each_of}
use borrow.Enum.Refused.{opened}
use Rattle.items.proofs.values.entry_number.Goals as goal

pub returns-in-Statistics : goal.returns-in-Statistics
unfolding values merge
returns-in-Statistics c = rw c.in-Statistics.is (omega arith)

pub returns-in-Versions : goal.returns-in-Versions
unfolding values merge
returns-in-Versions c = rw c.in-Versions.is (omega arith)

pub returns-in_default : goal.returns-in_default
unfolding values merge
returns-in_default c =
    let x = c.args.x in
    let e : x % 256 ≡ merge octet.parts (values octet.parts x) 0 = omega arith in
    each_of enum (λ (f : Form). x % 256 ≡ merge (entry_group (layout f)).parts (values (entry_group (layout f)).parts x) 0)
    (0 ∷ 1 ∷ 2 ∷ 3 ∷ 4 ∷ 5 ∷ 6 ∷ 7 ∷ 8 ∷ 9 ∷ 10 ∷ 11 ∷ 12 ∷ 15 ∷ 16 ∷ []) c.args.form (opened c.in_default.in_default-own.keys3)
    (λ v. e) (λ v. e) (λ v. e) (λ v. e) (λ v. e) (λ v. e) (λ v. e) (λ v. e)
    (λ v. e) (λ v. e) (λ v. e) (λ v. e) (λ v. e) (λ v. e) (λ v. e)
