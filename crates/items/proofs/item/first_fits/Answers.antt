-- `first_fits` by the item's form. Assumes nothing.
use mathlib.Core.Path.{◌≡◌, refl, sym, ◌∙◌}
use mathlib.Core.Bool.{true}
use mathlib.Core.List.{List, [], ◌∷◌}
use Prim.Native.Nat.{ℕ}
use Rattle.octets.specs.Numbers.{number}
use Rattle.layouts.specs.Groups.{values, fits, Group}
use Rattle.layouts.specs.Layouts.{octet, first_group}
use Rattle.layouts.specs.Tables.{source, service, sdps, station, configuration, status, layout}
use Rattle.layouts.specs.declared.form.Form.{Form}
use Rattle.layouts.specs.contracts.form.Form.{enum}
use Rattle.items.proofs.Entries.{ranged, fits-ranged}
use Rattle.items.proofs.Ranges.{octet-alone}
use Rattle.items.proofs.ValueLaws.{each_of}
use borrow.Enum.Refused.{opened}
use Rattle.items.proofs.item.first_fits.Goals as goal

module _ (s : List ℕ) (at : ℕ) where
  abbrev Free : Form → Type 0
  Free f = let g = first_group (layout f) in true ≡ fits g.parts (values g.parts (number g.wide s at))

  free : (g : Group) → ranged g.parts (number g.wide s at) ≡ true → true ≡ fits g.parts (values g.parts (number g.wide s at))
  free g h = sym (fits-ranged g.parts (number g.wide s at) ∙ h)

pub returns-in-MessageType : goal.returns-in-MessageType
returns-in-MessageType c = rw c.in-MessageType.is (c.within.ensures ∙ octet-alone c.args.s.now (λ j. (c.type_inv.s j).fits) c.args.at _ _)

pub returns-in-Report : goal.returns-in-Report
returns-in-Report c = rw c.in-Report.is (c.within-in-Report.ensures ∙ octet-alone c.args.s.now (λ j. (c.type_inv.s j).fits) c.args.at _ _)

pub returns-in_default : goal.returns-in_default
returns-in_default c =
    let a = c.args in
    let octets : Free a.s.now a.at Form.Spare = free a.s.now a.at octet refl in
    each_of enum (Free a.s.now a.at)
    (0 ∷ 1 ∷ 3 ∷ 4 ∷ 6 ∷ 7 ∷ 9 ∷ 10 ∷ 11 ∷ 12 ∷ 13 ∷ 14 ∷ 15 ∷ 16 ∷ []) a.form (opened c.in_default.in_default-own.keys4)
    (λ v. octets) (λ v. free _ _ source refl) (λ v. free _ _ service refl) (λ v. octets) (λ v. octets) (λ v. free _ _ sdps refl) (λ v. free _ _ station refl)
    (λ v. free _ _ configuration refl) (λ v. octets) (λ v. free _ _ status refl) (λ v. octets) (λ v. octets) (λ v. octets) (λ v. octets)
