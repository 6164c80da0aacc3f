use mathlib.Core.Path.{◌≡◌, refl}
use mathlib.Core.List.{[], ◌∷◌}
use native.Mathlib.Omega.{arith}
use borrow.Author.Tests.{eq-eqb, ne_eqb}
use Rattle.layouts.specs.Groups.{merge}
use Rattle.items.specs.Typed.{given, second_number}
use Rattle.items.specs.declared.typed.Item.{Item}
use Rattle.items.specs.contracts.typed.Item.{enum}
use Rattle.items.proofs.ValueLaws.{each_of}
use borrow.Enum.Refused.{opened}
use Rattle.items.proofs.values.second_of.Goals as goal

pub returns-in-Station : goal.returns-in-Station
unfolding merge
returns-in-Station c = simp (c.in-Station.is, eq-eqb _ _ c.if-x-eq1.true) (omega arith)

pub returns-in-Configuration : goal.returns-in-Configuration
unfolding merge
returns-in-Configuration c = simp (c.in-Configuration.is, eq-eqb _ _ c.if-x-eq1-2.true) (omega arith)

pub returns-in_default : goal.returns-in_default
unfolding merge
returns-in_default c = simp (c.in-Station.is, ne_eqb _ _ c.if-x-eq1.false)

pub returns-in_default-2 : goal.returns-in_default-2
unfolding merge
returns-in_default-2 c = simp (c.in-Configuration.is, ne_eqb _ _ c.if-x-eq1-2.false)

pub returns-in_default-3 : goal.returns-in_default-3
unfolding merge
returns-in_default-3 c =
    each_of enum (λ (i : Item). 0 ≡ second_number (given i))
    (0 ∷ 1 ∷ 2 ∷ 3 ∷ 4 ∷ 5 ∷ 6 ∷ 7 ∷ 8 ∷ 11 ∷ 12 ∷ 13 ∷ 14 ∷ 15 ∷ 16 ∷ []) c.args.item (opened c.in_default.in_default-own.keys3)
    (λ v. refl) (λ v. refl) (λ v. refl) (λ v. refl) (λ v. refl) (λ v. refl) (λ v. refl) (λ v. refl)
    (λ v. refl) (λ v. refl) (λ v. refl) (λ v. refl) (λ v. refl) (λ v. refl) (λ v. refl)
