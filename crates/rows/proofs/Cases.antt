-- Case distinction by tests: each case is given what the test told. Assumes nothing.
use mathlib.Core.Bool.{Bool, true, false, ◌||◌}
use mathlib.Core.Path.{◌≡◌, refl}
use Prim.Native.Nat.{ℕ, ◌<◌}
use native.Mathlib.Omega.{arith}
use lib.Dec.{ltb, eqb}
use borrow.Author.Tests.{ltb-true, ltb-false, eqb-true, eqb-false}
use Rattle.octets.proofs.Cases.{test}

-- one number is less than another, equal to it, or more
pub compare : {P : Type 0} (a b : ℕ) → (a < b → P) → (a ≡ b → P) → (b < a → P) → P
compare a b less same more =
    test (ltb a b) (λ t. less (ltb-true a b t))
    (λ f. test (eqb a b) (λ t. same (eqb-true a b t)) (λ g. more (omega (arith, ltb-false a b f, eqb-false a b g))))

-- of two tests one holds
pub either : {P : Type 0} (a b : Bool) → (a || b) ≡ true → (a ≡ true → P) → (b ≡ true → P) → P
either true b h first second = first refl
either false b h first second = second h
