-- Small facts on tests and on what was read. Assumes nothing.
use mathlib.Core.Path.{◌≡◌, refl}
use mathlib.Core.Bool.{Bool, true, false, ◌&&◌}
use Prim.Native.Nat.{ℕ}
use native.Mathlib.Omega.{arith}
use Rattle.octets.specs.Choice.{pick}
use Rattle.layouts.specs.Formats.{Parsed, refused, got, and_then}

pub and_yes : {a b : Bool} → a ≡ true → b ≡ true → (a && b) ≡ true
and_yes h g = rw (h, g)

pub got-refused : {R A : Type 0} {n : ℕ} {a : A} {r : R} → refused n ≡ got a r → ⊥
got-refused h = let z : ◌≡◌ {A = ℕ} 0 1 = cc in omega arith

-- a test that refuses was not met; one that must be met was
module _ {R A : Type 0} {a : A} {r : R} where
  pub pick_no : (b : Bool) (n : ℕ) (m : Parsed R A) → pick b (refused n) m ≡ got a r → (b ≡ false) × (m ≡ got a r)
  pick_no true n m h = absurd (got-refused h)
  pick_no false n m h = (refl, h)

  pub pick_yes : (b : Bool) (n : ℕ) (m : Parsed R A) → pick b m (refused n) ≡ got a r → (b ≡ true) × (m ≡ got a r)
  pick_yes true n m h = (refl, h)
  pick_yes false n m h = absurd (got-refused h)

-- the first of two steps got something
pub through : {R A B : Type 0} (m : Parsed R A) {f : A → R → Parsed R B} {b : B} {r : R} → and_then m f ≡ got b r
    → (a : A) × (q : R) × (m ≡ got a q) × (f a q ≡ got b r)
through (refused n) h = absurd (got-refused h)
through (got a q) h = (a, q, refl, h)

-- where something was got
abbrev pub OfGot : {R A : Type 0} → (A → R → Type 0) → Parsed R A → Type 0
OfGot P (refused n) = Unit {0}
OfGot P (got a r) = P a r

pub of_pick : {A B : Type 0} (f : A → B) (b : Bool) (x y : A) → f (pick b x y) ≡ pick b (f x) (f y)
of_pick f true x y = refl
of_pick f false x y = refl
