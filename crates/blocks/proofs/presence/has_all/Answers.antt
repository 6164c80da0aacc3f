-- All marks of a number are those of another too where those in common are they. Assumes nothing.
use mathlib.Core.Path.{◌≡◌, ap₂, ◌∙◌}
use mathlib.Core.Bool.{Bool, true, false, ◌&&◌, not, and-true, and-false}
use Prim.Native.Nat.{ℕ, zero, suc, ◌+◌, ◌*◌, ◌/◌, ◌^◌, ◌<◌}
use native.Mathlib.Nat.{pow-suc}
use native.Mathlib.Omega.{arith}
use lib.Bits.{bit_and, and_zero_r}
use lib.Dec.{eqb}
use Rattle.octets.specs.Choice.{pick, odd}
use Rattle.blocks.specs.Marks.{has_all}
use Rattle.blocks.proofs.MarksLaws.{bit, same-marks, common}
use borrow.Author.Rules.{rules}
use Rattle.blocks.proofs.presence.has_all.Goals as goal

-- a mark in common is the second's
first : (a b : Bool) → pick b (a && b) (not (a && b)) ≡ pick b a true
first a true = and-true a
first a false = rw (and-false a)

all : (n m k : ℕ) → m < 2 ^ n → eqb (bit_and k m) m ≡ has_all n m k
unfolding has_all
all zero zero k l = rw (and_zero_r k)
all zero (suc m) k l = absurd (omega arith)
all (suc n) m k l =
    let whole : m ≡ pick (odd m) 1 0 + m / 2 * 2 = omega (arith, bit m) in
    ap₂ eqb (common k m) whole
    ∙ same-marks (odd k && odd m) (odd m) (bit_and (k / 2) (m / 2)) (m / 2)
    ∙ ap₂ ◌&&◌ (first (odd k) (odd m)) (all n (m / 2) (k / 2) (omega (arith, pow-suc 2 n)))

pub returns : goal.returns
returns c = all 32 _ _ (search rules)
