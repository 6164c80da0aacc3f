-- The first marked field from a field on. Assumes nothing.
use mathlib.Core.Path.{◌≡◌, refl, sym, ap, ◌∙◌}
use mathlib.Core.Bool.{Bool, true, false}
use mathlib.Core.List.{List, [], ◌∷◌}
use Prim.Native.Nat.{ℕ, zero, suc, ◌+◌, ◌-◌, ◌/◌, ◌%◌, ◌^◌, ◌≤◌, ◌<◌}
use native.Mathlib.Nat.{div-one, div-div-eq-div-mul, pow-succ', sub-zero, sub_self, pow-suc}
use native.Mathlib.Omega.{arith}
use borrow.Author.Tests.{eqb-true, eqb-false}
use lib.Count.{count_trailing_zeros, under, trailing_of_zero}
use lib.Pow.{shr_lt}
use lib.Dec.{eqb}
use lib.ListN.{length, get_or, drop}
use Rattle.octets.specs.Choice.{pick}
use Rattle.octets.proofs.Cases.{test}
use Rattle.blocks.specs.Marks.{flags_of, next_marked, next_from}

-- the marks from a field on are those of the number shifted
flags-drop : (n m k : ℕ) → k ≤ n → drop k (flags_of n m) ≡ flags_of (n - k) (m / 2 ^ k)
unfolding flags_of
flags-drop n m zero h = rw (div-one, sub-zero)
flags-drop zero m (suc k) h = absurd (omega arith)
flags-drop (suc n) m (suc k) h =
    let e : suc n - suc k ≡ n - k = omega arith in
    rw (e, flags-drop n (m / 2) k (omega arith), div-div-eq-div-mul, pow-succ')

-- it lies from the first field up to the one behind the last
pub next-within : (bs : List Bool) (f : ℕ) → (f ≤ next_marked bs f) × (next_marked bs f ≤ f + length bs)
unfolding next_marked
next-within [] f = (omega arith, omega arith)
next-within (true ∷ bs) f = (omega arith, omega arith)
next-within (false ∷ bs) f = let w = next-within bs (suc f) in (omega arith, omega arith)

-- and is marked, where it is one of the fields
pub next-marked : (bs : List Bool) (f : ℕ) → next_marked bs f < f + length bs → get_or bs (next_marked bs f - f) false ≡ true
unfolding next_marked
next-marked [] f h = absurd (omega arith)
next-marked (true ∷ bs) f h = rw sub_self
next-marked (false ∷ bs) f h =
    let low = (next-within bs (suc f)).0 in
    let e : next_marked bs (suc f) - f ≡ suc (next_marked bs (suc f) - suc f) = omega arith in
    rw e (next-marked bs (suc f) (omega arith))

-- and no field before it is
pub next-unmarked : (bs : List Bool) (f k : ℕ) → f ≤ k → k < next_marked bs f → get_or bs (k - f) false ≡ false
unfolding next_marked
next-unmarked [] f k l m = refl
next-unmarked (true ∷ bs) f k l m = absurd (omega arith)
next-unmarked (false ∷ bs) f k l m =
    test (eqb k f)
    (λ t. rw (eqb-true k f t, sub_self))
    (λ t.
    let n = eqb-false k f t in
    let e : k - f ≡ suc (k - suc f) = omega arith in
    rw e (next-unmarked bs (suc f) k (omega arith) m))

-- it lies behind as many unmarked fields as the number has zeros below its first mark
next-zeros : (n m f : ℕ) → next_marked (flags_of n m) f ≡ f + count_trailing_zeros n m
unfolding flags_of next_marked count_trailing_zeros
next-zeros zero m f = omega arith
next-zeros (suc n) m f =
    rw (next-zeros n (m / 2) (suc f)) (go (m % 2) (count_trailing_zeros n (m / 2)) (omega arith))
  where
    go : (d t : ℕ) → d < 2 → pick (eqb d 1) f (suc f + t) ≡ f + under d t
    go zero t h = omega arith
    go (suc zero) t h = omega arith
    go (suc (suc d)) t h = absurd (omega arith)

-- as many of each count of fields that has all marks, and fewer than it has
zeros-same : (j k m : ℕ) → j ≤ k → m < 2 ^ j → (m ≡ 0 → ⊥)
    → (count_trailing_zeros j m ≡ count_trailing_zeros k m) × (count_trailing_zeros j m < j)
unfolding count_trailing_zeros
zeros-same zero k m h l some = absurd (some (omega arith))
zeros-same (suc j) zero m h l some = absurd (omega arith)
zeros-same (suc j) (suc k) m h l some =
    go (λ e. zeros-same j k (m / 2) (omega arith) (omega (arith, pow-suc 2 j)) (λ z. some (omega arith))) (m % 2) refl
  where
    go : (0 ≡ m % 2 → (count_trailing_zeros j (m / 2) ≡ count_trailing_zeros k (m / 2)) × (count_trailing_zeros j (m / 2) < j))
        → (d : ℕ) → d ≡ m % 2
        → (under d (count_trailing_zeros j (m / 2)) ≡ under d (count_trailing_zeros k (m / 2))) × (under d (count_trailing_zeros j (m / 2)) < suc j)
    go rest zero e = let w = rest e in (ap suc w.0, omega (arith, w.1))
    go rest (suc d) e = (refl, omega arith)

module _ (marks from : ℕ) (low : 1 ≤ from) (high : from ≤ 33) where
  -- the marks from a field on, and the fields that they are of
  abbrev left : ℕ
  left = marks / 2 ^ (from - 1)

  abbrev fields : ℕ
  fields = 32 - (from - 1)

  counted : next_from marks from ≡ from + count_trailing_zeros fields left
  counted = rw (flags-drop 32 marks (from - 1) (omega arith)) (next-zeros fields left from)

  pub none-left : left ≡ 0 → next_from marks from ≡ 33
  none-left z = counted ∙ rw (z, trailing_of_zero) (omega arith)

  pub some-left : marks < 2 ^ 32 → (left ≡ 0 → ⊥)
      → let f = from + count_trailing_zeros 64 left in (f ≡ next_from marks from) × (from ≤ f) × (f ≤ 32)
  some-left small some =
      let all : fields + (from - 1) ≡ 32 = omega arith in
      let w = zeros-same fields 64 left (omega arith) (shr_lt fields (from - 1) (rw all small)) some in
      (ap (λ (z : ℕ). from + z) (sym w.0) ∙ sym counted, omega arith, omega (arith, w.0, w.1))
