-- Rows by place: what holds of rows when it holds at every place. Assumes nothing.
use mathlib.Core.List.{List, [], ◌∷◌}
use Prim.Native.Nat.{ℕ, zero, suc, ◌<◌}
use native.Mathlib.Nat.{le_of_suc-le-suc, not-suc-le-zero}
use native.Mathlib.Omega.{arith}
use lib.ListN.{length, get_or}
use Rattle.rows.specs.Rows.{Row, new_row}
use Rattle.rows.specs.Posting.{Above, Sorted, Each}

module _ (P : Row → Type 0) where
  -- what holds at every place holds of each row
  pub each_from : (rows : List Row) → ((i : ℕ) → i < length rows → P (get_or rows i (new_row 0))) → Each P rows
  each_from [] h = tt
  each_from (r ∷ rows) h = (h 0 (omega arith), each_from rows (λ i l. h (suc i) (omega arith)))

  pub each_at : (rows : List Row) → Each P rows → (i : ℕ) → i < length rows → P (get_or rows i (new_row 0))
  each_at [] e i l = absurd (not-suc-le-zero l)
  each_at (r ∷ rows) e zero l = e.0
  each_at (r ∷ rows) e (suc i) l = each_at rows e.1 i (le_of_suc-le-suc l)

  -- and past the last row, where it holds of an empty one
  pub each_everywhere : P (new_row 0) → (rows : List Row) → Each P rows → (i : ℕ) → P (get_or rows i (new_row 0))
  each_everywhere none [] e i = none
  each_everywhere none (r ∷ rows) e zero = e.0
  each_everywhere none (r ∷ rows) e (suc i) = each_everywhere none rows e.1 i

  pub each_map : (Q : Row → Type 0) → ((r : Row) → P r → Q r) → (rows : List Row) → Each P rows → Each Q rows
  each_map Q f [] e = tt
  each_map Q f (r ∷ rows) e = (f r e.0, each_map Q f rows e.1)

-- rows of which each is above the one before it are above what the first is above, and sorted
above_from : (k : ℕ) (rows : List Row) → (0 < length rows → k < (get_or rows 0 (new_row 0)).key)
    → ((i : ℕ) → suc i < length rows → (get_or rows i (new_row 0)).key < (get_or rows (suc i) (new_row 0)).key) → Above k rows
above_from k [] first next = tt
above_from k (r ∷ rows) first next =
    let h : k < r.key = first (omega arith) in
    (h, above_from k rows (λ l. omega (arith, next 0 (omega arith))) (λ i l. next (suc i) (omega arith)))

pub sorted_from : (rows : List Row)
    → ((i : ℕ) → suc i < length rows → (get_or rows i (new_row 0)).key < (get_or rows (suc i) (new_row 0)).key) → Sorted rows
sorted_from [] next = tt
sorted_from (r ∷ rows) next = (
  above_from r.key rows (λ l. next 0 (omega arith)) (λ i l. next (suc i) (omega arith)),
  sorted_from rows (λ i l. next (suc i) (omega arith)),
)

-- rows above a key, and sorted rows, place by place
above_get : (k : ℕ) (rows : List Row) (j : ℕ) → Above k rows → j < length rows → k < (get_or rows j (new_row 0)).key
above_get k [] j a h = absurd (not-suc-le-zero h)
above_get k (r ∷ rows) zero a h = a.0
above_get k (r ∷ rows) (suc j) a h = above_get k rows j a.1 (le_of_suc-le-suc h)

pub sorted_get : (rows : List Row) (i j : ℕ) → Sorted rows → i < j → j < length rows → (get_or rows i (new_row 0)).key < (get_or rows j (new_row 0)).key
sorted_get [] i j s l h = absurd (not-suc-le-zero h)
sorted_get (r ∷ rows) i zero s l h = absurd (not-suc-le-zero l)
sorted_get (r ∷ rows) zero (suc j) s l h = above_get r.key rows j s.0 (le_of_suc-le-suc h)
sorted_get (r ∷ rows) (suc i) (suc j) s l h = sorted_get rows i j s.1 (le_of_suc-le-suc l) (le_of_suc-le-suc h)
