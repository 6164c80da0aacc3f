-- The rules place by place: what the tests of the code say of a place, and of all places together. Assumes nothing.
use mathlib.Core.Path.{◌≡◌, refl, ap, sym, ◌∙◌}
use mathlib.Core.Bool.{Bool, true, ◌&&◌, and-true, or-true}
use mathlib.Core.List.{List}
use Prim.Native.Nat.{ℕ, zero, suc, ◌-◌, ◌≤◌, ◌<◌}
use native.Mathlib.Numerals.{add-one}
use native.Mathlib.Omega.{arith}
use lib.Dec.{leb, eqb}
use borrow.Author.Tests.{lt-ltb, le-ltb, leb-true, le-leb, lt-leb, eq-eqb}
use Rattle.std.specs.List.{list_all, range_with_len}
use Rattle.std.proofs.lemmas.List.Folds.{list_all-append, list_all-map}
use Rattle.std.proofs.lemmas.List.FromFn.{map-range_with_len_more}
use Rattle.octets.proofs.Cases.{both}
use Rattle.rows.proofs.Cases.{compare}
use Rattle.ledger.specs.Ledgers.{row_in, count_of, row_keeps, rises, row_empty, place_keeps, all_below, keeps_rules}

-- One place

module _ (cells : List ℕ) (i : ℕ) where
  -- past the row count a place is to be empty, else a row
  pub place-past : count_of cells ≤ i → row_empty (row_in cells i) ≡ place_keeps cells i
  place-past h = rw (le-ltb i (count_of cells) h)

  pub place-row : i < count_of cells → (rises cells i && row_keeps (row_in cells i)) ≡ place_keeps cells i
  place-row h = rw (lt-ltb i (count_of cells) h)

  -- the first key, and one that is above the one before it
  pub row_first : i ≡ 0 → rises cells i ≡ true
  row_first e = rw (eq-eqb i 0 e)

  pub row-rises : (row_in cells (i - 1)).key < (row_in cells i).key → rises cells i ≡ true
  row-rises h = rw (lt-ltb (row_in cells (i - 1)).key (row_in cells i).key h, or-true (eqb i 0))

-- All places below a number

module _ (p : ℕ → Bool) where
  -- as `all` of a range has them
  pub all_range : (n : ℕ) → list_all p (range_with_len 0 n) ≡ all_below n p
  unfolding all_below
  all_range zero = refl
  all_range (suc n) =
      sym (list_all-map (λ b. b) p (range_with_len 0 (suc n)))
      ∙ ap (list_all (λ b. b)) (rw add-one at (map-range_with_len_more p 0 n n (omega arith)))
      ∙ rw (list_all-append, list_all-map, all_range n, and-true (p n))

  pub all_hold : (n : ℕ) → ((i : ℕ) → i < n → p i ≡ true) → all_below n p ≡ true
  unfolding all_below
  all_hold zero h = refl
  all_hold (suc n) h = rw (all_hold n (λ i l. h i (omega arith)), h n (omega arith))

  pub all_held : (n : ℕ) → all_below n p ≡ true → (i : ℕ) → i < n → p i ≡ true
  unfolding all_below
  all_held zero h i l = absurd (omega arith)
  all_held (suc n) h i l =
      let w = both (all_below n p) (p n) h in
      compare i n (λ m. all_held n w.0 i m) (λ q. rw q w.1) (λ m. absurd (omega arith))

-- The whole ledger

module _ (cells : List ℕ) where
  -- too many rows
  pub rules-many : 256 < count_of cells → leb (count_of cells) 256 ≡ keeps_rules cells
  unfolding keeps_rules
  rules-many h = rw (lt-leb (count_of cells) 256 h)

  -- else they hold if every place keeps them
  pub rules_each : count_of cells ≤ 256 → all_below 256 (place_keeps cells) ≡ keeps_rules cells
  unfolding keeps_rules
  rules_each h = rw (le-leb (count_of cells) 256 h)

  -- where the ledger keeps them, there are no more than 256 rows, and every place keeps them
  pub rules-few : keeps_rules cells ≡ true → count_of cells ≤ 256
  unfolding keeps_rules
  rules-few h = leb-true (count_of cells) 256 (both (leb (count_of cells) 256) (all_below 256 (place_keeps cells)) h).0

  pub rules-all : keeps_rules cells ≡ true → (i : ℕ) → i < 256 → place_keeps cells i ≡ true
  unfolding keeps_rules
  rules-all h = all_held (place_keeps cells) 256 (both (leb (count_of cells) 256) (all_below 256 (place_keeps cells)) h).1
