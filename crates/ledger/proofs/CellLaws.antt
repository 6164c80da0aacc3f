-- A ledger's cells and its rows: each is had from the other, place by place. Assumes nothing.
use mathlib.Core.List.{List, [], ◌∷◌, ◌++◌, append-nil}
use mathlib.Core.Path.{◌≡◌, refl, ap, sym, ◌∙◌, subst}
use Prim.Native.Nat.{ℕ, zero, suc, ◌+◌, ◌-◌, ◌/◌, ◌%◌, ◌≤◌, ◌<◌}
use native.Mathlib.Omega.{arith}
use lib.Dec.{ltb}
use lib.ListN.{length, get_or, replicate, length-append, length-replicate, get_or-append, get_or-eq_default}
use lib.Seq.{ext_get_or, get_or-append-add}
use borrow.Author.Tests.{ltb-true, ltb-false}
use Rattle.octets.proofs.Cases.{test}
use Rattle.rows.specs.Rows.{Row, new_row}
use Rattle.rows.specs.Order.{upto}
use Rattle.rows.specs.Posting.{Each, Good}
use Rattle.rows.proofs.Numbers.{map_same, read-upto, within-upto, at-upto}
use Rattle.ledger.specs.Ledgers.{head, wide, ledger_cells, row_cells, row_place, row_in, count_of, rows_of, table, cells_of}
use Rattle.ledger.specs.Steps.{Narrow, Ruled, Kept}
use Rattle.ledger.specs.declared.Ledger.{Ledger}
use Rattle.ledger.proofs.RowPlaces.{each_at, sorted_get}
use Rattle.ledger.proofs.TableLaws.{listed-many, length-table, table_get}

-- The numbers of a row, and the row of its numbers: what follows knows no more of its parts

pub row-wide : (r : Row) → length (row_cells r) ≡ wide
row-wide r = refl

-- number j of a row at a place
row-part : (cells : List ℕ) (i j : ℕ) → j < wide → get_or (row_cells (row_in cells i)) j 0 ≡ get_or cells (row_place i + j) 0
row-part cells i zero h = refl
row-part cells i (suc zero) h = refl
row-part cells i (suc (suc zero)) h = refl
row-part cells i (suc (suc (suc zero))) h = refl
row-part cells i (suc (suc (suc (suc j)))) h = absurd (omega arith)

-- a place has a row if it has its numbers
pub row_is : (cells : List ℕ) (i : ℕ) (r : Row) → ((j : ℕ) → j < wide → get_or cells (row_place i + j) 0 ≡ get_or (row_cells r) j 0) → row_in cells i ≡ r
row_is cells i r h p = record {
  key = h 0 (omega arith) p;
  life = h 1 (omega arith) p;
  reading = h 2 (omega arith) p;
  time = h 3 (omega arith) p;
}

-- a cell is one of the ledger's own, or number j at a place
by-cell : (P : ℕ → Type 0) → ((j : ℕ) → j < head → P j) → ((i j : ℕ) → j < wide → P (row_place i + j)) → (q : ℕ) → P q
by-cell P own at q =
    test (ltb q head) (λ t. own q (ltb-true q head t))
    (λ f. let e : row_place ((q - head) / wide) + (q - head) % wide ≡ q = omega (arith, ltb-false q head f) in
    subst P e (at ((q - head) / wide) ((q - head) % wide) (omega arith)))

-- Rows by place

-- two places with the same numbers have the same row
pub row_same : (xs ys : List ℕ) (i j : ℕ) → ((k : ℕ) → k < wide → get_or xs (row_place i + k) 0 ≡ get_or ys (row_place j + k) 0) → row_in xs i ≡ row_in ys j
row_same xs ys i j h = row_is xs i (row_in ys j) (λ k l. h k l ∙ sym (row-part ys j k l))

-- cells are the same if their own numbers are and the rows at all places
cells_same : (xs ys : List ℕ) → length xs ≡ ledger_cells → length ys ≡ ledger_cells
    → ((j : ℕ) → j < head → get_or xs j 0 ≡ get_or ys j 0) → ((i : ℕ) → i < 256 → row_in xs i ≡ row_in ys i) → xs ≡ ys
cells_same xs ys a b own rows =
    ext_get_or 0 xs ys (a ∙ sym b)
    (by-cell (λ q. q < length xs → get_or xs q 0 ≡ get_or ys q 0) (λ j h l. own j h)
    (λ i j h l. sym (row-part xs i j h) ∙ ap (λ r. get_or (row_cells r) j 0) (rows i (omega arith)) ∙ row-part ys i j h))

-- there are as many rows as the row count says, and each is what its place has
pub rows-many : (cells : List ℕ) → length (rows_of cells) ≡ count_of cells
unfolding rows_of
rows-many cells = listed-many (row_in cells) (count_of cells)

pub rows_get : (cells : List ℕ) (i : ℕ) → i < count_of cells → get_or (rows_of cells) i (new_row 0) ≡ row_in cells i
unfolding rows_of
rows_get cells i h = at-upto (row_in cells) (new_row 0) i (count_of cells) h

-- The ledger of rows

-- rows filled up with empty ones: what stands at a place does not change
filled_get : (rows : List Row) (n i : ℕ) → get_or (rows ++ replicate n (new_row 0)) i (new_row 0) ≡ get_or rows i (new_row 0)
filled_get [] zero i = refl
filled_get [] (suc n) zero = refl
filled_get [] (suc n) (suc i) = filled_get [] n i
filled_get (r ∷ rows) n zero = refl
filled_get (r ∷ rows) n (suc i) = filled_get rows n i

all_unit : (rows : List Row) → Each (λ r. Unit {0}) rows
all_unit [] = tt
all_unit (r ∷ rows) = (tt, all_unit rows)

module _ (rows : List Row) where
  abbrev filled : List Row
  filled = rows ++ replicate (256 - length rows) (new_row 0)

  filled-long : length filled ≡ length rows + (256 - length rows)
  filled-long = length-append rows (replicate (256 - length rows) (new_row 0)) ∙ ap (λ n. length rows + n) (length-replicate (256 - length rows) (new_row 0))

  pub cells_long : length rows ≤ 256 → length (cells_of rows) ≡ ledger_cells
  unfolding cells_of
  cells_long h = omega (arith, length-table row_cells wide row-wide filled, filled-long)

  -- it has so many rows, and these in their places
  pub count-back : count_of (cells_of rows) ≡ length rows
  unfolding cells_of
  count-back = refl

  part_get : (i j : ℕ) → i < length rows + (256 - length rows) → j < wide
      → get_or (cells_of rows) (row_place i + j) 0 ≡ get_or (row_cells (get_or rows i (new_row 0))) j 0
  unfolding cells_of
  part_get i j h l =
      table_get row_cells wide row-wide (λ r. Unit {0}) (λ s o. get_or s (o + j) 0) (λ r. get_or (row_cells r) j 0)
      (λ r u p q. get_or-append-add p (row_cells r ++ q) j 0 ∙ get_or-append (row_cells r) q 0 j l)
      (length rows ∷ []) [] (cells_of rows) head filled refl (ap (λ t. length rows ∷ t) (sym (append-nil (table row_cells filled)))) (all_unit filled)
      i (omega (arith, filled-long))
      ∙ ap (λ r. get_or (row_cells r) j 0) (filled_get rows (256 - length rows) i)

  pub row_get : (i : ℕ) → i < length rows + (256 - length rows) → row_in (cells_of rows) i ≡ get_or rows i (new_row 0)
  row_get i h = row_is (cells_of rows) i (get_or rows i (new_row 0)) (λ j l. part_get i j h l)

  -- and it alone has
  pub cells_are : (cells : List ℕ) → length cells ≡ ledger_cells → length rows ≤ 256 → count_of cells ≡ length rows
      → ((i : ℕ) → i < 256 → row_in cells i ≡ get_or rows i (new_row 0)) → cells ≡ cells_of rows
  cells_are cells long few count at =
      cells_same cells (cells_of rows) long (cells_long few)
      (λ j h. let e : j ≡ 0 = omega arith in ap (λ n. get_or cells n 0) e ∙ count ∙ sym count-back ∙ ap (λ n. get_or (cells_of rows) n 0) (sym e))
      (λ i h. at i h ∙ sym (row_get i (omega arith)))

  -- and these are its rows
  pub rows_back : rows_of (cells_of rows) ≡ rows
  unfolding rows_of cells_of
  rows_back =
      map_same (row_in (cells_of rows)) (λ i. get_or rows i (new_row 0)) (upto (length rows))
      (λ i h. row_get i (omega (arith, within-upto i (length rows) h))) ∙ read-upto rows (new_row 0)

  -- what is below a bound at every place is below it in every cell
  pub cells_small : length rows ≤ 256 → (b : ℕ) → 256 < b → ((i j : ℕ) → j < wide → get_or (row_cells (get_or rows i (new_row 0))) j 0 < b)
      → (q : ℕ) → get_or (cells_of rows) q 0 < b
  cells_small few b p small =
      by-cell (λ q. get_or (cells_of rows) q 0 < b)
      (λ j h. let e : j ≡ 0 = omega arith in subst (λ q. get_or (cells_of rows) q 0 < b) (sym e) (rw count-back (omega arith)))
      (λ i j h. test (ltb i 256)
      (λ t. rw (part_get i j (omega (arith, ltb-true i 256 t)) h) (small i j h))
      (λ f. rw (get_or-eq_default (cells_of rows) 0 {n = row_place i + j} (omega (arith, cells_long few, ltb-false i 256 f))) (omega arith)))

  -- it keeps the rules where they do
  pub kept_of : Ruled rows → Kept (cells_of rows)
  kept_of w = record {
    few = rw count-back w.0.few;
    rest = ap cells_of (sym rows_back);
    good = subst Good (sym rows_back) w.0;
    narrow = subst (Each Narrow) (sym rows_back) w.1;
  }

-- no rows keep the rules
pub ruled-none : Ruled []
ruled-none = (record { rises = tt; few = omega arith; read = tt; lived = tt }, tt)

-- a ledger is its cells
pub ledger_same : {l m : Ledger} → l.cells ≡ m.cells → l ≡ m
ledger_same e i = record { cells = e i }

-- What the rules say of a ledger's cells

-- there are so many
pub kept-long : (cells : List ℕ) → Kept cells → length cells ≡ ledger_cells
kept-long cells k = ap length k.rest ∙ cells_long (rows_of cells) k.good.few

-- the keys rise
pub kept-rising : (cells : List ℕ) → Kept cells → (i j : ℕ) → i < j → j < count_of cells → (row_in cells i).key < (row_in cells j).key
kept-rising cells k i j less h =
    let low = ap (λ r. r.key) (rows_get cells i (omega arith)) in
    let high = ap (λ r. r.key) (rows_get cells j h) in
    omega (arith, sorted_get (rows_of cells) i j k.good.rises less (omega (arith, rows-many cells)))

-- a row's key and reading have 32 bits, and its time keeps its rule
pub kept-narrow : (cells : List ℕ) → Kept cells → (i : ℕ) → i < count_of cells → Narrow (row_in cells i)
kept-narrow cells k i h = subst Narrow (rows_get cells i h) (each_at Narrow (rows_of cells) k.narrow i (omega (arith, rows-many cells)))
