-- The place that a key has among rows: what it says of the key's row, and of rows with an entry added up. Assumes nothing.
use mathlib.Core.List.{List, [], ◌∷◌, ◌++◌}
use mathlib.Core.Option.{Option, none, some}
use mathlib.Core.Path.{◌≡◌, refl, ap, sym, ◌∙◌}
use Prim.Native.Nat.{ℕ, zero, suc, ◌≤◌, ◌<◌}
use native.Mathlib.Nat.{le_of_suc-le-suc, not-suc-le-zero}
use native.Mathlib.Omega.{arith}
use lib.Dec.{eqb}
use lib.ListN.{length, get_or, take, drop, set}
use borrow.Author.Tests.{lt-ltb, le-ltb, eq-eqb, ne_eqb, eqb-true, eqb-false}
use Rattle.octets.proofs.Cases.{test}
use Rattle.rows.specs.Rows.{Row, Entry, new_row, add_up, row_of, life_of, or_new}
use Rattle.rows.specs.Posting.{add_entry, Sorted}
use Rattle.rows.proofs.Rows.{head-row, tail_row, before-none, row-own, length_add}
use Rattle.rows.proofs.Theorems.{adding_key}
use Rattle.ledger.specs.Ledgers.{row_in, count_of, rows_of, cells_of, put_row}
use Rattle.ledger.specs.Steps.{Kept, RowAt, GapAt}
use Rattle.ledger.proofs.CellLaws.{rows-many, rows_get, kept-long, kept-rising}
use Rattle.ledger.proofs.ChangeLaws.{put-head, put-own, put_other, set-row}

-- A place among rows

-- all rows before it have smaller keys
record Placed (rows : List Row) (k i : ℕ) : Type 0 where
  pub within : i ≤ length rows
  pub below : (j : ℕ) → j < i → (get_or rows j (new_row 0)).key < k

-- and the row there has the key
record Met (rows : List Row) (k i : ℕ) : Type 0 where
  pub placed : Placed rows k i
  pub inside : i < length rows
  pub same : (get_or rows i (new_row 0)).key ≡ k

-- or the row there has a greater one, or there is none
record Missed (rows : List Row) (k i : ℕ) : Type 0 where
  pub placed : Placed rows k i
  pub above : i < length rows → k < (get_or rows i (new_row 0)).key

-- a place past the first row: that row's key is smaller, and among the others the place is one less
module _ (r : Row) (rows : List Row) (k i : ℕ) where
  first_below : Placed (r ∷ rows) k (suc i) → r.key < k
  first_below p = p.below 0 (omega arith)

  rest-placed : Placed (r ∷ rows) k (suc i) → Placed rows k i
  rest-placed p = record { within = le_of_suc-le-suc p.within; below = λ j h. p.below (suc j) (omega arith) }

  rest-met : Met (r ∷ rows) k (suc i) → Met rows k i
  rest-met m = record { placed = rest-placed m.placed; inside = le_of_suc-le-suc m.inside; same = m.same }

  rest_missed : Missed (r ∷ rows) k (suc i) → Missed rows k i
  rest_missed m = record { placed = rest-placed m.placed; above = λ h. m.above (omega arith) }

-- the key's row is the one there
met-row : (rows : List Row) (k i : ℕ) → Met rows k i → row_of rows k ≡ some (get_or rows i (new_row 0))
met-row [] k i m = absurd (not-suc-le-zero m.inside)
met-row (r ∷ rows) k zero m = head-row r rows k m.same
met-row (r ∷ rows) k (suc i) m =
    tail_row r rows k (λ q. omega (arith, first_below r rows k i m.placed)) ∙ met-row rows k i (rest-met r rows k i m)

-- or there is none
missed_row : (rows : List Row) (k i : ℕ) → Sorted rows → Missed rows k i → row_of rows k ≡ none
missed_row [] k i s m = unfold row_of in refl
missed_row (r ∷ rows) k zero s m = before-none k r rows (m.above (omega arith)) s
missed_row (r ∷ rows) k (suc i) s m =
    tail_row r rows k (λ q. omega (arith, first_below r rows k i m.placed)) ∙ missed_row rows k i s.1 (rest_missed r rows k i m)

-- rows with an entry of that key added up
module _ (rule : Row → Entry → Row) where
  -- the first row stays where its key is smaller
  past_first : (r : Row) (rows : List Row) (e : Entry) → r.key < e.key → add_entry rule (r ∷ rows) e ≡ r ∷ add_entry rule rows e
  unfolding add_entry
  past_first r rows e h = rw (lt-ltb r.key e.key h)

  -- the row there changes
  met_add : (rows : List Row) (e : Entry) (i : ℕ) → Met rows e.key i
      → add_entry rule rows e ≡ set rows i (rule (get_or rows i (new_row 0)) e)
  unfolding add_entry
  met_add [] e i m = absurd (not-suc-le-zero m.inside)
  met_add (r ∷ rows) e zero m = rw (le-ltb r.key e.key (omega (arith, m.same)), eq-eqb r.key e.key m.same)
  met_add (r ∷ rows) e (suc i) m =
      past_first r rows e (first_below r rows e.key i m.placed)
      ∙ ap (λ l. r ∷ l) (met_add rows e i (rest-met r rows e.key i m))

  -- or there is one more
  missed_add : (rows : List Row) (e : Entry) (i : ℕ) → Missed rows e.key i
      → add_entry rule rows e ≡ take i rows ++ rule (new_row e.key) e ∷ drop i rows
  unfolding add_entry
  missed_add [] e zero m = refl
  missed_add [] e (suc i) m = absurd (not-suc-le-zero m.placed.within)
  missed_add (r ∷ rows) e zero m =
      let h : e.key < r.key = m.above (omega arith) in
      rw (le-ltb r.key e.key (omega arith), ne_eqb r.key e.key (λ q. omega arith))
  missed_add (r ∷ rows) e (suc i) m =
      past_first r rows e (first_below r rows e.key i m.placed)
      ∙ ap (λ l. r ∷ l) (missed_add rows e i (rest_missed r rows e.key i m))

-- A key that has its row at a place

module _ (cells : List ℕ) (g : Kept cells) (k i : ℕ) (a : RowAt cells k i) where
  at-met : Met (rows_of cells) k i
  at-met = record {
    placed = record {
      within = omega (arith, a.inside, rows-many cells);
      below = λ j h. omega (arith, kept-rising cells g j i h a.inside, a.same, ap (λ r. r.key) (rows_get cells j (omega (arith, a.inside))));
    };
    inside = omega (arith, a.inside, rows-many cells);
    same = ap (λ r. r.key) (rows_get cells i a.inside) ∙ a.same;
  }

  pub at_row : row_of (rows_of cells) k ≡ some (row_in cells i)
  at_row = met-row (rows_of cells) k i at-met ∙ ap some (rows_get cells i a.inside)

-- A key that has none, and the place where one would stand

module _ (cells : List ℕ) (k i : ℕ) (f : GapAt cells k i) where
  gap_missed : Missed (rows_of cells) k i
  gap_missed = record {
    placed = record {
      within = omega (arith, f.within, rows-many cells);
      below = λ j h. omega (arith, f.below j h, ap (λ r. r.key) (rows_get cells j (omega (arith, f.within))));
    };
    above = λ h.
        let m : i < count_of cells = omega (arith, rows-many cells) in
        omega (arith, f.above i (omega arith) m, ap (λ r. r.key) (rows_get cells i m));
  }

  pub gap_none : Kept cells → row_of (rows_of cells) k ≡ none
  gap_none g = missed_row (rows_of cells) k i g.good.rises gap_missed

-- with a row of the same key put into a place it stays where it is
pub put-stays : (cells : List ℕ) → Kept cells → (i : ℕ) → i < 256 → (x : Row) → x.key ≡ (row_in cells i).key
    → (k j : ℕ) → RowAt cells k j → RowAt (put_row cells i x) k j
put-stays cells g i h x same k j a =
    let long = kept-long cells g in
    record {
      inside = omega (arith, a.inside, put-head cells long i h x 0 (omega arith));
      same = test (eqb j i)
          (λ t. let e = eqb-true j i t in
          ap (λ n. (row_in (put_row cells i x) n).key) e ∙ ap (λ r. r.key) (put-own cells long i h x) ∙ same ∙ ap (λ n. (row_in cells n).key) (sym e) ∙ a.same)
          (λ f. ap (λ r. r.key) (put_other cells long i h x j (eqb-false j i f)) ∙ a.same);
    }

-- its row changes by an entry of the key

module _ (rule : Row → Entry → Row) (cells : List ℕ) (g : Kept cells) (e : Entry) (i : ℕ) (a : RowAt cells e.key i) where
  pub row-adds : put_row cells i (rule (row_in cells i) e) ≡ cells_of (add_entry rule (rows_of cells) e)
  row-adds =
      let rows = rows_of cells in
      let x = rule (row_in cells i) e in
      ap (λ c. put_row c i x) g.rest
      ∙ set-row rows i x g.good.few (omega (arith, a.inside, rows-many cells))
      ∙ ap (λ r. cells_of (set rows i (rule r e))) (sym (rows_get cells i a.inside))
      ∙ ap cells_of (sym (met_add rule rows e i (at-met cells g e.key i a)))

-- An entry added up to its key's row or to a new one

module _ (cells : List ℕ) (g : Kept cells) (e : Entry) where
  abbrev rows : List Row
  rows = rows_of cells

  -- its life count
  own-life : (o : Option Row) → row_of rows e.key ≡ o → (add_up (or_new e.key o) e).life ≡ life_of (row_of (add_entry add_up rows e) e.key)
  own-life o is = sym (ap life_of (row-own add_up adding_key e rows g.good.rises) ∙ ap (λ p. (add_up (or_new e.key p) e).life) is)

  pub row-life : (i : ℕ) → RowAt cells e.key i → (add_up (row_in cells i) e).life ≡ life_of (row_of (add_entry add_up rows e) e.key)
  row-life i a = own-life (some (row_in cells i)) (at_row cells g e.key i a)

  -- a new one stands in the gap, for which there is room
  module _ (i : ℕ) (f : GapAt cells e.key i) where
    no-row : row_of rows e.key ≡ none
    no-row = gap_none cells e.key i f g

    pub new-life : (add_up (new_row e.key) e).life ≡ life_of (row_of (add_entry add_up rows e) e.key)
    new-life = own-life none no-row

    pub new-adds : cells_of (take i rows ++ add_up (new_row e.key) e ∷ drop i rows) ≡ cells_of (add_entry add_up rows e)
    new-adds = ap cells_of (sym (missed_add add_up rows e i (gap_missed cells e.key i f)))

    pub new-room : length (add_entry add_up rows e) ≤ 256 → count_of cells < 256
    new-room fits = let one = rw no-row at (length_add add_up adding_key e rows g.good.rises) in omega (arith, rows-many cells)
