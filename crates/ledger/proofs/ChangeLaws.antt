-- Cells that are changed, a row put into a place or a place opened, and what that does to the rows. Assumes nothing.
use mathlib.Core.List.{List, [], ◌∷◌, ◌++◌}
use mathlib.Core.Path.{◌≡◌, refl, ap, sym, ◌∙◌, subst}
use Prim.Native.Nat.{ℕ, zero, suc, ◌+◌, ◌-◌, ◌≤◌, ◌<◌}
use native.Mathlib.Nat.{le_of_suc-le-suc, not-suc-le-zero}
use native.Mathlib.Omega.{arith}
use lib.Dec.{eqb}
use lib.ListN.{length, get_or, take, drop, set, length-append, length-take, length-drop, length-set, get_or-append}
use lib.Seq.{sets, sets-eq, length-sets, length-take-le, get_or-append-add, get_or-take, get_or-drop, get_or-set_same, get_or-set_other}
use borrow.Author.Tests.{eqb-true, eqb-false}
use Rattle.std.specs.List.{CopiedTo, SameBelow}
use Rattle.octets.proofs.Cases.{test}
use Rattle.rows.specs.Rows.{Row, new_row}
use Rattle.rows.proofs.Cases.{compare}
use Rattle.ledger.specs.Ledgers.{head, wide, ledger_cells, row_cells, row_place, row_in, count_of, rows_of, cells_of, put_row}
use Rattle.ledger.specs.Steps.{Kept}
use Rattle.ledger.proofs.CellLaws.{row-wide, row_is, row_same, rows-many, cells_long, count-back, row_get, cells_are}

-- Numbers stored one after the other

module _ (l : List ℕ) (o : ℕ) (p : List ℕ) (fits : o + length p ≤ length l) where
  abbrev front : List ℕ
  front = take o l ++ p

  front_long : length front ≡ o + length p
  front_long = length-append (take o l) p ∙ ap (λ n. n + length p) (length-take-le o l (omega arith))

  stored : (q : ℕ) → get_or (sets l o p) q 0 ≡ get_or (front ++ drop (o + length p) l) q 0
  stored q = ap (λ x. get_or x q 0) (sets-eq p l o fits)

  sets_before : (q : ℕ) → q < o → get_or (sets l o p) q 0 ≡ get_or l q 0
  sets_before q h =
      stored q ∙ get_or-append front (drop (o + length p) l) 0 q (omega (arith, front_long))
      ∙ get_or-append (take o l) p 0 q (omega (arith, length-take-le o l (omega arith))) ∙ get_or-take o l q 0 h

  sets_in : (j : ℕ) → j < length p → get_or (sets l o p) (o + j) 0 ≡ get_or p j 0
  sets_in j h =
      stored (o + j) ∙ get_or-append front (drop (o + length p) l) 0 (o + j) (omega (arith, front_long))
      ∙ ap (λ n. get_or front (n + j) 0) (sym (length-take-le o l (omega arith))) ∙ get_or-append-add (take o l) p j 0

  sets_behind : (q : ℕ) → o + length p ≤ q → get_or (sets l o p) q 0 ≡ get_or l q 0
  sets_behind q h =
      let rest = q - (o + length p) in
      let e : q ≡ length front + rest = omega (arith, front_long) in
      let d : o + length p + rest ≡ q = omega arith in
      stored q ∙ ap (λ n. get_or (front ++ drop (o + length p) l) n 0) e ∙ get_or-append-add front (drop (o + length p) l) rest 0
      ∙ get_or-drop (o + length p) l rest 0 ∙ ap (λ n. get_or l n 0) d

-- A row put into a place

module _ (cells : List ℕ) (long : length cells ≡ ledger_cells) (i : ℕ) (h : i < 256) (r : Row) where
  fits : row_place i + length (row_cells r) ≤ length cells
  fits = omega arith

  pub put-long : length (put_row cells i r) ≡ ledger_cells
  put-long = length-sets cells (row_place i) (row_cells r) ∙ long

  pub put-head : (j : ℕ) → j < head → get_or (put_row cells i r) j 0 ≡ get_or cells j 0
  put-head j l = sets_before cells (row_place i) (row_cells r) fits j (omega arith)

  pub put-own : row_in (put_row cells i r) i ≡ r
  put-own = row_is (put_row cells i r) i r (λ j l. sets_in cells (row_place i) (row_cells r) fits j (omega (arith, row-wide r)))

  pub put_other : (j : ℕ) → (j ≡ i → ⊥) → row_in (put_row cells i r) j ≡ row_in cells j
  put_other j n = row_same (put_row cells i r) cells j j (λ k l. compare j i
      (λ m. sets_before cells (row_place i) (row_cells r) fits (row_place j + k) (omega arith))
      (λ e. absurd (n e))
      (λ m. sets_behind cells (row_place i) (row_cells r) fits (row_place j + k) (omega arith)))

-- Places made empty, one after the other, of cells that are all zero

pub record Emptied (cells : List ℕ) (i : ℕ) : Type 0 where
  pub long : length cells ≡ ledger_cells
  pub count : count_of cells ≡ 0
  pub empty : (j : ℕ) → j < i → row_in cells j ≡ new_row 0

module _ (cells : List ℕ) (i : ℕ) (w : Emptied cells i) where
  -- all of them: the ledger without rows
  pub emptied_all : 256 ≤ i → cells ≡ cells_of []
  emptied_all h = cells_are [] cells w.long (omega arith) w.count (λ j l. w.empty j (omega arith))

-- what stands at a place of rows with another row at one, and with one row more
set_get : (rows : List Row) (i j : ℕ) (x y : Row) → i < length rows → (j ≡ i → y ≡ x) → ((j ≡ i → ⊥) → y ≡ get_or rows j (new_row 0))
    → y ≡ get_or (set rows i x) j (new_row 0)
set_get rows i j x y h own other =
    test (eqb j i)
    (λ t. let e = eqb-true j i t in own e ∙ subst (λ n. x ≡ get_or (set rows i x) n (new_row 0)) (sym e) (sym (get_or-set_same rows i x (new_row 0) h)))
    (λ f. let n = eqb-false j i f in other n ∙ sym (get_or-set_other rows i j x (new_row 0) n))

-- the ledger of rows is changed as they are
pub set-row : (rows : List Row) (i : ℕ) (x : Row) → length rows ≤ 256 → i < length rows → put_row (cells_of rows) i x ≡ cells_of (set rows i x)
set-row rows i x few h =
    let cells = cells_of rows in
    let long = cells_long rows few in
    let same = length-set rows i x in
    cells_are (set rows i x) (put_row cells i x) (put-long cells long i (omega arith) x) (omega arith)
    (put-head cells long i (omega arith) x 0 (omega arith) ∙ count-back rows ∙ sym same)
    (λ j l. set_get rows i j x (row_in (put_row cells i x) j) h
    (λ e. subst (λ n. row_in (put_row cells i x) n ≡ x) (sym e) (put-own cells long i (omega arith) x))
    (λ n. put_other cells long i (omega arith) x j n ∙ row_get rows j (omega arith)))

-- A place opened: each behind it takes the row that stood before it

pub record Shifted (cells after : List ℕ) (j : ℕ) : Type 0 where
  pub long : length after ≡ ledger_cells
  pub own : (q : ℕ) → q < head → get_or after q 0 ≡ get_or cells q 0
  pub low : (q : ℕ) → q ≤ j → row_in after q ≡ row_in cells q
  pub high : (q : ℕ) → j < q → q < 256 → row_in after q ≡ row_in cells (q - 1)

-- the numbers from a place's on moved to where the next place's begin
pub shifted : (cells after : List ℕ) (i : ℕ) → length after ≡ ledger_cells → SameBelow cells after (row_place i + wide)
    → CopiedTo cells after (row_place i) (row_place i + wide) (ledger_cells - wide - row_place i) → Shifted cells after i
shifted cells after i h below moved = record {
  long = h;
  own = λ q l. below q 0 (omega arith);
  low = λ q l. row_same after cells q q (λ k m. below (row_place q + k) 0 (omega arith));
  high = λ q l m. row_same after cells q (q - 1) (λ k n.
      let e : row_place i + (row_place q + k - (row_place i + wide)) ≡ row_place (q - 1) + k = omega arith in
      moved (row_place q + k) 0 (omega arith) (omega arith) ∙ ap (λ p. get_or cells p 0) e);
}

-- one row more at a place: what stands before it, there, and behind it
insert_get : (rows : List Row) (i j : ℕ) (x y : Row) → i ≤ length rows → (j < i → y ≡ get_or rows j (new_row 0)) → (j ≡ i → y ≡ x)
    → (i < j → y ≡ get_or rows (j - 1) (new_row 0)) → y ≡ get_or (take i rows ++ x ∷ drop i rows) j (new_row 0)
insert_get rows zero zero x y h below own above = own refl
insert_get rows zero (suc j) x y h below own above = let e : suc j - 1 ≡ j = omega arith in rw e at (above (omega arith))
insert_get [] (suc i) j x y h below own above = absurd (not-suc-le-zero h)
insert_get (r ∷ rows) (suc i) zero x y h below own above = below (omega arith)
insert_get (r ∷ rows) (suc i) (suc j) x y h below own above =
    insert_get rows i j x y (le_of_suc-le-suc h) (λ l. below (omega arith)) (λ e. own (ap suc e))
    (λ l. above (omega arith) ∙ ap (λ n. get_or (r ∷ rows) n (new_row 0)) (back j l))
  where
    back : (j : ℕ) → i < j → suc j - 1 ≡ suc (j - 1)
    back j l = omega arith

-- the row count set
pub set-count : (cells : List ℕ) (n j : ℕ) → row_in (set cells 0 n) j ≡ row_in cells j
set-count cells n j = row_same (set cells 0 n) cells j j (λ k l. get_or-set_other cells 0 (row_place j + k) n 0 (λ e. omega arith))

-- the rows that keep the rules, with one more at a place
module _ (cells : List ℕ) (kept : Kept cells) (i : ℕ) (h : i ≤ count_of cells) (few : count_of cells < 256) (x : Row)
    (after : List ℕ) (s : Shifted cells after i) where
  abbrev rows : List Row
  rows = rows_of cells

  abbrev put : List ℕ
  put = put_row after i x

  in_place : (j : ℕ) → j < 256 → row_in cells j ≡ get_or rows j (new_row 0)
  in_place j l = ap (λ c. row_in c j) kept.rest ∙ row_get rows j (omega (arith, rows-many cells))

  other : (j : ℕ) → (j ≡ i → ⊥) → row_in put j ≡ row_in after j
  other j n = put_other after s.long i (omega arith) x j n

  pub open_count : count_of put ≡ count_of cells
  open_count = put-head after s.long i (omega arith) x 0 (omega arith) ∙ s.own 0 (omega arith)

  pub open_row : set put 0 (count_of put + 1) ≡ cells_of (take i rows ++ x ∷ drop i rows)
  open_row =
      let n = rows-many cells in
      let same = open_count in
      let long = put-long after s.long i (omega arith) x in
      let many : length (take i rows ++ x ∷ drop i rows) ≡ count_of cells + 1
      = omega (arith, length-append (take i rows) (x ∷ drop i rows), length-take i rows, length-drop i rows) in
      cells_are (take i rows ++ x ∷ drop i rows) (set put 0 (count_of put + 1)) (length-set put 0 (count_of put + 1) ∙ long)
      (omega arith) (get_or-set_same put 0 (count_of put + 1) 0 (omega arith) ∙ omega arith)
      (λ j l. set-count put (count_of put + 1) j ∙ insert_get rows i j x (row_in put j) (omega arith)
      (λ m. other j (λ e. omega arith) ∙ s.low j (omega arith) ∙ in_place j l)
      (λ e. subst (λ q. row_in put q ≡ x) (sym e) (put-own after s.long i (omega arith) x))
      (λ m. other j (λ e. omega arith) ∙ s.high j m l ∙ in_place (j - 1) (omega arith)))
