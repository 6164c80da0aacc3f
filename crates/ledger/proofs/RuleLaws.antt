-- The rules as they are tested, place by place, and as they hold of the rows: each follows from the other. Assumes nothing.
use mathlib.Core.Path.{◌≡◌, sym, ap, ◌∙◌, subst}
use mathlib.Core.Bool.{true, ◌&&◌}
use mathlib.Core.List.{List}
use Prim.Native.Nat.{ℕ, suc, ◌-◌, ◌≤◌, ◌<◌, ◌^◌}
use native.Mathlib.Omega.{arith}
use lib.Dec.{leb, ltb, eqb}
use lib.ListN.{get_or, get_or-eq_default}
use borrow.Author.Tests.{lt-ltb, ltb-true, ltb-false, leb-true, eqb-true, eqb-false, le-leb}
use Rattle.octets.proofs.Cases.{test, both}
use Rattle.rows.specs.Rows.{Row, no_time, new_row}
use Rattle.rows.specs.Posting.{Each}
use Rattle.rows.proofs.Cases.{either}
use Rattle.ledger.specs.Ledgers.{row_in, count_of, rows_of, cells_of, time_keeps, row_keeps, rises, row_empty, place_keeps, keeps_rules, Held}
use Rattle.ledger.specs.Steps.{Narrow, Kept}
use Rattle.ledger.proofs.RuleTests.{place-past, place-row, row_first, row-rises, all_hold, rules_each, rules-few, rules-all}
use Rattle.ledger.proofs.CellLaws.{rows-many, rows_get, row_get, cells_are, kept-rising}
use Rattle.ledger.proofs.RowPlaces.{each_from, each_at, sorted_from}

-- One row

-- a row by itself
abbrev Keeps : Row → Type 0
Keeps r = (r.key < 2 ^ 32) × (r.reading ≤ r.life) × (r.reading < 2 ^ 32) × (time_keeps r.time ≡ true)

keeps-says : (r : Row) → row_keeps r ≡ true → Keeps r
keeps-says r h =
    let a = both (ltb r.key (2 ^ 32) && leb r.reading r.life && ltb r.reading (2 ^ 32)) (time_keeps r.time) h in
    let b = both (ltb r.key (2 ^ 32) && leb r.reading r.life) (ltb r.reading (2 ^ 32)) a.0 in
    let c = both (ltb r.key (2 ^ 32)) (leb r.reading r.life) b.0 in
    (ltb-true r.key (2 ^ 32) c.0, leb-true r.reading r.life c.1, ltb-true r.reading (2 ^ 32) b.1, a.1)

keeps-said : (r : Row) → Keeps r → row_keeps r ≡ true
keeps-said r w = rw (lt-ltb r.key (2 ^ 32) w.0, le-leb r.reading r.life w.1, lt-ltb r.reading (2 ^ 32) w.2) w.3

-- an empty place
empty-says : (r : Row) → row_empty r ≡ true → r ≡ new_row 0
empty-says r h p =
    let a = both (eqb r.key 0 && eqb r.life 0 && eqb r.reading 0) (eqb r.time no_time) h in
    let b = both (eqb r.key 0 && eqb r.life 0) (eqb r.reading 0) a.0 in
    let c = both (eqb r.key 0) (eqb r.life 0) b.0 in
    record {
      key = eqb-true r.key 0 c.0 p;
      life = eqb-true r.life 0 c.1 p;
      reading = eqb-true r.reading 0 b.1 p;
      time = eqb-true r.time no_time a.1 p;
    }

-- the rules as plain facts about the places
record ByPlace (cells : List ℕ) : Type 0 where
  few : count_of cells ≤ 256
  rising : (i : ℕ) → suc i < count_of cells → (row_in cells i).key < (row_in cells (suc i)).key
  keeps : (i : ℕ) → i < count_of cells → Keeps (row_in cells i)
  empty : (i : ℕ) → count_of cells ≤ i → i < 256 → row_in cells i ≡ new_row 0

-- The tests say these facts

module _ (cells : List ℕ) (h : keeps_rules cells ≡ true) where
  row_tests : (i : ℕ) → i < count_of cells → (rises cells i ≡ true) × (row_keeps (row_in cells i) ≡ true)
  row_tests i m = both (rises cells i) (row_keeps (row_in cells i)) (place-row cells i m ∙ rules-all cells h i (omega (arith, rules-few cells h)))

  tests_places : ByPlace cells
  tests_places = record {
    few = rules-few cells h;
    rising = λ i m.
        let e : suc i - 1 ≡ i = omega arith in
        either (eqb (suc i) 0) (ltb (row_in cells i).key (row_in cells (suc i)).key) (rw e at (row_tests (suc i) m).0)
        (λ t. absurd (omega (arith, eqb-true (suc i) 0 t))) (λ t. ltb-true (row_in cells i).key (row_in cells (suc i)).key t);
    keeps = λ i m. keeps-says (row_in cells i) (row_tests i m).1;
    empty = λ i m n. empty-says (row_in cells i) (place-past cells i m ∙ rules-all cells h i n);
  }

-- and these facts make the tests hold
module _ (cells : List ℕ) (w : ByPlace cells) where
  row_true : (i : ℕ) → i < count_of cells → place_keeps cells i ≡ true
  row_true i m =
      let up : rises cells i ≡ true = test (eqb i 0) (λ t. row_first cells i (eqb-true i 0 t))
      (λ f. let e : suc (i - 1) ≡ i = omega (arith, eqb-false i 0 f) in row-rises cells i (rw e at (w.rising (i - 1) (rw e m)))) in
      sym (place-row cells i m) ∙ rw (up, keeps-said (row_in cells i) (w.keeps i m))

  empty_true : (i : ℕ) → count_of cells ≤ i → i < 256 → place_keeps cells i ≡ true
  empty_true i m n = sym (place-past cells i m) ∙ ap row_empty (w.empty i m n)

  places_tests : keeps_rules cells ≡ true
  places_tests =
      sym (rules_each cells w.few) ∙ all_hold (place_keeps cells) 256 (λ i n. test (ltb i (count_of cells))
      (λ t. row_true i (ltb-true i (count_of cells) t)) (λ f. empty_true i (ltb-false i (count_of cells) f) n))

-- The facts hold of the rows, and the rows say them

module _ (cells : List ℕ) where
  -- what holds of a row at its place
  at_place : (P : Row → Type 0) (i : ℕ) → i < count_of cells → P (row_in cells i) → P (get_or (rows_of cells) i (new_row 0))
  at_place P i m = subst P (sym (rows_get cells i m))

  module _ (held : Held cells) (w : ByPlace cells) where
    -- of all rows
    each_row : (P : Row → Type 0) → ((i : ℕ) → i < count_of cells → P (row_in cells i)) → Each P (rows_of cells)
    each_row P h = each_from P (rows_of cells) (λ i m. let l : i < count_of cells = omega (arith, rows-many cells) in at_place P i l (h i l))

    places_rest : cells ≡ cells_of (rows_of cells)
    places_rest =
        let n = rows-many cells in
        cells_are (rows_of cells) cells held.long (omega (arith, w.few)) (sym n)
        (λ i m. test (ltb i (count_of cells)) (λ t. sym (rows_get cells i (ltb-true i (count_of cells) t)))
        (λ f. w.empty i (ltb-false i (count_of cells) f) m
        ∙ sym (get_or-eq_default (rows_of cells) (new_row 0) (omega (arith, ltb-false i (count_of cells) f)))))

    places_kept : Kept cells
    places_kept = record {
      few = w.few;
      rest = places_rest;
      good = record {
        rises = sorted_from (rows_of cells) (λ i m. let n = rows-many cells in omega (
          arith,
          ap (λ r. r.key) (rows_get cells i (omega arith)),
          ap (λ r. r.key) (rows_get cells (suc i) (omega arith)),
          w.rising i (omega arith),
        ));
        few = omega (arith, w.few, rows-many cells);
        read = each_row (λ r. r.reading ≤ r.life) (λ i m. (w.keeps i m).1);
        lived = each_row (λ r. r.life < 2 ^ 64) (λ i m. held.small _);
      };
      narrow = each_row Narrow (λ i m. ((w.keeps i m).0, (w.keeps i m).2, (w.keeps i m).3));
    }

  module _ (k : Kept cells) where
    kept_at : (P : Row → Type 0) → Each P (rows_of cells) → (i : ℕ) → i < count_of cells → P (row_in cells i)
    kept_at P e i m = subst P (rows_get cells i m) (each_at P (rows_of cells) e i (omega (arith, rows-many cells)))

    kept_places : ByPlace cells
    kept_places = record {
      few = k.few;
      rising = λ i m. kept-rising cells k i (suc i) (omega arith) m;
      keeps = λ i m.
          let n = kept_at Narrow k.narrow i m in
          (n.0, kept_at (λ r. r.reading ≤ r.life) k.good.read i m, n.1, n.2);
      empty = λ i m n.
          ap (λ c. row_in c i) k.rest ∙ row_get (rows_of cells) i (omega (arith, rows-many cells, k.few))
          ∙ get_or-eq_default (rows_of cells) (new_row 0) (omega (arith, rows-many cells));
    }

-- A ledger that passes the tests is that of its rows, which keep the rules.
pub kept-rules : (cells : List ℕ) → Held cells → keeps_rules cells ≡ true → Kept cells
kept-rules cells held h = places_kept cells held (tests_places cells h)

-- A ledger whose rows keep the rules, with nothing past them, passes the tests.
pub rules-kept : (cells : List ℕ) → Kept cells → keeps_rules cells ≡ true
rules-kept cells k = places_tests cells (kept_places cells k)
