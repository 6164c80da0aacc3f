-- What is claimed of posting, for every rule that keeps a row's key. proofs/Theorems.antt proves each.
use Rattle.std.specs.Prelude.{List, ◌≡◌, ℕ, ◌≤◌}
use Rattle.rows.specs.Rows.{Row, Entry, row_of, life_of}
use Rattle.rows.specs.Posting.{Report, post_rows, answers, after, Sorted, Good, Room, of_key, tally, accepted}
use Rattle.rows.specs.Order.{Order, in_order, answers_in_order}

module _ (rule : Row → Entry → Row) where
  -- a run's reports in another order: each gets the answer that it had, and the rows end the same
  pub record Same (rows : List Row) (rs : List Report) (order : List ℕ) : Type 0 where
    pub answered : answers rule rows (in_order order rs) ≡ answers_in_order order (answers rule rows rs)
    pub ended : after rule rows (in_order order rs) ≡ after rule rows rs

  -- demand 3: over rows with room for every counter of the run, in any order that keeps the order of any two that share a counter
  abbrev pub AnyOrder : Type 0
  AnyOrder = (rows : List Row) (rs : List Report) (order : List ℕ) → Sorted rows → Room rows rs → Order rs order → Same rows rs order

  -- the row rule: a counter's row at the end is the rule over its own entries of the accepted reports, from its row at the start
  abbrev pub RowRule : Type 0
  RowRule = (rows : List Row) (rs : List Report) → Sorted rows
      → (k : ℕ) → row_of (after rule rows rs) k ≡ tally rule k (row_of rows k) (of_key k (accepted (answers rule rows rs) rs))

  -- a report that is not answered 0 leaves the rows as they are
  abbrev pub AllOrNothing : Type 0
  AllOrNothing = (rows : List Row) (r : Report) → ((post_rows rule rows r).refusal ≡ 0 → ⊥) → (post_rows rule rows r).rows ≡ rows

  -- no report lowers a life count
  abbrev pub NeverFalls : Type 0
  NeverFalls = (rows : List Row) (r : Report) → Sorted rows → (k : ℕ) → life_of (row_of rows k) ≤ life_of (row_of (post_rows rule rows r).rows k)

  -- a post keeps the ledger's rules
  abbrev pub StaysGood : Type 0
  StaysGood = (rows : List Row) (r : Report) → Good rows → Good (post_rows rule rows r).rows
