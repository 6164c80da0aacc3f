-- A feed at its door: 16 and 12 are given when document 01's table says, and only then (specs/GivenFeeds.antt). Assumes nothing.
use mathlib.Core.Bool.{Bool}
use mathlib.Core.List.{List}
use mathlib.Core.Logic.{◌↔◌}
use mathlib.Core.Path.{◌≡◌, sym, ap, ◌∙◌}
use Prim.Native.Nat.{ℕ, suc, ◌≤◌}
use native.Mathlib.Omega.{arith}
use borrow.Author.Tests.{le-ltb, eq-eqb}
use lib.ListN.{length}
use Rattle.octets.specs.Numbers.{Octets, laid}
use Rattle.octets.specs.Outcomes.{Outcome, no, puts, within, output_of, outcome_listed}
use Rattle.octets.specs.Refusals.{rules_broken}
use Rattle.octets.proofs.Outcomes.{no_same, puts-same, not_puts}
use Rattle.rows.specs.Rows.{Row}
use Rattle.ledger.specs.Ledgers.{cells_of}
use Rattle.pages.specs.Pages.{new, load_of, store_of}
use Rattle.pages.specs.declared.forms.Form.{Form}
use Rattle.ledger.specs.Steps.{Kept}
use Rattle.ledger.specs.Answer.{Answer}
use Rattle.ledger.proofs.CellLaws.{rows_back}
use Rattle.ledger.proofs.RuleLaws.{rules-kept}
use Rattle.pages.proofs.PageTheorems.{loaded-good}
use Rattle.feed.specs.Runs.{done_of}
use Rattle.feed.proofs.KeptRuns.{kept_run}
use Rattle.doors.specs.Cell.{feed_cell_count}
use Rattle.doors.specs.Feeds.{is_over, feed_run, page_fed, done_cells, feed_cells}
use Rattle.demands.specs.Operations.{WearFeeds}
use Rattle.demands.specs.GivenPages.{Page, NoPage}
use Rattle.demands.specs.GivenFeeds.{fed_page, FeedFault}
use Rattle.demands.proofs.GivenOutputs.{within-puts, number-given, number-written}
use Rattle.demands.proofs.GivenPages.{page_or_not, load_page, load_none}

-- where there is a page, the ledger that the run leaves is stored
pub fed-loaded : (page s : List ℕ) (over : Bool) → (load_of new page).refusal ≡ 0 → page_fed page s over ≡ store_of new (cells_of (feed_run page s over).state.rows)
unfolding page_fed
fed-loaded page s over good = rw (eq-eqb _ 0 good)

module _ (page s : List ℕ) (okay : Octets page) (are : Octets s) (more : ℕ) where
  abbrev fed : Outcome
  fed = page_fed page s (is_over more)

  -- the ledger that the run leaves keeps the rules
  pub fed-kept : Kept (cells_of (feed_run page s (is_over more)).state.rows)
  fed-kept = let k = loaded-good Form.New page okay in kept_run (suc (length s)) s are (is_over more) _ (k.good, k.narrow)

  fed-stored : Page new page → fed ≡ puts (fed_page page s more)
  unfolding store_of
  fed-stored p =
      let rows : List Row = (feed_run page s (is_over more)).state.rows in
      fed-loaded page s (is_over more) (ap (λ (a : Answer). a.refusal) (load_page new page p)) ∙ rw (rules-kept (cells_of rows) fed-kept, rows_back rows)

  fed-none : NoPage new page → fed ≡ no rules_broken
  unfolding page_fed
  fed-none w = let bad : (load_of new page).refusal ≡ rules_broken = ap (λ (a : Answer). a.refusal) (load_none new page w) in rw bad

  fed-no : (n : ℕ) → (fed ≡ no n) ↔ (NoPage new page × (n ≡ rules_broken))
  fed-no n = (
    λ e. page_or_not new page (λ p. absurd (not_puts (sym e ∙ fed-stored p))) (λ w. (w, no_same (sym e ∙ fed-none w))),
    λ w. fed-none w.0 ∙ ap no (sym w.1),
  )

  fed-puts : (xs : List ℕ) → (fed ≡ puts xs) ↔ (Page new page × (fed_page page s more ≡ xs))
  fed-puts xs = (
    λ e. page_or_not new page (λ p. (p, puts-same (sym (fed-stored p) ∙ e))) (λ w. absurd (not_puts (sym (fed-none w) ∙ e))),
    λ w. fed-stored w.0 ∙ ap puts w.1,
  )

  module _ (l cells out after : List ℕ) (r : ℕ) (h : WearFeeds page s more l cells out after r) (enough : feed_cell_count ≤ length cells) where
    answered : r ≡ (outcome_listed (within (length l) fed)).refusal
    answered = rw (le-ltb (length cells) feed_cell_count enough) at h.0

    -- 16, where the page is none; 12, where it is one and the output is shorter than the page of the rows after the run.
    pub feed-given : (n : ℕ) → (n ≡ 0 → ⊥) → (r ≡ n) ↔ FeedFault page s more l n
    feed-given = number-given fed _ _ (fed_page page s more) fed-no fed-puts l r answered

    -- "0: accepted": else.
    pub feed_given_0 : (r ≡ 0) ↔ (Page new page × (length (fed_page page s more) ≤ length l))
    feed_given_0 = number-written fed _ _ (fed_page page s more) fed-no fed-puts l r answered (λ w. let z : ◌≡◌ {A = ℕ} 0 16 = w.1 in omega arith)

    -- Then that page goes out, and the cells tell of the run.
    pub puts_out : r ≡ 0 → within (length l) fed ≡ puts (fed_page page s more)
    puts_out e = let w = feed_given_0.0 e in within-puts fed _ _ (fed_page page s more) fed-no fed-puts l w.0 w.1

    pub feed-accepted : r ≡ 0
        → (out ≡ laid l 0 (fed_page page s more)) × (after ≡ laid cells 0 (done_cells (length (fed_page page s more)) (done_of (feed_run page s (is_over more)))))
    feed-accepted e =
        let few = le-ltb (length cells) feed_cell_count enough in
        let o : out ≡ output_of l (within (length l) fed) = rw few at h.1 in
        let c : after ≡ laid cells 0 (feed_cells (within (length l) fed) (feed_run page s (is_over more))) = rw few at h.2 in
        (rw (puts_out e) at o, rw (puts_out e) at c)
