-- A feed may be handed over at its door in pieces: where a call waits for more, a second one on the page that it stored, over the octets that it did not
-- use and those that follow, does what one call over all of them does. Assumes nothing.
use mathlib.Core.Bool.{Bool}
use mathlib.Core.List.{List, ◌++◌}
use mathlib.Core.Path.{◌≡◌, refl, sym, ap, ◌∙◌, subst}
use Prim.Native.Nat.{ℕ, ◌+◌, ◌≤◌, ◌<◌}
use native.Mathlib.Omega.{arith}
use borrow.Author.Tests.{ltb-true, ltb-false, le-ltb}
use lib.ListN.{length, get_or, take, drop, get_or-append}
use lib.Seq.{take_at}
use Rattle.octets.specs.Numbers.{Octets, laid}
use Rattle.octets.specs.Outcomes.{puts, within}
use Rattle.octets.proofs.Cases.{test}
use Rattle.octets.proofs.Parts.{Octets-take}
use Rattle.ledger.specs.Ledgers.{answer, rows_of, cells_of}
use Rattle.pages.specs.Pages.{new, page_of, load_of, store_of}
use Rattle.ledger.specs.Answer.{Answer}
use Rattle.ledger.proofs.CellLaws.{rows_back}
use Rattle.pages.proofs.PageTheorems.{kept_load}
use Rattle.feed.specs.Runs.{state, Run, behind, run_over, zeros, done_of}
use Rattle.feed.specs.Totals.{up}
use Rattle.feed.specs.declared.run.Ending.{Ending}
use Rattle.feed.specs.declared.run.Ending.TheVariants as ending
use Rattle.feed.proofs.CountedRuns.{counting, counted-more}
use Rattle.doors.specs.Cell as wear
use Rattle.doors.specs.Cell.{feed_cell_count}
use Rattle.doors.specs.Answers.{is_few, put_refusal, put_output}
use Rattle.doors.specs.Feeds.{is_over, feed_run, page_fed, left_off, done_cells, feed_cells}
use Rattle.demands.specs.Operations.{WearFeeds}
use Rattle.demands.specs.GivenFeeds.{fed_page}
use Rattle.demands.specs.Pieces.{Waits, stored, unused, Together}
use Rattle.demands.proofs.Demand1.{few_feeding}
use Rattle.demands.proofs.GivenPages.{load_page}
use Rattle.demands.proofs.GivenFeeds.{fed-kept, fed-loaded, feed_given_0, puts_out, feed-accepted}

-- a call that is accepted has its cells
enough : (page s : List ℕ) (more : ℕ) (l cells out after : List ℕ) (r : ℕ) → WearFeeds page s more l cells out after r → r ≡ 0 → feed_cell_count ≤ length cells
enough page s more l cells out after r h e =
    test (is_few feed_cell_count cells)
    (λ t. absurd (let z : ◌≡◌ {A = ℕ} 0 12 = sym e ∙ (few_feeding page s more l cells out after r h (ltb-true _ _ t)).0 in omega arith))
    (λ f. ltb-false _ _ f)

-- what stands in the first of the cells
cell-told : (cells after p : List ℕ) → after ≡ laid cells 0 p → (i : ℕ) → i < length p → get_or after i 0 ≡ get_or p i 0
unfolding laid
cell-told cells after p e i h = ap (λ c. get_or c i 0) e ∙ get_or-append p (drop (0 + length p) cells) 0 i h

left-more : (e : Ending) → left_off e ≡ left_off Ending.More → e ≡ Ending.More
left-more ending.Ended h = absurd (omega arith)
left-more ending.Stopped h = absurd (omega arith)
left-more ending.More h = refl

module _ (page s t : List ℕ) (okay : Octets page) (are : Octets (s ++ t)) (more : ℕ) (l cells out after : List ℕ)
    (first : WearFeeds page s more l cells out after 0) (waits : Waits after) where
  abbrev run : Run
  run = feed_run page s (is_over more)

  front : Octets s
  front = subst Octets (take_at s t (length s) refl) (Octets-take (length s) (s ++ t) are)

  held : feed_cell_count ≤ length cells
  held = enough page s more l cells out after 0 first refl

  abbrev says : (out ≡ laid l 0 (fed_page page s more)) × (after ≡ laid cells 0 (done_cells (length (fed_page page s more)) (done_of run)))
  says = feed-accepted page s okay front more l cells out after 0 first held refl

  told : (i : ℕ) → i < feed_cell_count → get_or after i 0 ≡ get_or (done_cells (length (fed_page page s more)) (done_of run)) i 0
  told = cell-told cells after _ says.1

  -- the page that was stored is that of the run's rows, and these are loaded from it
  page-stored : stored after out ≡ fed_page page s more
  unfolding laid
  page-stored =
      (λ i. take (told wear.feed_page (omega arith) i) (says.0 i)) ∙ take_at (fed_page page s more) _ _ refl

  loads : load_of new (stored after out) ≡ answer 0 (cells_of run.state.rows)
  loads =
      ap (load_of new) (page-stored ∙ ap (page_of new) (sym (rows_back run.state.rows))) ∙ kept_load (cells_of run.state.rows) (fed-kept page s okay front more)

  -- the run of the second call, and the run over all
  module _ (over : Bool) where
    abbrev second_run : Run
    second_run = feed_run (stored after out) (unused after s ++ t) over

    goes_on : second_run ≡ run_over (drop run.at s ++ t) over (state run.state.rows zeros)
    goes_on =
        let rows = ap (λ (a : Answer). rows_of a.ledger.cells) loads ∙ rows_back run.state.rows in
        λ i. run_over (drop (told wear.feed_used (omega arith) i) s ++ t) over (state (rows i) zeros)

    whole_run : feed_run page (s ++ t) over ≡ behind run.at (counting run.state.totals second_run)
    whole_run =
        counted-more s t (is_over more) over _ are (left-more run.ending (sym (told wear.feed_left_off (omega arith)) ∙ waits))
        ∙ ap (λ (r : Run). behind run.at (counting run.state.totals r)) (sym goes_on)

    same-fed : page_fed (stored after out) (unused after s ++ t) over ≡ page_fed page (s ++ t) over
    same-fed =
        let good = ap (λ (a : Answer). a.refusal) (load_page new page ((feed_given_0 page s okay front more l cells out after 0 first held).0 refl).0) in
        fed-loaded (stored after out) (unused after s ++ t) over (ap (λ (a : Answer). a.refusal) loads)
        ∙ ap (λ (r : Run). store_of new (cells_of r.state.rows)) (sym whole_run) ∙ sym (fed-loaded page (s ++ t) over good)

  -- Two calls, and one over the whole, with the same output and cells lent.
  module _ (more' : ℕ) (l' cells' out₂ after₂ out' after' : List ℕ) (r₂ r' : ℕ)
      (second : WearFeeds (stored after out) (unused after s ++ t) more' l' cells' out₂ after₂ r₂)
      (whole : WearFeeds page (s ++ t) more' l' cells' out' after' r') where
    -- The second call stores the page that the one call stores, or is refused as it is.
    pub pieces_page : (r₂ ≡ r') × (out₂ ≡ out')
    pieces_page =
        let same = same-fed (is_over more') in (
          second.0 ∙ ap (λ x. put_refusal (is_few feed_cell_count cells') (within (length l') x)) same ∙ sym whole.0,
          second.1 ∙ ap (λ x. put_output (is_few feed_cell_count cells') l' (within (length l') x)) same ∙ sym whole.1,
        )

    -- And what the cells of both say is what those of the one call say.
    pub pieces_counts : r' ≡ 0 → Together after after₂ after'
    pieces_counts e =
        let over = is_over more' in
        let n = length (fed_page page (s ++ t) more') in
        let has = enough page (s ++ t) more' l' cells' out' after' r' whole e in
        let put : within (length l') (page_fed (stored after out) (unused after s ++ t) over) ≡ puts (fed_page page (s ++ t) more')
        = ap (within (length l')) (same-fed over) ∙ puts_out page (s ++ t) okay are more' l' cells' out' after' r' whole has e in
        let second-laid : after₂ ≡ laid cells' 0 (done_cells n (done_of (second_run over)))
        = (rw (le-ltb (length cells') feed_cell_count has) at second.2) ∙ ap (λ x. laid cells' 0 (feed_cells x (second_run over))) put in
        let whole-laid : after' ≡ laid cells' 0 (done_cells n (done_of (behind run.at (counting run.state.totals (second_run over)))))
        = (feed-accepted page (s ++ t) okay are more' l' cells' out' after' r' whole has e).1
        ∙ ap (λ (r : Run). laid cells' 0 (done_cells n (done_of r))) (whole_run over) in
        let two = cell-told cells' after₂ _ second-laid in
        let one = cell-told cells' after' _ whole-laid in
        let added : (f : ℕ → ℕ → ℕ) (i : ℕ) → i < feed_cell_count
        → get_or (done_cells n (done_of (behind run.at (counting run.state.totals (second_run over))))) i 0
        ≡ f (get_or (done_cells (length (fed_page page s more)) (done_of run)) i 0) (get_or (done_cells n (done_of (second_run over))) i 0)
        → get_or after' i 0 ≡ f (get_or after i 0) (get_or after₂ i 0)
        = λ f i h is. one i h ∙ is ∙ (λ p. f (sym (told i h) p) (sym (two i h) p)) in
        record {
          page = added (λ m k. k) wear.feed_page (omega arith) refl;
          used = added (λ m k. m + k) wear.feed_used (omega arith) refl;
          left = added (λ m k. k) wear.feed_left_off (omega arith) refl;
          accepted = added up wear.feed_accepted (omega arith) refl;
          refused = added up wear.feed_refused (omega arith) refl;
          posted = added up wear.feed_posted (omega arith) refl;
          unposted = added up wear.feed_unposted (omega arith) refl;
        }
