-- A feed at the doors: the blocks at hand posted to the ledger of a page, as the program `wear` does, and the ledger stored as a page.
use Rattle.std.specs.Prelude.{Bool, List, [], ◌∷◌, ℕ, eqb, length, replicate}
use Rattle.octets.specs.Choice.{pick}
use Rattle.octets.specs.Outcomes.{Outcome, no, puts, answer_of}
use Rattle.octets.specs.Written.{Written}
use Rattle.octets.specs.Written as written
use Rattle.ledger.specs.Ledgers.{rows_of, cells_of}
use Rattle.pages.specs.Pages.{new, load_of, store_of}
use Rattle.feed.specs.Runs.{state, Run, run_over, zeros, done_of}
use Rattle.feed.specs.declared.run.Done.{Done}
use Rattle.feed.specs.declared.run.Ending.{Ending}
use Rattle.feed.specs.declared.run.Ending.TheVariants as ending
use Rattle.doors.specs.Cell.{feed_cell_count}
use Rattle.doors.specs.Fed.{Fed}

-- whether the input ends with these octets: `more` is 0 where it does, and any other number where more may come
abbrev pub is_over : ℕ → Bool
is_over more = eqb more 0

-- the run over the octets from the ledger of a page, with totals from zero
abbrev pub feed_run : List ℕ → List ℕ → Bool → Run
feed_run page s over = run_over s over (state (rows_of (load_of new page).ledger.cells) zeros)

-- What is put out: load's refusal, or the ledger of the rows that the run leaves. Blocks that are refused are counted, not answered.
unfoldable pub page_fed : List ℕ → List ℕ → Bool → Outcome
page_fed page s over =
    pick (eqb (load_of new page).refusal 0) (store_of new (cells_of (feed_run page s over).state.rows)) (no (load_of new page).refusal)

-- What goes into the cells

-- WEAR_ENDED, WEAR_STOPPED, WEAR_MORE
abbrev pub left_off : Ending → ℕ
left_off ending.Ended = 0
left_off ending.Stopped = 1
left_off ending.More = 2

-- the octets of the page, the octets used, how the run left off, blocks accepted and refused, records posted and unposted
abbrev pub done_cells : ℕ → Done → List ℕ
done_cells size d =
    let t = d.totals in
    size ∷ d.at ∷ left_off d.ending ∷ t.accepted ∷ t.refused ∷ t.posted ∷ t.unposted ∷ []

-- all zero on refusal
abbrev pub feed_cells : Outcome → Run → List ℕ
feed_cells (no n) r = replicate feed_cell_count 0
feed_cells (puts xs) r = done_cells (length xs) (done_of r)

-- What became of a feed, as the functions hand it on: what storing answered, and what the run did

abbrev pub fed_by : Done → Written → Fed
fed_by d (written.Octets size) = Fed.Stored size d
fed_by d (written.Refused n) = Fed.Refused n

abbrev pub fed_of : Outcome → Run → Fed
fed_of x r = fed_by (done_of r) (answer_of x)
