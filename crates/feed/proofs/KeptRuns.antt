-- A run keeps the ledger's rules. Assumes nothing.
use mathlib.Core.Bool.{Bool}
use mathlib.Core.List.{List, [], ◌∷◌}
use mathlib.Core.Path.{◌≡◌, refl, sym, subst}
use Prim.Native.Nat.{ℕ, zero, suc}
use lib.ListN.{drop}
use Rattle.octets.specs.Numbers.{Octets}
use Rattle.octets.proofs.Parts.{Octets-drop}
use Rattle.blocks.specs.Steps.{step_of}
use Rattle.blocks.specs.Step.{Step}
use Rattle.blocks.specs.Step as step
use Rattle.blocks.proofs.StepLaws.{of_step}
use Rattle.rows.specs.Rows.{Row, add_up}
use Rattle.rows.specs.Posting.{Report, entries, post_rows, after}
use Rattle.ledger.specs.Ledgers.{cells_of}
use Rattle.ledger.specs.Reports.{report_in}
use Rattle.ledger.specs.Steps.{Ruled, Kept}
use Rattle.ledger.proofs.CellLaws.{kept_of}
use Rattle.ledger.proofs.NarrowLaws.{Fit, record_fits, post_ruled}
use Rattle.ledger.proofs.ReportLaws.{lies}
use Rattle.feed.specs.Blocks.{next_of, reports_from, reports_of}
use Rattle.feed.specs.Runs.{State, go_on, run_from}
use Rattle.feed.specs.declared.run.Ending.TheVariants as ending
use Rattle.feed.specs.declared.block.Next.{Next}
use Rattle.feed.specs.declared.block.Next.TheVariants as next
use Rattle.feed.proofs.BlockReports.{reports_step}

-- reports in turn, whose entries fit
abbrev AllFit : List Report → Type 0
AllFit [] = Unit {0}
AllFit (x ∷ rs) = Fit (entries x) × AllFit rs

after-ruled : (rows : List Row) (rs : List Report) → Ruled rows → AllFit rs → Ruled (after add_up rows rs)
unfolding after
after-ruled rows [] w f = w
after-ruled rows (x ∷ rs) w f = after-ruled (post_rows add_up rows x).rows rs (post_ruled rows x w f.0) f.1

-- those of a block do
reports_fit : (s : List ℕ) → Octets s → (n at : ℕ) → AllFit (reports_from s n at)
reports_fit s o zero at = unfold reports_from in tt
reports_fit s o (suc n) at = subst AllFit (sym (reports_step s n at)) (go (reports_fit s o n) (step_of s at) refl)
  where
    go : ((to : ℕ) → AllFit (reports_from s n to)) → (x : Step) → x ≡ step_of s at
        → AllFit (of_step (λ m q. []) (λ t to. report_in s t ∷ reports_from s n to) x)
    go ih (step.Refused m q) e = tt
    go ih (step.Taken t c) e = (record_fits s t (lies s at t c o e), ih c.at)

pub block-ruled : (rows : List Row) (s : List ℕ) → Octets s → Ruled rows → Ruled (after add_up rows (reports_of s))
block-ruled rows s o w = after-ruled rows (reports_of s) w (reports_fit s o _ 3)

-- block after block
run-ruled : (n : ℕ) (s : List ℕ) → Octets s → (over : Bool) (st : State) → Ruled st.rows → Ruled (run_from n s over st).state.rows
unfolding run_from
run-ruled zero s o over st w = w
run-ruled (suc n) s o over st w = go (λ len to. run-ruled n (drop len s) (Octets-drop len s o) over to) (next_of s over)
  where
    go : ((len : ℕ) (to : State) → Ruled to.rows → Ruled (run_from n (drop len s) over to).state.rows) → (x : Next)
        → Ruled (go_on s st (λ len to. run_from n (drop len s) over to) x).state.rows
    go ih (next.Left ending.Ended) = w
    go ih (next.Left ending.Stopped) = w
    go ih (next.Left ending.More) = w
    go ih (next.Skipped len) = ih len _ w
    go ih (next.Accepted len) = ih len _ (block-ruled st.rows s o w)

-- so the ledger of its rows keeps them
pub kept_run : (n : ℕ) (s : List ℕ) → Octets s → (over : Bool) (st : State) → Ruled st.rows → Kept (cells_of (run_from n s over st).state.rows)
kept_run n s o over st w = kept_of (run_from n s over st).state.rows (run-ruled n s o over st w)
