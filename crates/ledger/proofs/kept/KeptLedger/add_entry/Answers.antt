-- `add_entry`: the key has a row, or there is one more; or its life count would pass. Assumes nothing.
use mathlib.Core.List.{List, ◌∷◌, ◌++◌}
use mathlib.Core.Path.{◌≡◌, ap, sym, ◌∙◌, subst}
use Prim.Native.Nat.{ℕ, ◌≤◌, ◌^◌}
use lib.Dec.{leb}
use lib.ListN.{length, take, drop}
use Rattle.std.proofs.lemmas.Result.{err_from_is_err_and}
use Rattle.octets.specs.Choice.{pick}
use Rattle.octets.specs.Refusals.{life_passes}
use Rattle.rows.specs.Rows.{Row, Entry, new_row, add_up, row_of, life_of}
use Rattle.rows.specs.Posting.{add_entry}
use Rattle.ledger.specs.Ledgers.{row_in, rows_of, cells_of, put_row}
use Rattle.ledger.specs.Reports.{as_entry}
use Rattle.ledger.specs.Steps.{Kept, Few, RowAt, GapAt}
use Rattle.ledger.proofs.LoopSteps.{past-ok}
use Rattle.ledger.proofs.NarrowLaws.{added_kept}
use Rattle.ledger.proofs.PlaceLaws.{row-life, row-adds, new-life, new-adds, new-room}
use Rattle.ledger.proofs.kept.KeptLedger.add_entry.Goals as goal

-- what the row's answer and the sum in its place make of the whole
module _ (cells : List ℕ) (k : Kept cells) (e : Entry) where
  abbrev next : List Row
  next = add_entry add_up (rows_of cells) e

  abbrev Told : ℕ → ℕ → Type 0
  Told n life = n ≡ pick (leb (2 ^ 64) life) life_passes 0

  module _ (i : ℕ) (a : RowAt cells e.key i) (was : Row) (is : was ≡ row_in cells i) where
    row-told : (n : ℕ) → Told n (add_up was e).life → Told n (life_of (row_of next e.key))
    row-told n t = subst (Told n) (ap (λ r. (add_up r e).life) is ∙ row-life cells k e i a) t

    row-added : (after : Row) → after ≡ add_up was e → (m : List ℕ) → m ≡ put_row cells i after → m ≡ cells_of next
    row-added after sum m put = put ∙ ap (put_row cells i) (sum ∙ ap (λ r. add_up r e) is) ∙ row-adds add_up cells k e i a

  module _ (i : ℕ) (f : GapAt cells e.key i) (was : Row) (is : was ≡ new_row e.key) where
    new-told : (n : ℕ) → Told n (add_up was e).life → Told n (life_of (row_of next e.key))
    new-told n t = subst (Told n) (ap (λ r. (add_up r e).life) is ∙ new-life cells k e i f) t

    new-added : (after : Row) → after ≡ add_up was e → (m : List ℕ) → m ≡ cells_of (take i (rows_of cells) ++ after ∷ drop i (rows_of cells))
        → m ≡ cells_of next
    new-added after sum m put =
        put ∙ ap (λ r. cells_of (take i (rows_of cells) ++ r ∷ drop i (rows_of cells))) (sum ∙ ap (λ r. add_up r e) is) ∙ new-adds cells k e i f

  keeps : Few e → length next ≤ 256 → Told 0 (life_of (row_of next e.key)) → (m : List ℕ) → m ≡ cells_of next → Kept m
  keeps few room t m adds = subst Kept (sym adds) (added_kept cells k e few room (past-ok _ t))

-- the key has a row
pub returns-in_err-row-in-Ok-clause-refused : goal.returns-in_err-row-in-Ok-clause-refused
returns-in_err-row-in-Ok-clause-refused c =
    let p = err_from_is_err_and c.from_residual.result c.from_residual.ensures.1 in
    rw (p.1, p.2) (row-told _ c.args.self.now.kept _ _ c.in-Ok.ensures.row _ c.row_at.ensures _ c.in_err-row-in-Ok.ensures.refused)

pub returns-in_ok-row-in-Ok-clause-refused : goal.returns-in_ok-row-in-Ok-clause-refused
returns-in_ok-row-in-Ok-clause-refused c =
    row-told _ c.args.self.now.kept _ _ c.in-Ok.ensures.row _ c.row_at.ensures _ c.in_ok-row-in-Ok.ensures.refused

pub returns-in_ok-row-in-Ok-clause-added : goal.returns-in_ok-row-in-Ok-clause-added
returns-in_ok-row-in-Ok-clause-added c =
    row-added _ c.args.self.now.kept _ _ c.in-Ok.ensures.row _ c.row_at.ensures _ c.in_ok-row-in-Ok.ensures.sum _ c.put_row.ensures

pub invariant_of-self : goal.invariant_of-self
invariant_of-self c =
    let k = c.args.self.now.kept in
    let e = as_entry c.args.entry in
    let told = row-told _ k e _ c.in-Ok.ensures.row _ c.row_at.ensures _ c.in_ok-row-in-Ok.ensures.refused in
    let adds = row-added _ k e _ c.in-Ok.ensures.row _ c.row_at.ensures _ c.in_ok-row-in-Ok.ensures.sum _ c.put_row.ensures in
    record { kept = keeps _ k e c.requires.few c.requires.room told _ adds }

-- it has none
pub returns-in_err-row-in-Err-clause-refused : goal.returns-in_err-row-in-Err-clause-refused
returns-in_err-row-in-Err-clause-refused c =
    let p = err_from_is_err_and c.from_residual-in_err-row-in-Err.result c.from_residual-in_err-row-in-Err.ensures.1 in
    rw (p.1, p.2) (new-told _ c.args.self.now.kept _ _ c.in-Err.ensures.gap _ c.new_row.ensures _ c.in_err-row-in-Err.ensures.refused)

pub open-requires : goal.open-requires
open-requires c =
    let k = c.args.self.now.kept in
    let gap = c.in-Err.ensures.gap in
    (k, gap.within, new-room _ k (as_entry c.args.entry) _ gap c.requires.room)

pub returns-in_ok-row-in-Err-clause-refused : goal.returns-in_ok-row-in-Err-clause-refused
returns-in_ok-row-in-Err-clause-refused c =
    new-told _ c.args.self.now.kept _ _ c.in-Err.ensures.gap _ c.new_row.ensures _ c.in_ok-row-in-Err.ensures.refused

pub returns-in_ok-row-in-Err-clause-added : goal.returns-in_ok-row-in-Err-clause-added
returns-in_ok-row-in-Err-clause-added c =
    new-added _ c.args.self.now.kept _ _ c.in-Err.ensures.gap _ c.new_row.ensures _ c.in_ok-row-in-Err.ensures.sum _ c.open.ensures

pub invariant_of-self-in-Err : goal.invariant_of-self-in-Err
invariant_of-self-in-Err c =
    let k = c.args.self.now.kept in
    let e = as_entry c.args.entry in
    let told = new-told _ k e _ c.in-Err.ensures.gap _ c.new_row.ensures _ c.in_ok-row-in-Err.ensures.refused in
    let adds = new-added _ k e _ c.in-Err.ensures.gap _ c.new_row.ensures _ c.in_ok-row-in-Err.ensures.sum _ c.open.ensures in
    record { kept = keeps _ k e c.requires.few c.requires.room told _ adds }
