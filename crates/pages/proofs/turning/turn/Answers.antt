-- `turn`: the refusal of loading, or what storing says. Assumes nothing.
use mathlib.Core.Path.{◌≡◌, sym, ap, ◌∙◌}
use Rattle.std.proofs.lemmas.Result.{err_from_is_err_and}
use Rattle.octets.specs.Outcomes.{no}
use Rattle.octets.proofs.Outcomes.{says-no}
use Rattle.ledger.specs.Ledgers.{rows_of}
use Rattle.ledger.proofs.CellLaws.{rows_back}
use Rattle.pages.specs.Pages.{tables_of, rows_in, turn_of}
use Rattle.pages.proofs.turning.turn.Goals as goal

pub returns-in_err-ledger : goal.returns-in_err-ledger
unfolding turn_of
returns-in_err-ledger c =
    let p = err_from_is_err_and c.from_residual.result c.from_residual.ensures.1 in
    let w = c.in_err-ledger.ensures.broken in
    rw (p.1, p.2) (says-no _ _ _ (rw w.0 (ap no (sym w.1))))

pub returns : goal.returns
unfolding turn_of
returns c =
    let w = c.in_ok-ledger.ensures.kept in
    let same : rows_of c.in_ok-ledger.ledger.cells ≡ rows_in (tables_of c.args.from) c.args.page.now = ap rows_of w.1 ∙ rows_back _ in
    rw (w.0, ← same) c.store_kept.ensures
