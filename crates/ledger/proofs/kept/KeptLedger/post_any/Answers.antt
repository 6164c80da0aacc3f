-- `post_any`: no room; a life count that passes; all entries added up. Assumes nothing.
use mathlib.Core.Path.{sym, ◌∙◌}
use borrow.Author.Tests.{leb-true}
use Rattle.std.proofs.lemmas.Result.{err_from_is_err_and}
use Rattle.ledger.proofs.LoopSteps.{past-err, past-ok}
use Rattle.ledger.proofs.PostSteps.{no_room_lem, life-passes, all-added}
use Rattle.ledger.proofs.kept.KeptLedger.post_any.Goals as goal

pub returns-then-not-has_room : goal.returns-then-not-has_room
returns-then-not-has_room c = no_room_lem _ c.args.self.now.kept _ _ c.has_room.ensures c.if-not-has_room.true

pub returns-in_err-add_all : goal.returns-in_err-add_all
returns-in_err-add_all c =
    let p = err_from_is_err_and c.from_residual.result c.from_residual.ensures.1 in
    let w = past-err _ _ c.in_err-add_all.ensures.refused in
    rw (p.1, p.2, w.1) (life-passes _ c.args.self.now.kept _ (leb-true _ _ (sym c.has_room.ensures ∙ c.if-not-has_room.false)) (sym w.0))

pub returns : goal.returns
returns c =
    let d = c.in_ok-add_all.ensures in
    all-added _ c.args.self.now.kept _ (leb-true _ _ (sym c.has_room.ensures ∙ c.if-not-has_room.false)) (past-ok _ d.refused) _ d.added
