use mathlib.Core.Path.{ap, ◌∙◌}
use Rattle.std.proofs.lemmas.Result.{err_from_is_err_and}
use Rattle.octets.specs.Choice.{pick}
use Rattle.octets.specs.Refusals.{life_passes}
use Rattle.ledger.specs.Reports.{entry_of}
use Rattle.ledger.proofs.LoopSteps as steps
use Rattle.ledger.proofs.kept.KeptLedger.add_all.Goals as goal

pub add_entry-requires-clause-room : goal.add_entry-requires-clause-room
add_entry-requires-clause-room c =
    let nth = c.entry_of.ensures ∙ ap (entry_of c.args.report.now.numbers) c.entry-entry.ensures in
    steps.add_room _ _ _ _ c.loop-i.self.kept _ c.loop-i.invariant _ nth c.loop-i-test.true

pub returns-in_err-add_entry-clause-refused : goal.returns-in_err-add_entry-clause-refused
returns-in_err-add_entry-clause-refused c =
    let p = err_from_is_err_and c.from_residual.result c.from_residual.ensures.1 in
    let w = steps.past-err _ _ c.in_err-add_entry.ensures.refused in
    let nth = c.entry_of.ensures ∙ ap (entry_of c.args.report.now.numbers) c.entry-entry.ensures in
    rw (p.1, p.2, w.1) (ap (λ b. pick b life_passes 0) (steps.add_past _ _ _ _ c.loop-i.self.kept _ c.loop-i.invariant _ nth c.loop-i-test.true w.0))

pub loop-i-preserved : goal.loop-i-preserved
loop-i-preserved c =
    let nth = c.entry_of.ensures ∙ ap (entry_of c.args.report.now.numbers) c.entry-entry.ensures in
    steps.add_more _ _ _ _ c.loop-i.self.kept _ c.loop-i.invariant _ nth c.loop-i-test.true
    _ (steps.past-ok _ c.in_ok-add_entry.ensures.refused) c.in_ok-add_entry.ensures.added

pub returns : goal.returns
returns c =
    let d = steps.add_end _ _ _ _ c.loop-i.self.kept _ c.loop-i.invariant c.loop-i-test.false in
    record { refused = ap (λ b. pick b life_passes 0) d.0; added = d.1 }
