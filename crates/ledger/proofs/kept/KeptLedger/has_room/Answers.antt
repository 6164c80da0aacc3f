use mathlib.Core.Path.{◌∙◌}
use native.Mathlib.Omega.{arith}
use Rattle.ledger.proofs.LoopSteps as steps
use borrow.Author.Rules.{rules}
use Rattle.ledger.proofs.kept.KeptLedger.has_room.Goals as goal
use Rattle.ledger.proofs.kept.KeptLedger.has_room.Goals.{then-not-counted-typ, else-not-counted-typ}

pub returns-then-rows-report-le-ROWS : goal.returns-then-rows-report-le-ROWS
returns-then-rows-report-le-ROWS c = steps.count-few _ _ _ (omega (arith, c.count_of-rows.ensures, c.if-rows-report-le-ROWS.true))

pub loop-i-init : goal.loop-i-init
loop-i-init c =
    rw c.count_of-rows.ensures (steps.count_none _ _ _ c.args.self.now.kept)

pub loop-i-preserved : goal.loop-i-preserved
loop-i-preserved c =
    let first = c.first_key-first.ensures.0 in
    elim c.if-not-counted-typ.branch [
      | then-not-counted-typ w ↦ rw (w.rows-is, w.counted-is) (steps.count-new _ _ _ _ _ _ c.loop-i.invariant _ c.entry-entry.ensures
          c.loop-i-test.true (search rules) w.if-not-counted-typ.true _ (w.new_rows-rows.ensures ∙ rw first))
      | else-not-counted-typ w ↦ rw (w.rows-is, w.counted-is) (steps.count_seen _ _ _ _ _ _ c.loop-i.invariant _ c.entry-entry.ensures
          c.loop-i-test.true (search rules) w.if-not-counted-typ.false)
    ]

pub returns : goal.returns
returns c = steps.count-end _ _ _ _ _ _ c.loop-i.invariant c.loop-i-test.false
