use native.Mathlib.Omega.{arith}
use Rattle.ledger.proofs.KnownLaws.{note_row, note_gap, note_next, note_mark}
use Rattle.ledger.proofs.kept.KeptLedger.note_rows.Goals as goal
use Rattle.ledger.proofs.kept.KeptLedger.note_rows.Goals.{in-Ok, in-Ok-2, then-row-lt-NEAR, else-row-lt-NEAR}

pub loop-place-init : goal.loop-place-init
loop-place-init c =
    let kept = c.args.self.now.kept in
    elim c.match-find.branch [
      | in-Ok w ↦ rw w.from-is (note_row _ kept _ _ c.requires.1 _ w.in-Ok.ensures.row)
      | in-Ok-2 w ↦ rw w.from-is (note_gap _ kept _ _ c.requires.1 _ w.in-Ok.ensures.gap)
    ]

pub loop-place-preserved : goal.loop-place-preserved
loop-place-preserved c =
    let kept = c.args.self.now.kept in
    elim c.if-row-lt-NEAR.branch [
      | then-row-lt-NEAR w ↦ rw w.places-is (note_mark _ kept _ _ _ c.loop-place.invariant _ c.row_at-row.ensures
          (omega (arith, c.count_of-place-end.ensures)) (omega arith) (omega arith))
      | else-row-lt-NEAR w ↦ rw w.places-is (note_next _ kept _ _ _ c.loop-place.invariant)
    ]
