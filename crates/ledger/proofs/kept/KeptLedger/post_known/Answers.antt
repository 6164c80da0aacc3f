use native.Mathlib.Omega.{arith}
use Rattle.ledger.proofs.KnownLaws.{noted-none, known-adds, known-none, add_fits, known_more, known_kept}
use Rattle.ledger.proofs.LoopSteps.{add_end}
use Rattle.ledger.proofs.PostSteps.{all-added}
use Rattle.ledger.proofs.kept.KeptLedger.post_known.Goals as goal

pub all_known-requires : goal.all_known-requires
all_known-requires c = noted-none _ _

pub loop-i-init : goal.loop-i-init
loop-i-init c = known-none _ _ _ c.args.self.now.kept _ (c.all_known.ensures c.if-not-all_known.false)

pub add_at-requires : goal.add_at-requires
add_at-requires c =
    add_fits _ _ _ c.args.self.now.kept _ (c.all_known.ensures c.if-not-all_known.false) _ c.loop-i.self.kept _ c.loop-i.invariant
    _ c.entry-entry.ensures _ c.entry_of.ensures c.loop-i-test.true _ c.unwrap-place.ensures

pub invariant_of-self : goal.invariant_of-self
invariant_of-self c =
    let keeps = known_kept _ _ _ c.args.self.now.kept _ (c.all_known.ensures c.if-not-all_known.false) _ c.loop-i.self.kept _ c.loop-i.invariant
    _ c.entry-entry.ensures _ c.entry_of.ensures c.loop-i-test.true _ c.unwrap-place.ensures _ c.add_at.ensures in
    record { kept = keeps (omega arith) c.args.report.now.reported.day }

pub loop-i-preserved : goal.loop-i-preserved
loop-i-preserved c =
    known_more _ _ _ c.args.self.now.kept _ (c.all_known.ensures c.if-not-all_known.false) _ c.loop-i.self.kept _ c.loop-i.invariant
    _ c.entry-entry.ensures _ c.entry_of.ensures c.loop-i-test.true _ c.unwrap-place.ensures _ c.add_at.ensures

pub returns-clause-posted : goal.returns-clause-posted
returns-clause-posted c q =
    let kept = c.args.self.now.kept in
    let may = known-adds _ kept _ _ _ (c.all_known.ensures c.if-not-all_known.false) in
    all-added _ kept _ may.0 may.1 _ (add_end _ _ _ _ c.loop-i.self.kept _ c.loop-i.invariant.added c.loop-i-test.false).1
