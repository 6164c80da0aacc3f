use mathlib.Core.Path.{◌∙◌}
use native.Mathlib.Omega.{arith}
use Rattle.feed.proofs.BlockReports.{head}
use Rattle.feed.proofs.BlockSteps as steps
use Rattle.feed.proofs.block.post_block.Goals as goal

pub bounds-s-0 : goal.bounds-s-0
bounds-s-0 c =
    let g = head _ _ _ (λ j. (c.type_inv.s j).fits) c.requires.1 in
    omega (arith, g.least, g.fits)

pub returns-then-s-ne-CATEGORY : goal.returns-then-s-ne-CATEGORY
returns-then-s-ne-CATEGORY c =
    let e = steps.other-category _ _ _ (λ j. (c.type_inv.s j).fits) c.requires.1 c.if-s-ne-CATEGORY.true _ c.args.totals
    c.args.ledger.now.kept (omega (arith, c.well_formed)) in
    (e.0, c.with_accepted.ensures ∙ e.1)

pub loop-at-init : goal.loop-at-init
loop-at-init c =
    steps.posting-none _ _ _ (λ j. (c.type_inv.s j).fits) c.requires.1 _ _ (omega arith)

pub see-seen-requires : goal.see-seen-requires
see-seen-requires c =
    (c.loop-at-test.true, (head _ _ _ (λ j. (c.type_inv.s j).fits) c.requires.1).fits)

pub invariant_of-report : goal.invariant_of-report
invariant_of-report c = record {
  reported =
      steps.report-lies _ _ _ (λ j. (c.type_inv.s j).fits) c.requires.1 _ _ _ _ _ c.loop-at.invariant
      c.loop-at-test.true c.if-s-ne-CATEGORY.false _ c.see-seen.ensures _ c.see-seen.result.next (rw c.in-Some.is);
  small = λ j. (c.type_inv.s j).fits;
}

pub loop-at-smaller-in-Some : goal.loop-at-smaller-in-Some
loop-at-smaller-in-Some c =
    let f = steps.report-forward _ _ _ (λ j. (c.type_inv.s j).fits) c.requires.1 _ _ _ _ _ c.loop-at.invariant
    c.loop-at-test.true c.if-s-ne-CATEGORY.false _ c.see-seen.ensures c.in-Some.numbers c.see-seen.result.next (rw c.in-Some.is) in
    omega (arith, c.loop-at-test.true)

pub loop-at-preserved-in-Some : goal.loop-at-preserved-in-Some
loop-at-preserved-in-Some c =
    steps.posting-report _ _ _ (λ j. (c.type_inv.s j).fits) c.requires.1 _ _ _ _ _ c.loop-at.invariant
    c.loop-at-test.true c.if-s-ne-CATEGORY.false _ c.see-seen.ensures _ _ (rw c.in-Some.is) c.loop-at.ledger.kept _ _ c.post_report.ensures
    _ c.counted-after.ensures

pub loop-at-smaller : goal.loop-at-smaller
loop-at-smaller c =
    let f = steps.other-forward _ _ _ (λ j. (c.type_inv.s j).fits) c.requires.1 _ _ _ _ _ c.loop-at.invariant
    c.loop-at-test.true c.if-s-ne-CATEGORY.false _ c.see-seen.ensures c.see-seen.result.next (rw c.in_default.is) in
    omega (arith, c.loop-at-test.true)

pub loop-at-preserved : goal.loop-at-preserved
loop-at-preserved c =
    steps.posting-other _ _ _ (λ j. (c.type_inv.s j).fits) c.requires.1 _ _ _ _ _ c.loop-at.invariant
    c.loop-at-test.true c.if-s-ne-CATEGORY.false _ c.see-seen.ensures _ (rw c.in_default.is)

pub returns : goal.returns
returns c =
    let e = steps.posting-end _ _ _ (λ j. (c.type_inv.s j).fits) c.requires.1 _ _ _ _ _ c.loop-at.invariant
    c.loop-at.ledger.kept c.loop-at-test.false in
    (e.0, c.with_accepted-2.ensures ∙ e.1)
