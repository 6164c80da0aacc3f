-- `item_walk`, which calls itself, and `record_walk`, which call each other: a case for each branch. Assumes nothing.
use mathlib.Core.Path.{refl, sym}
use native.Mathlib.Omega.{arith}
use borrow.Author.Rules.{rules}
use Rattle.octets.proofs.Refusals.{number-some}
use Rattle.layouts.specs.Categories.{category}
use Rattle.blocks.proofs.WalkSteps as steps
use Rattle.blocks.proofs.walk.+item_walk_record_walk.Goals as goal
use Rattle.blocks.proofs.walk.+item_walk_record_walk.Goals.{record_walk-In-Ok, record_walk-then-budget-eq0-via-then-budget-eq0, record_walk-then-budget-eq0-via-else-budget-eq0+then-block-at}

pub item_walk-returns-then-is_present : goal.item_walk-returns-then-is_present
item_walk-returns-then-is_present t c =
    let b = c.args.block.now in
    steps.rest-present _ _ _ _ _ _ _ _ _ _ (omega arith) c.in_default.ensures _ (steps.table b.cat b.known) (cc) _ c.record_walk.ensures

pub item_walk-returns-else-is_present : goal.item_walk-returns-else-is_present
item_walk-returns-else-is_present t c =
    let b = c.args.block.now in
    steps.rest-absent _ _ _ _ _ _ _ _ _ _ (omega arith) c.in_default.ensures _ (steps.table b.cat b.known) (cc)

pub item_walk-returns-in-Err : goal.item_walk-returns-in-Err
item_walk-returns-in-Err t c =
    let e = rw c.field_of-what.ensures at c.in-Err.ensures.0 in
    steps.rest-refused _ _ _ _ _ _ _ _ _ _ (omega arith) _ c.in-Some.ensures c.requires.4 _ e

pub item_walk-item_walk-requires : goal.item_walk-item_walk-requires
item_walk-item_walk-requires t c =
    let w = steps.item-within _ _ _ _ _ c.requires.0 (rw c.field_of-what.ensures at c.in-Ok.ensures.0) in
    (omega arith, (omega arith, omega arith, omega arith, omega arith, search rules))

pub item_walk-returns-in-Ok : goal.item_walk-returns-in-Ok
item_walk-returns-in-Ok t c =
    steps.rest_passed _ _ _ _ _ _ _ _ _ _ (omega arith) _ c.in-Some.ensures c.requires.4 _
    (rw c.field_of-what.ensures at c.in-Ok.ensures.0) _
    (rw c.field_of-what.ensures at c.type_behind-message_type.ensures) _ c.item_walk.ensures

-- what `record_walk` knows where a specification ends
spec_ends : (t : _) (c : record_walk-In-Ok t)
    → steps.Spec c.args.block.now.window.octets.now c.args.block.now.window.len (category c.args.block.now.cat) c.args.from.at c.in-Ok.p
spec_ends t c =
    let b = c.args.block.now in
    steps.spec_at _ _ _ _ _ (steps.table b.cat b.known) _ c.most_of.ensures _ c.in-Ok.ensures.0 b.window.small

pub record_walk-returns-then-budget-eq0 : goal.record_walk-returns-then-budget-eq0
record_walk-returns-then-budget-eq0 t c =
    elim c.then-budget-eq0.branch [
      | record_walk-then-budget-eq0-via-then-budget-eq0 w ↦ steps.run_none _ _ _ _ _ _ w.if-budget-eq0.true
      | record_walk-then-budget-eq0-via-else-budget-eq0+then-block-at w ↦ steps.run_end _ _ _ _ _ _ w.if-block-at.true
    ]

pub record_walk-returns-in-Err : goal.record_walk-returns-in-Err
record_walk-returns-in-Err t c =
    let b = c.args.block.now in
    steps.record_refused _ _ _ _ _ (steps.table b.cat b.known) _ c.most_of.ensures _ _ c.if-block-at.false (omega arith) _ c.in-Err.ensures.0

pub record_walk-marks_at-marks-requires : goal.record_walk-marks_at-marks-requires
record_walk-marks_at-marks-requires t c =
    let w = spec_ends t (goal.at.record_walk-marks_at-marks-requires t c).In-Ok in
    omega arith

pub record_walk-returns-in-Err-marks_refusal : goal.record_walk-returns-in-Err-marks_refusal
record_walk-returns-in-Err-marks_refusal t c =
    let b = c.args.block.now in
    let w = spec_ends t (goal.at.record_walk-returns-in-Err-marks_refusal t c).In-Ok in
    steps.record_unmarked _ _ _ _ _ (steps.table b.cat b.known) _ w _ _ c.if-block-at.false (omega arith)
    _ c.marks_at-marks.ensures _ c.in-Err-marks_refusal.ensures (number-some _)

pub record_walk-item_walk-requires : goal.record_walk-item_walk-requires
record_walk-item_walk-requires t c =
    let w = spec_ends t (goal.at.record_walk-item_walk-requires t c).In-Ok in
    (omega arith, (omega arith, omega arith, omega arith, omega arith, sym c.in-Ok-marks_refusal.ensures))

pub record_walk-returns-in-Ok-marks_refusal : goal.record_walk-returns-in-Ok-marks_refusal
record_walk-returns-in-Ok-marks_refusal t c =
    let b = c.args.block.now in
    let w = spec_ends t (goal.at.record_walk-returns-in-Ok-marks_refusal t c).In-Ok in
    steps.record_items _ _ _ _ _ (steps.table b.cat b.known) _ w _ _ c.if-block-at.false (omega arith)
    _ c.marks_at-marks.ensures _ c.in-Ok-marks_refusal.ensures refl _ c.item_walk.ensures
