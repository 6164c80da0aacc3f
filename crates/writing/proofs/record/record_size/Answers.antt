-- `record_size`: refusal after refusal, and then the octets. Assumes nothing.
use mathlib.Core.Path.{sym, ◌∙◌}
use native.Mathlib.Omega.{arith}
use Rattle.std.proofs.lemmas.Result.{err_from_is_err_and}
use Rattle.octets.proofs.Refusals.{number-some}
use Rattle.blocks.specs.Meaning.{sevens}
use Rattle.writing.proofs.MarksWritten.{length-marks, marks-few}
use Rattle.writing.proofs.OctetsWritten.{marks-short}
use Rattle.writing.proofs.RecordWritten.{size_few, size-unknown, size-marks, size-items, size-absent, size-octets}
use Rattle.writing.proofs.record.record_size.Goals as goal

pub returns-then-not-is_known : goal.returns-then-not-is_known
returns-then-not-is_known c = size-unknown _ _ (sym c.is_known.ensures ∙ c.if-not-is_known.true)

pub returns-in_err-marks_refusal : goal.returns-in_err-marks_refusal
returns-in_err-marks_refusal c =
    let p = err_from_is_err_and c.from_residual.result c.from_residual.ensures.1 in
    rw (p.1, p.2)
    (size-marks _ _ (sym c.is_known.ensures ∙ c.if-not-is_known.false) _ c.in_err-marks_refusal.ensures (number-some _))

pub items_size-requires : goal.items_size-requires
items_size-requires c = sym c.is_known.ensures ∙ c.if-not-is_known.false

pub returns-in_err-size : goal.returns-in_err-size
returns-in_err-size c =
    let p = err_from_is_err_and c.from_residual-in_err-size.result c.from_residual-in_err-size.ensures.1 in
    rw (p.1, p.2)
    (size-items c.args.source.now c.args.«record» (sym c.is_known.ensures ∙ c.if-not-is_known.false)
    (sym c.in_ok-marks_refusal.ensures) _ c.in_err-size.ensures)

pub marks_octets-requires : goal.marks_octets-requires
marks_octets-requires c =
    marks-few c.args.source.now c.args.«record» (sym c.is_known.ensures ∙ c.if-not-is_known.false) (omega arith)
    (sym c.in_ok-marks_refusal.ensures)

pub overflow_add-result : goal.overflow_add-result
overflow_add-result c =
    let few = size_few c.args.source.now c.args.«record» (sym c.is_known.ensures ∙ c.if-not-is_known.false) _ c.in_ok-size.ensures in
    let four = marks-short (sevens 4 c.args.«record».marks) in
    omega (arith, length-marks 4 c.args.«record».marks)

pub returns-then-is_present : goal.returns-then-is_present
returns-then-is_present c =
    size-octets c.args.source.now c.args.«record» (sym c.is_known.ensures ∙ c.if-not-is_known.false)
    (sym c.in_ok-marks_refusal.ensures) (omega arith) _ c.in_ok-size.ensures
    _ (rw c.type_of.ensures at c.is_present.ensures) c.if-is_present.true _ c.marks_octets.ensures

pub returns-else-is_present : goal.returns-else-is_present
returns-else-is_present c =
    size-absent c.args.source.now c.args.«record» (sym c.is_known.ensures ∙ c.if-not-is_known.false)
    (sym c.in_ok-marks_refusal.ensures) (omega arith) _ c.in_ok-size.ensures
    _ (rw c.type_of.ensures at c.is_present.ensures) c.if-is_present.false
