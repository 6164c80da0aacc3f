-- `write`: the record is judged, and then written behind the header. Assumes nothing.
use native.Mathlib.Omega.{arith}
use Rattle.std.proofs.lemmas.Result.{err_from_is_err_and}
use Rattle.octets.proofs.Outcomes.{says-no, says-short, says-puts}
use Rattle.writing.proofs.RecordWritten.{write_refused, write_good}
use Rattle.writing.proofs.WriteSteps.{whole_long, whole-low, record_room, whole-laid}
use Rattle.writing.proofs.block.write.Goals as goal

pub returns-in_err-size : goal.returns-in_err-size
returns-in_err-size c =
    let p = err_from_is_err_and c.from_residual.result c.from_residual.ensures.1 in
    rw (p.1, p.2) (says-no _ _ _ (write_refused _ _ _ c.in_err-size.ensures))

-- the record is not refused
pub overflow_add-size : goal.overflow_add-size
overflow_add-size c =
    let g = write_good _ _ _ c.in_ok-size.ensures in
    omega (arith, whole-low _ _ _ g (omega arith))

pub returns-then-out-size : goal.returns-then-out-size
returns-then-out-size c =
    let g = write_good _ _ _ c.in_ok-size.ensures in
    let long = whole_long _ _ _ g in
    says-short _ _ _ g.is (omega (arith, long, c.if-out-size.true))

pub put_header-requires : goal.put_header-requires
put_header-requires c =
    let g = write_good _ _ _ c.in_ok-size.ensures in
    (omega (arith, c.if-out-size.false), omega (arith, whole-low _ _ _ g (omega arith)))

pub invariant_of-judged : goal.invariant_of-judged
invariant_of-judged c = record { fine = (write_good _ _ _ c.in_ok-size.ensures).fine }

pub put-requires : goal.put-requires
put-requires c =
    let g = write_good _ _ _ c.in_ok-size.ensures in
    record_room _ _ _ g _ _ c.if-out-size.false c.put_header.ensures

pub returns : goal.returns
returns c =
    let g = write_good _ _ _ c.in_ok-size.ensures in
    says-puts _ _ _ _ g.is (whole_long _ _ _ g) c.if-out-size.false _
    (whole-laid _ _ _ g _ _ c.if-out-size.false c.put_header.ensures _ c.put.ensures.0)
