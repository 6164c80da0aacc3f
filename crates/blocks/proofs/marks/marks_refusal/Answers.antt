-- `marks_refusal` test by test. Assumes nothing.
use native.Mathlib.Omega.{arith}
use borrow.Author.Tests.{eq-eqb, ne_eqb}
use Rattle.blocks.proofs.MarksLaws.{marks-refused}
use Rattle.blocks.proofs.marks.marks_refusal.Goals as goal

pub returns-then-marks-eq0 : goal.returns-then-marks-eq0
returns-then-marks-eq0 c =
    let a = c.args in
    rw (marks-refused _ a.marks (omega arith), eq-eqb _ 0 c.if-marks-eq0.true)

pub returns-then-marks_spare : goal.returns-then-marks_spare
returns-then-marks_spare c =
    let a = c.args in
    rw (marks-refused _ a.marks (omega arith), ne_eqb _ 0 c.if-marks-eq0.false, ← c.marks_spare.ensures, c.if-marks_spare.true)

pub returns : goal.returns
returns c =
    let a = c.args in
    rw (marks-refused _ a.marks (omega arith), ne_eqb _ 0 c.if-marks-eq0.false, ← c.marks_spare.ensures, c.if-marks_spare.false)
