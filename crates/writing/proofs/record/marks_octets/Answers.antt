-- `marks_octets`: an octet for each seven marks, up to the last that are. Assumes nothing.
use mathlib.Core.Path.{sym, ap, ◌∙◌}
use Prim.Native.Nat.{suc, ◌/◌}
use native.Mathlib.Omega.{arith}
use Rattle.writing.proofs.MarksWritten.{one-long, more-long}
use Rattle.writing.proofs.record.marks_octets.Goals as goal

pub returns-in-0-to-127 : goal.returns-in-0-to-127
returns-in-0-to-127 c = sym (one-long 3 c.args.marks (omega arith))

pub returns-in-128-to-16383 : goal.returns-in-128-to-16383
returns-in-128-to-16383 c =
    let m = c.args.marks in
    sym (more-long 3 m (omega arith) (omega arith) ∙ ap suc (one-long 2 (m / 128) (omega arith)))

pub returns-in-16384-to-2097151 : goal.returns-in-16384-to-2097151
returns-in-16384-to-2097151 c =
    let m = c.args.marks in
    sym
    (more-long 3 m (omega arith) (omega arith)
    ∙ ap suc (more-long 2 (m / 128) (omega arith) (omega arith) ∙ ap suc (one-long 1 (m / 128 / 128) (omega arith))))

pub returns-in_default : goal.returns-in_default
returns-in_default c =
    let m = c.args.marks in
    sym
    (more-long 3 m (omega arith) (omega arith)
    ∙ ap suc
    (more-long 2 (m / 128) (omega arith) (omega arith)
    ∙ ap suc (more-long 1 (m / 128 / 128) (omega arith) (omega arith) ∙ ap suc (one-long 0 (m / 128 / 128 / 128) (omega arith)))))
