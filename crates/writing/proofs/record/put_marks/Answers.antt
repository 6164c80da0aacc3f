-- `put_marks`: laying all octets is laying those of the marks left at p, since those before lie there. Assumes nothing.
use mathlib.Core.Path.{◌≡◌, sym, ap, ◌∙◌}
use Prim.Native.Nat.{◌+◌, ◌-◌}
use native.Mathlib.Omega.{arith}
use Rattle.writing.proofs.MarksWritten.{puts-some, puts-few, puts-many, puts-longer, put_last, put_then}
use Rattle.writing.proofs.record.put_marks.Goals as goal

pub overflow_sub-last : goal.overflow_sub-last
overflow_sub-last c = omega (arith, puts-some c.args.marks)

pub loop-p-preserved : goal.loop-p-preserved
loop-p-preserved c =
    let l = c.loop-p in
    let more = puts-many l.left (omega arith) in (
      omega arith,
      omega (arith, puts-longer l.left),
      l.invariant.2 ∙ put_then l.out l.p l.left _ (ap (λ x. x + 1) c.marks_octet.ensures.0) more l.invariant.0 (omega arith),
    )

pub marks_octet-requires-2 : goal.marks_octet-requires-2
marks_octet-requires-2 c = puts-few c.loop-p.left c.loop-p.invariant.0 (omega (arith, puts-some c.args.marks))

pub bounds-out-last : goal.bounds-out-last
bounds-out-last c = omega (arith, puts-some c.args.marks)

pub returns : goal.returns
returns c =
    let l = c.loop-p in
    let some = puts-some c.args.marks c.requires.0 in
    let here : l.p ≡ c.args.at + c.marks_octets.result - 1 = omega arith in (
      sym (l.invariant.2 ∙ rw here (put_last l.out _ l.left _ c.marks_octet-2.ensures.0 (puts-few l.left l.invariant.0 (omega arith)) (omega arith))),
      omega arith,
    )
