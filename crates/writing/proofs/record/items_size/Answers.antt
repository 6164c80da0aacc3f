-- `items_size`. The loop's invariant: the fields before f are counted, and none is refused. Assumes nothing.
use Prim.Native.Nat.{◌+◌}
use native.Mathlib.Omega.{arith}
use Rattle.std.proofs.lemmas.Result.{err_from_is_err_and}
use Rattle.writing.proofs.ItemsWritten.{CountedFields, fields-counted, field_uncounted, field-counted, field-refused}
use Rattle.writing.proofs.record.items_size.Goals as goal
use Rattle.writing.proofs.record.items_size.Goals.{Joined-is_marked, then-is_marked+in_ok-total, else-is_marked}

-- past field f
passed : (c : Joined-is_marked) → CountedFields c.args.source.now c.args.«record» c.if-is_marked.total (c.loop-f.f + 1)
passed c =
    elim c.if-is_marked.branch [
      | then-is_marked+in_ok-total w ↦
          rw w.total-is
          (field-counted _ _ _ c.last_field-last.ensures _ c.loop-f-test.true _ c.is_marked.ensures w.if-is_marked.true _ _
          w.field_of-field.ensures w.item_in.ensures _ c.loop-f.invariant _ w.in_ok-total.ensures.0)
      | else-is_marked w ↦
          rw w.total-is
          (field_uncounted _ _ _ c.last_field-last.ensures _ c.loop-f-test.true _ c.is_marked.ensures _ c.loop-f.invariant w.if-is_marked.false)
    ]

pub returns-in_err-total : goal.returns-in_err-total
returns-in_err-total c =
    let p = err_from_is_err_and c.from_residual.result c.from_residual.ensures.1 in
    rw (p.1, p.2)
    (field-refused _ _ _ c.last_field-last.ensures _ c.loop-f-test.true _ c.is_marked.ensures c.if-is_marked.true _ _
    c.field_of-field.ensures c.item_in.ensures _ c.loop-f.invariant _ c.in_err-total.ensures.0)

pub overflow_add-total : goal.overflow_add-total
overflow_add-total c =
    let w =
    field-counted _ _ _ c.last_field-last.ensures _ c.loop-f-test.true _ c.is_marked.ensures c.if-is_marked.true _ _
    c.field_of-field.ensures c.item_in.ensures _ c.loop-f.invariant _ c.in_ok-total.ensures.0
    in
    omega arith

pub loop-f-preserved : goal.loop-f-preserved
loop-f-preserved c = passed (goal.at.loop-f-preserved c).Joined-is_marked

pub returns : goal.returns
returns c = fields-counted _ _ _ c.last_field-last.ensures _ _ c.loop-f.invariant c.loop-f-test.false

pub returns-after-is_marked : goal.returns-after-is_marked
returns-after-is_marked c =
    fields-counted _ _ _ c.last_field-last.ensures _ _ (passed (goal.at.returns-after-is_marked c).Joined-is_marked) (omega arith)
