-- `Judged::put_items`. The loop's invariant: laying the items of the fields from f on at p is laying all. Assumes nothing.
use mathlib.Core.Path.{refl}
use Prim.Native.Nat.{◌+◌}
use native.Mathlib.Omega.{arith}
use Rattle.writing.proofs.ItemsWritten.{LaidFields, fields_laid, field_unlaid, field_fits, field-laid, field-here}
use Rattle.writing.proofs.RecordWritten.{fine}
use Rattle.writing.proofs.judged.Judged.put_items.Goals as goal
use Rattle.writing.proofs.judged.Judged.put_items.Goals.{Joined-is_marked, then-is_marked, else-is_marked}

-- past field f
passed : (c : Joined-is_marked) → LaidFields c.args.self.now.source.now c.args.self.now.typed c.args.out.now c.args.at c.if-is_marked.out c.if-is_marked.p (c.loop-f.f + 1)
passed c =
    elim c.if-is_marked.branch [
      | then-is_marked w ↦
          rw (w.out-is, w.p-is)
          (field-laid _ _ _ c.last_field-last.ensures _ c.loop-f-test.true _ c.is_marked.ensures w.if-is_marked.true _ _
          w.field_of-field.ensures w.item_in.ensures _ _ _ _ c.loop-f.invariant c.requires _ _ w.put_item-p.ensures)
      | else-is_marked w ↦
          rw (w.out-is, w.p-is)
          (field_unlaid _ _ _ c.last_field-last.ensures _ c.loop-f-test.true _ c.is_marked.ensures _ _ _ _ c.loop-f.invariant w.if-is_marked.false)
    ]

pub loop-f-init : goal.loop-f-init
loop-f-init c = let w = fine _ _ c.args.self.now.fine in record { low = omega arith; accepted = w.items; size = refl; behind = refl; same = refl }

pub put_item-p-requires : goal.put_item-p-requires
put_item-p-requires c =
    let fit =
    field_fits _ _ _ c.last_field-last.ensures _ c.loop-f-test.true _ c.is_marked.ensures c.if-is_marked.true _ _
    c.field_of-field.ensures c.item_in.ensures _ _ _ _ c.loop-f.invariant c.requires
    in
    (field-here c.args.self.now.typed _ _ _ c.field_of-field.ensures c.item_in.ensures, fit.0, fit.1)

pub loop-f-preserved : goal.loop-f-preserved
loop-f-preserved c = passed (goal.at.loop-f-preserved c).Joined-is_marked

pub returns : goal.returns
returns c = fields_laid _ _ _ c.last_field-last.ensures _ _ _ _ _ c.loop-f.invariant c.loop-f-test.false

pub returns-after-is_marked : goal.returns-after-is_marked
returns-after-is_marked c =
    fields_laid _ _ _ c.last_field-last.ensures _ _ _ _ _ (passed (goal.at.returns-after-is_marked c).Joined-is_marked) (omega arith)
