-- `Judged::put`: the specification, and the items behind it. Assumes nothing.
use native.Mathlib.Omega.{arith}
use Rattle.writing.proofs.MarksWritten.{marks-few}
use Rattle.writing.proofs.RecordWritten.{fine, parts-room, parts-second, parts-laid}
use Rattle.writing.proofs.judged.Judged.put.Goals as goal

pub put_marks-p-requires : goal.put_marks-p-requires
put_marks-p-requires c =
    let s = c.args.self.now.source.now in
    let t = c.args.self.now.typed in
    let w = fine s t c.args.self.now.fine in (
      marks-few s t w.known (omega arith) w.marks,
      omega (arith, parts-room s t w (omega arith) _ _ c.requires),
    )

pub put_items-requires : goal.put_items-requires
put_items-requires c =
    let s = c.args.self.now.source.now in
    let t = c.args.self.now.typed in
    let w = fine s t c.args.self.now.fine in
    parts-second s t w (omega arith) _ _ _ _ c.requires c.put_marks-p.ensures

pub returns : goal.returns
returns c =
    let s = c.args.self.now.source.now in
    let t = c.args.self.now.typed in
    let w = fine s t c.args.self.now.fine in
    parts-laid s t w (omega arith) _ _ _ _ c.requires c.put_marks-p.ensures _ _ c.put_items.ensures
