-- The fields from one on fit where all do.
use Rattle.std.proofs.Common.{◌≡◌, ◌∷◌, drop, false}
use Rattle.layouts.specs.Categories.{category}
use Rattle.layouts.specs.declared.form.Form.TheVariants.{Spare}
use Rattle.blocks.specs.Marks.{flags_of}
use Rattle.doors.specs.Cells.{all_fit}
use Rattle.doors.proofs.cells.RecordCells.all_fit.Given as goal

abbrev pub invariant-loop-f : goal.invariant-loop-f
invariant-loop-f l =
    let bs = flags_of 32 l.marks in
    let fs = (category l.cat).fields in
    all_fit l.self.cells.now bs fs ≡ all_fit l.self.cells.now (drop l.f (false ∷ bs)) (drop l.f (Spare ∷ fs))
