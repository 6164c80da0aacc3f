use mathlib.Core.Path.{sym}
use native.Mathlib.Omega.{arith}
use borrow.Author.Rules.{rules}
use Rattle.blocks.proofs.FormLaws.{forms}
use Rattle.blocks.proofs.RecordStarts.{filled_none, filled_next, filled_passed}
use Rattle.blocks.proofs.TypedOctets.{made}
use Rattle.blocks.proofs.block.Block.starts_at.Goals as goal

pub loop-f-init : goal.loop-f-init
loop-f-init c = (filled_none _ _ _ _ _ c.items_from-first.ensures.2, omega arith)

pub loop-f-preserved : goal.loop-f-preserved
loop-f-preserved c =
    let b = c.args.self.now in
    let next = c.in-Some.ensures in (
      filled_passed _ _ _ _ _ _ _ _ _ c.loop-f.invariant.0 (forms b.cat b.known) next
          c.field_of-field.result c.field_of-field.ensures _ (search rules) _ c.item_end-p.ensures.0 c.item_end-p.ensures.1,
      omega (arith, next.2),
    )

pub returns : goal.returns
returns c =
    let b = c.args.self.now in
    made _ _ _ _ b.window.small b.window.inside b.known _ _ _ _ c.items_from-first.ensures.0 c.marks_at-marks.ensures
    (filled_next _ _ _ _ _ _ _ _ _ c.loop-f.invariant.0 (sym c.in_default.ensures))
