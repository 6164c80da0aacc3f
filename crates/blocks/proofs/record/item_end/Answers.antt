-- `item_end`: where the item of the field's kind ends, within the block. Assumes nothing.
use mathlib.Core.Path.{◌≡◌, sym, ◌∙◌}
use mathlib.Core.List.{List}
use Prim.Native.Nat.{ℕ, ◌≤◌}
use Rattle.std.proofs.Common.{Result, Ok, Err}
use Rattle.std.specs.Result.{result_unwrap_or}
use Rattle.octets.specs.Numbers.{Octets}
use Rattle.octets.specs.declared.refusal.Refusal.{Refusal}
use Rattle.layouts.specs.Layouts.{format, kind_of}
use Rattle.layouts.specs.Offsets.{run_at}
use Rattle.layouts.specs.End.{as_end}
use Rattle.layouts.specs.Ends.{end_of, kind_end}
use Rattle.layouts.specs.Tables.{layout}
use Rattle.layouts.specs.declared.form.Form.{Form}
use Rattle.layouts.proofs.KindEnds.{forms-sound, kind_end_lem, end-room}
use Rattle.blocks.specs.Typed.{stop_of}
use Rattle.blocks.proofs.ItemStarts.{stop-at, stop-refused}
use Rattle.blocks.proofs.record.item_end.Goals as goal

module _ (s : List ℕ) (len : ℕ) (o : Octets s) (f : Form) (p : ℕ) (low : p ≤ len) where
  is : end_of (run_at s len (format (layout f)) p) ≡ kind_end s len (kind_of (layout f)) p
  is = kind_end_lem s len o (layout f) p (forms-sound f)

  stops : (r : Result ℕ Refusal) → as_end r ≡ kind_end s len (kind_of (layout f)) p
      → (result_unwrap_or r p ≡ stop_of p (run_at s len (format (layout f)) p)) × (result_unwrap_or r p ≤ len)
  stops (Ok q) e = (stop-at p _ (run_at s len (format (layout f)) p) (is ∙ sym e), (end-room s len f p _ (sym e) low).1)
  stops (Err n) e = (stop-refused p _ (run_at s len (format (layout f)) p) (is ∙ sym e), low)

pub returns : goal.returns
returns c =
    let w = c.args.window.now in
    rw c.unwrap_or.ensures
    (stops w.octets.now w.len w.small c.args.field.0 c.args.p c.requires.0 c.kind_end.result (rw c.requires.1 at c.kind_end.ensures.0))
