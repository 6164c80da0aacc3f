-- What a record must be so that it is read back as written: its marks are not refused, each item has values that fit, and the items that it must
-- have are there. Assumes nothing.
use mathlib.Core.Bool.{Bool, true, false, ◌&&◌}
use mathlib.Core.List.{List, [], ◌∷◌}
use Prim.Native.Nat.{suc, ◌-◌}
use lib.Dec.{eqb}
use lib.ListN.{length}
use Rattle.layouts.specs.Formats.{Format, Trace, fits_in}
use Rattle.layouts.specs.Categories.{Category}
use Rattle.blocks.specs.Records.{Rec, layout_of, specification_refusal, present}

unfoldable pub items_fit : List Format → List Trace → Bool
items_fit [] [] = true
items_fit [] (tr ∷ trs) = false
items_fit (f ∷ fs) [] = false
items_fit (f ∷ fs) (tr ∷ trs) = fits_in f tr && items_fit fs trs

unfoldable pub good : Category → Rec → Bool
good c r =
    eqb (length r.marks) (suc (c.most - 1))
    && (eqb (specification_refusal c r.marks) 0
    && (items_fit (layout_of c r.marks) r.items
    && present c r.marks r.items))

unfoldable pub all_good : Category → List Rec → Bool
all_good c [] = true
all_good c (r ∷ rs) = good c r && all_good c rs
