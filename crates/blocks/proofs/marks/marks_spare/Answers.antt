-- A spare field is marked where the marks and those of the spare fields have one in common. Assumes nothing.
use mathlib.Core.Path.{◌≡◌, refl, ap, ◌∙◌}
use mathlib.Core.Bool.{Bool, true, false, ◌&&◌, ◌||◌, not, and-true}
use mathlib.Core.List.{List, [], ◌∷◌}
use Prim.Native.Nat.{ℕ, zero, suc, ◌+◌, ◌*◌, ◌/◌}
use lib.Bits.{bit_and, and_zero_r}
use lib.Dec.{eqb}
use Rattle.octets.specs.Choice.{pick, odd}
use Rattle.layouts.specs.Layouts.{is_unused}
use Rattle.layouts.specs.Tables.{layout}
use Rattle.layouts.specs.Categories.{unused_marks}
use Rattle.layouts.specs.declared.form.Form.{Form}
use Rattle.blocks.specs.Marks.{flags_of}
use Rattle.blocks.specs.Records.{marks_spare}
use Rattle.blocks.proofs.MarksLaws.{first-mark, same-marks, common}
use Rattle.blocks.proofs.marks.marks_spare.Goals as goal

-- two numbers have a mark in common
abbrev meet : ℕ → ℕ → Bool
meet m u = not (eqb (bit_and m u) 0)

-- the first field, and the others
first : (m : ℕ) (b : Bool) (u : ℕ) → meet m (pick b 1 0 + u * 2) ≡ ((odd m && b) || meet (m / 2) u)
first m b u =
    let f = first-mark b u in
    ap (λ (k : ℕ). not (eqb k 0)) (common m (pick b 1 0 + u * 2))
    ∙ rw (f.0, f.1, same-marks (odd m && b) false (bit_and (m / 2) u) 0) (go (odd m && b) (eqb (bit_and (m / 2) u) 0))
  where
    go : (a c : Bool) → not (not a && c) ≡ (a || not c)
    go true c = refl
    go false c = refl

spare : (n m : ℕ) (fs : List Form) → meet m (unused_marks n fs) ≡ marks_spare (flags_of n m) fs
unfolding unused_marks marks_spare flags_of
spare zero m fs = rw (and_zero_r m)
spare (suc n) m [] = first m true (unused_marks n []) ∙ rw (and-true (odd m), spare n (m / 2) [])
spare (suc n) m (f ∷ fs) = first m (is_unused (layout f)) (unused_marks n fs) ∙ rw (spare n (m / 2) fs)

pub returns : goal.returns
returns c = rw c.unused_of.ensures (spare 32 _ _)
