-- `all_fit`: by the step from a field on to the next. Assumes nothing.
use mathlib.Core.Path.{◌≡◌, refl, sym, ◌∙◌}
use mathlib.Core.Bool.{Bool, true, false, ◌&&◌}
use mathlib.Core.List.{List, [], ◌∷◌}
use Prim.Native.Nat.{ℕ, ◌+◌, ◌≤◌, ◌<◌}
use native.Mathlib.Numerals.{add-one}
use native.Mathlib.Omega.{arith}
use lib.ListN.{length, drop}
use lib.Seq.{drop-cons}
use Rattle.std.proofs.lemmas.List.{drop_all}
use Rattle.octets.specs.Choice.{pick}
use Rattle.layouts.specs.Categories.{Category, category, form_at, field_at}
use Rattle.layouts.specs.declared.category.Field.{Field}
use Rattle.layouts.specs.declared.form.Form.{Form}
use Rattle.blocks.specs.Marks.{flags_of, marked}
use Rattle.doors.specs.Cells.{item_fits, all_fit}
use Rattle.doors.proofs.cells.RecordCells.all_fit.Goals as goal
use Rattle.doors.proofs.cells.RecordCells.all_fit.Goals.{Joined-else-is_marked, else-is_marked-via-then-is_marked+else-not-item_fits, else-is_marked-via-else-is_marked}

module _ (cs : List ℕ) (m : ℕ) (c : Category) where
  -- the fields from one on
  abbrev from : ℕ → Bool
  from f = all_fit cs (drop f (false ∷ flags_of 32 m)) (drop f (Form.Spare ∷ c.fields))

  -- none is left
  past : (f : ℕ) → length c.fields < f → from f ≡ true
  unfolding all_fit
  past f h = rw (drop_all f (Form.Spare ∷ c.fields) (omega arith)) (none (drop f (false ∷ flags_of 32 m)))
    where
      none : (bs : List Bool) → all_fit cs bs [] ≡ true
      none [] = refl
      none (b ∷ bs) = refl

  -- the first, and the others
  step : (f : ℕ) → f ≤ 14 → f ≤ length c.fields → from f ≡ (pick (marked m f) (item_fits cs (form_at c f)) true && from (f + 1))
  unfolding all_fit flags_of
  step f h k =
      rw (drop-cons (false ∷ flags_of 32 m) f false (omega arith), drop-cons (Form.Spare ∷ c.fields) f Form.Spare (omega arith), add-one)

  module _ (f : ℕ) (last : f ≤ length c.fields) (few : length c.fields ≤ 14) where
    unmarked : marked m f ≡ false → from f ≡ from (f + 1)
    unmarked e = step f (omega arith) last ∙ rw e

    of_marked : {x : Field} {b : Bool} → marked m f ≡ true → x ≡ field_at c f → b ≡ item_fits cs x.0 → from f ≡ (b && from (f + 1))
    of_marked e is fits = let h = rw is at fits in step f (omega arith) last ∙ rw (e, ← h)

pub returns-then-not-item_fits : goal.returns-then-not-item_fits
returns-then-not-item_fits c =
    let a = c.args in
    let n = c.last_field-f-end.ensures in
    sym
    (c.loop-f.invariant
    ∙ of_marked a.self.now.cells.now a.marks (category a.cat) _ (omega arith) (omega arith) (sym c.is_marked.ensures ∙ c.if-is_marked.true)
    c.field_of.ensures c.item_fits.ensures
    ∙ rw c.if-not-item_fits.true)

-- a field fits, or is not marked
next : (c : Joined-else-is_marked) → let a = c.args in
    from a.self.now.cells.now a.marks (category a.cat) 1 ≡ from a.self.now.cells.now a.marks (category a.cat) (c.loop-f.f + 1)
next c =
    let a = c.args in
    let n = c.last_field-f-end.ensures in
    c.loop-f.invariant
    ∙ elim c.else-is_marked.branch [
      | else-is_marked-via-then-is_marked+else-not-item_fits w ↦
          of_marked a.self.now.cells.now a.marks (category a.cat) _ (omega arith) (omega arith) (sym c.is_marked.ensures ∙ w.if-is_marked.true)
          w.field_of.ensures w.item_fits.ensures
          ∙ rw w.if-not-item_fits.false
      | else-is_marked-via-else-is_marked w ↦
          unmarked a.self.now.cells.now a.marks (category a.cat) _ (omega arith) (omega arith) (sym c.is_marked.ensures ∙ w.if-is_marked.false)
    ]

pub loop-f-preserved : goal.loop-f-preserved
loop-f-preserved c = next (goal.at.loop-f-preserved c).Joined-else-is_marked

pub returns : goal.returns
returns c =
    let a = c.args in
    sym (c.loop-f.invariant ∙ past a.self.now.cells.now a.marks (category a.cat) _ (omega (arith, c.last_field-f-end.ensures.0)))

pub returns-else-is_marked : goal.returns-else-is_marked
returns-else-is_marked c =
    let a = c.args in
    sym
    (next (goal.at.returns-else-is_marked c).Joined-else-is_marked
    ∙ past a.self.now.cells.now a.marks (category a.cat) _ (omega (arith, c.last_field-f-end.ensures.0)))
