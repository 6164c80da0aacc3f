-- `refusal`: 2 and 5 for what the places do not hold, then the tests of what they hold. Assumes nothing.
use mathlib.Core.Path.{◌≡◌, refl, sym, ◌∙◌}
use mathlib.Core.Bool.{Bool, true, false}
use mathlib.Core.List.{List}
use Prim.Native.Nat.{ℕ, ◌^◌, ◌<◌}
use native.Mathlib.Omega.{arith}
use lib.Dec.{eqb}
use borrow.Author.Tests.{le-leb, lt-leb, ne_eqb}
use Rattle.std.proofs.lemmas.Result.{err_from_is_err_and}
use Rattle.octets.specs.Choice.{pick}
use Rattle.octets.specs.Refusals.{number_of, refusal_in, unknown_category, spare_marked, none_marked, out_of_range}
use Rattle.octets.proofs.Refusals.{number-some}
use Rattle.layouts.specs.Categories.{known, category}
use Rattle.blocks.specs.Marks.{flags_of}
use Rattle.blocks.specs.Records.{marks_spare, marks_refusal}
use Rattle.blocks.proofs.MarksLaws.{marks-refused}
use Rattle.doors.specs.Cell as wear
use Rattle.doors.specs.Cells.{cell, all_fit, cells_refusal}
use Rattle.doors.proofs.cells.RecordCells.refusal.Goals as goal
use Rattle.doors.proofs.cells.RecordCells.refusal.Goals.{After-marks_refusal}

-- 6, 5 or the rest, as one test of the number
tests : (a b : Bool) (r : ℕ)
    → pick a none_marked (pick b spare_marked r)
    ≡ pick (eqb (pick a none_marked (pick b spare_marked 0)) 0) r (pick a none_marked (pick b spare_marked 0))
tests true b r = refl
tests false true r = refl
tests false false r = refl

module _ (cs : List ℕ) where
  -- the category's cell does not fit
  wide-category : (cell cs wear.category < 2 ^ 8 → ⊥) → unknown_category ≡ cells_refusal cs
  unfolding cells_refusal
  wide-category h =
      let n = cell cs wear.category in
      rw (ne_eqb n 23 (λ e. omega arith), ne_eqb n 65 (λ e. omega arith), ne_eqb n 242 (λ e. omega arith))

  module _ (n : ℕ) (is : n ≡ cell cs wear.category) where
    -- the category is not read
    unknown : known n ≡ false → unknown_category ≡ cells_refusal cs
    unfolding cells_refusal
    unknown e = rw (← is, e)

    module _ (kn : known n ≡ true) where
      -- the cell of the marks does not fit
      wide-marks : (cell cs wear.marks < 2 ^ 32 → ⊥) → spare_marked ≡ cells_refusal cs
      unfolding cells_refusal
      wide-marks h =
          let m = cell cs wear.marks in
          rw (← is, kn, ne_eqb m 0 (λ e. omega arith), le-leb (2 ^ 32) m (omega arith))

      by-marks : (m : ℕ) → m ≡ cell cs wear.marks → m < 2 ^ 32 → {r : ℕ} → r ≡ marks_refusal (category n) m
          → cells_refusal cs ≡ pick (eqb r 0) (pick (all_fit cs (flags_of 32 m) (category n).fields) 0 out_of_range) r
      unfolding cells_refusal
      by-marks m has low judged =
          rw (judged, marks-refused (category n) m low, ← is, kn, ← has, lt-leb (2 ^ 32) m low)
          (tests (eqb m 0) (marks_spare (flags_of 32 m) (category n).fields) (pick (all_fit cs (flags_of 32 m) (category n).fields) 0 out_of_range))

pub returns-in_default : goal.returns-in_default
returns-in_default c = wide-category _ c.in_default.ensures

pub returns-then-not-is_known : goal.returns-then-not-is_known
returns-then-not-is_known c = unknown _ _ c.in-Ok.ensures.1 (sym c.is_known.ensures ∙ c.if-not-is_known.true)

pub returns-in_default-try_from : goal.returns-in_default-try_from
returns-in_default-try_from c = wide-marks _ _ c.in-Ok.ensures.1 (sym c.is_known.ensures ∙ c.if-not-is_known.false) c.in_default-try_from.ensures

-- what the marks are refused by, or the items' cells
judged : (c : After-marks_refusal) → let n = c.in-Ok.cat in let m = c.in-Ok-try_from.marks in let r = refusal_in c.marks_refusal.result in
    cells_refusal c.args.self.now.cells.now ≡ pick (eqb r 0) (pick (all_fit c.args.self.now.cells.now (flags_of 32 m) (category n).fields) 0 out_of_range) r
judged c =
    let m = c.in-Ok-try_from in
    by-marks _ _ c.in-Ok.ensures.1 (sym c.is_known.ensures ∙ c.if-not-is_known.false) _ m.ensures.1 (omega (arith, m.ensures.0, m.ensures.1))
    c.marks_refusal.ensures

pub returns-in_err-marks_refusal : goal.returns-in_err-marks_refusal
returns-in_err-marks_refusal c =
    let p = err_from_is_err_and c.from_residual.result c.from_residual.ensures.1 in
    rw (p.1, p.2)
    (sym
    (judged (goal.at.returns-in_err-marks_refusal c).After-marks_refusal
    ∙ rw (c.in_err-marks_refusal.was, ne_eqb (number_of c.in_err-marks_refusal.field-0.0) 0 (number-some _))))

pub returns-then-not-all_fit : goal.returns-then-not-all_fit
returns-then-not-all_fit c =
    sym
    (judged (goal.at.returns-then-not-all_fit c).After-marks_refusal
    ∙ rw (c.in_ok-marks_refusal.was, ← c.all_fit.ensures, c.if-not-all_fit.true))

pub returns : goal.returns
returns c =
    sym
    (judged (goal.at.returns c).After-marks_refusal
    ∙ rw (c.in_ok-marks_refusal.was, ← c.all_fit.ensures, c.if-not-all_fit.false))
