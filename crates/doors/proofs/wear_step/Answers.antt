-- `wear_step`: too few cells, or what is listed of the answer laid into them. Assumes nothing.
use mathlib.Core.Path.{◌≡◌, ap, ◌∙◌}
use mathlib.Core.List.{List, [], ◌∷◌}
use Prim.Native.Nat.{ℕ, ◌+◌, ◌≤◌}
use native.Mathlib.Omega.{arith}
use lib.ListN.{length}
use Rattle.octets.specs.Numbers.{laid}
use Rattle.octets.proofs.Laying.{laid-laid}
use Rattle.blocks.specs.Step.{as_step}
use Rattle.blocks.specs.Steps.{listed_step}
use Rattle.doors.specs.Cell.{cell_count}
use Rattle.doors.specs.Answers.{step_cells}
use Rattle.doors.proofs.DoorSteps.{filled}
use Rattle.doors.proofs.wear_step.Goals as goal

-- values laid behind two
behind : (l : List ℕ) (a b : ℕ) {l' l'' values q : List ℕ} → 2 ≤ length l → l' ≡ laid l 0 (a ∷ b ∷ []) → values ≡ q → l'' ≡ laid l' 2 values
    → l'' ≡ laid l 0 (a ∷ b ∷ q)
behind l a b {q = q} room first is second = second ∙ rw (first, is) (laid-laid l 0 (a ∷ b ∷ []) q room)

pub returns-in-Ok : goal.returns-in-Ok
returns-in-Ok c =
    let enough = c.if-cells-lt-STEP_CELLS.false in
    filled listed_step (λ r. r.refusal) step_cells (2 + cell_count) _ _ enough (ap as_step c.in-Ok.is) c.step.ensures.1
    (behind _ _ _ (omega (arith, enough)) c.lay.ensures c.record_cells.ensures c.lay-in-Ok.ensures)

pub returns-in-Err : goal.returns-in-Err
returns-in-Err c =
    rw c.number.ensures
    (filled listed_step (λ r. r.refusal) step_cells (2 + cell_count) _ _ c.if-cells-lt-STEP_CELLS.false (ap as_step c.in-Err.is) c.step.ensures.1
    c.lay-in-Err.ensures)
