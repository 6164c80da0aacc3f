-- `step`: by the header, then by the start, and then one record. Assumes nothing.
use mathlib.Core.Path.{◌≡◌, ap, ◌∙◌}
use mathlib.Core.List.{List}
use Prim.Native.Nat.{ℕ}
use Rattle.std.proofs.Common.{⊎_elim}
use Rattle.std.proofs.lemmas.Result.{err_from_is_err_and}
use Rattle.blocks.specs.Steps.{step_of, listed_step, step_listed}
use Rattle.blocks.specs.Step.{Step}
use Rattle.blocks.proofs.ListedLaws.{step-listed}
use Rattle.blocks.proofs.StepLaws.{step-refused, step-low, step_past, step-inside}
use Rattle.blocks.proofs.cursor.Cursor.step.Goals as goal

-- an answer, and its number and values
told : (s : List ℕ) (start : ℕ) (r : Step) → r ≡ step_of s start → (r ≡ step_of s start) × (listed_step r ≡ step_listed s start)
told s start r e = (e, ap listed_step e ∙ step-listed s start)

pub returns-in_err-block : goal.returns-in_err-block
returns-in_err-block c =
    let p = err_from_is_err_and c.from_residual.result c.from_residual.ensures.1 in
    rw (p.1, p.2) (told _ _ _ (step-refused _ _ _ c.in_err-block.ensures.0))

pub returns-then-self-lt3 : goal.returns-then-self-lt3
returns-then-self-lt3 c =
    let good = c.in_ok-block.ensures.0 in
    rw c.from.ensures
    (told _ _ _ (⊎_elim (λ h. step-low _ _ _ _ good h) (λ h. step_past _ _ _ _ good h.0 h.1) c.then-self-lt3.either))

pub returns : goal.returns
returns c =
    told _ _ _
    (step-inside _ _ _ _ c.in_ok-block.ensures.0 c.if-self-lt3.false c.if-block-self.false _ (rw c.in_ok-block.ensures.2 at c.take.ensures))
