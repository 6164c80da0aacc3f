-- `entry_in`: 17, or the entry of the category's size. Assumes nothing.
use mathlib.Core.Path.{ap, ◌∙◌}
use native.Mathlib.Omega.{arith}
use Rattle.blocks.specs.Found.{Found}
use Rattle.blocks.proofs.StepLaws.{entry-none, entry-version, entry-counter}
use Rattle.blocks.proofs.cursor.entry_in.Goals as goal

pub returns-then-entries-k : goal.returns-then-entries-k
returns-then-entries-k c = rw c.from.ensures (entry-none _ _ _ _ _ c.if-entries-k.true)

pub returns-then-cat-eq-CAT : goal.returns-then-cat-eq-CAT
returns-then-cat-eq-CAT c = ap Found.Version c.version_at.ensures ∙ entry-version _ _ _ _ _ c.if-entries-k.false c.if-cat-eq-CAT.true _ (omega arith)

pub returns-else-cat-eq-CAT : goal.returns-else-cat-eq-CAT
returns-else-cat-eq-CAT c = ap Found.Counter c.counter_at.ensures ∙ entry-counter _ _ _ _ _ c.if-entries-k.false c.if-cat-eq-CAT.false _ (omega arith)
