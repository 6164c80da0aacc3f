-- `unused_of` by the categories' tables. Assumes nothing.
use mathlib.Core.Path.{sym, ap}
use Prim.Native.Nat.{ℕ}
use Rattle.layouts.specs.Categories.{Category, category, unused_marks}
use Rattle.layouts.proofs.Categories.{no_fields}
use Rattle.layouts.proofs.category.unused_of.Goals as goal

pub returns-in-23 : goal.returns-in-23
unfolding unused_marks
returns-in-23 c = sym (ap (λ (n : ℕ). unused_marks 32 (category n).fields) c.in-23.is)

pub returns-in-65 : goal.returns-in-65
unfolding unused_marks
returns-in-65 c = sym (ap (λ (n : ℕ). unused_marks 32 (category n).fields) c.in-65.is)

pub returns-in-242 : goal.returns-in-242
unfolding unused_marks
returns-in-242 c = sym (ap (λ (n : ℕ). unused_marks 32 (category n).fields) c.in-242.is)

pub returns-in_default : goal.returns-in_default
unfolding unused_marks
returns-in_default c = sym (ap (λ (k : Category). unused_marks 32 k.fields) (no_fields _ c.in_default.in_default-own.rest))
