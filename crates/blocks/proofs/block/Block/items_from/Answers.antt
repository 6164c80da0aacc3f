-- `items_from`: where the chain of specification octets ends. Assumes nothing.
use mathlib.Core.Path.{◌≡◌}
use mathlib.Core.List.{List}
use Prim.Native.Nat.{ℕ, ◌+◌, ◌-◌, ◌≤◌}
use native.Mathlib.Omega.{arith}
use Rattle.std.proofs.Common.{Result, Ok, Err}
use Rattle.std.specs.Result.{result_unwrap_or}
use Rattle.octets.specs.Numbers.{Octets}
use Rattle.octets.specs.Refusals.{number_of, long_specification}
use Rattle.octets.specs.declared.refusal.Refusal.{Refusal}
use Rattle.layouts.specs.End.{End, as_end}
use Rattle.layouts.specs.Ends.{chain_end}
use Rattle.layouts.specs.Categories.{Category}
use Rattle.blocks.specs.Steps.{items_from}
use Rattle.blocks.proofs.WalkSteps.{Table, table, spec-ended, spec_at}
use Rattle.blocks.proofs.block.Block.items_from.Goals as goal

module _ (s : List ℕ) (len : ℕ) (o : Octets s) (c : Category) (at n most : ℕ) (t : Table n c) (is : most ≡ c.most) (low : at ≤ len) where
  starts : (r : Result ℕ Refusal) → as_end r ≡ chain_end s len long_specification 1 (most - 1) at
      → (result_unwrap_or r at ≡ items_from s len c at) × (at ≤ result_unwrap_or r at) × (result_unwrap_or r at ≤ len) × (result_unwrap_or r at ≤ at + 4)
  starts (Ok p) e =
      let w = spec_at s len c at n t most is p e o in
      (rw w.is, omega arith, omega arith, omega arith)
  starts (Err r) e = (rw (spec-ended s len c at n t most is (End.Refused (number_of r)) e), omega arith, omega arith, omega arith)

pub returns : goal.returns
returns c =
    let b = c.args.self.now in
    rw c.unwrap_or.ensures
    (starts b.window.octets.now b.window.len b.window.small _ c.args.at _ _ (table b.cat b.known) c.most_of.ensures c.requires
    c.specification_end.result c.specification_end.ensures.0)
