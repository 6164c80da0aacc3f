-- `marks_octet`: seven marks turned. Assumes nothing.
use mathlib.Core.Path.{◌≡◌}
use Prim.Native.Nat.{ℕ, ◌*◌, ◌<◌}
use native.Mathlib.Omega.{arith}
use lib.ListN.{get_or}
use mir.Syntax.{w8}
use Rattle.std.specs.Int.{reverse_bits, reverse_bits_onto}
use Rattle.blocks.specs.Meaning.{sevens}
use Rattle.writing.proofs.record.marks_octet.Goals as goal

turned : (m : ℕ) → m < 128 → (reverse_bits w8 m ≡ get_or (sevens 1 m) 0 0 * 2) × (get_or (sevens 1 m) 0 0 * 2 < 255)
unfolding sevens reverse_bits_onto
turned m h = omega arith

pub returns : goal.returns
returns c = omega (arith, c.reverse_bits.ensures, turned c.args.low c.requires)
