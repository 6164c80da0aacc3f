-- Numbers in a part of a slice. Assumes nothing.
use mathlib.Core.Path.{◌≡◌, refl}
use mathlib.Core.List.{List}
use Prim.Native.Nat.{ℕ, zero, suc, ◌+◌, ◌≤◌}
use native.Mathlib.Nat.{zero-add}
use native.Mathlib.Omega.{arith}
use lib.ListN.{take, drop}
use lib.Seq.{get_or-drop, get_or-take}
use Rattle.octets.specs.Numbers.{number}

-- the number that the first octets of a part spell is the one that they spell in the slice
pub part-number : (k w : ℕ) (s : List ℕ) (o : ℕ) → k ≤ w → number k (take w (drop o s)) 0 ≡ number k s o
unfolding number
part-number zero w s o h = refl
part-number (suc k) w s o h =
    rw (part-number k w s o (omega arith), get_or-take w (drop o s) (0 + k) 0 (omega arith), get_or-drop o s (0 + k) 0, zero-add)
