-- Changing spare bits changes no answer: neither a refusal nor the values. Assumes nothing.
use mathlib.Core.Path.{◌≡◌, refl}
use mathlib.Core.List.{List}
use Prim.Native.Nat.{ℕ, ◌+◌}
use Rattle.octets.specs.Numbers.{number}
use Rattle.layouts.specs.Groups.{values}
use Rattle.layouts.specs.Formats.{Format, done, stop, ask}
use Rattle.layouts.specs.Offsets.{run_at, item_at}
use Rattle.layouts.specs.Alike.{AlikeAt}

-- by offsets the answers are equal, wherever the block ends
module _ (s t : List ℕ) (len : ℕ) where
  pub run_alike_at : (f : Format) (at : ℕ) → AlikeAt f s t at → run_at s len f at ≡ run_at t len f at
  unfolding run_at
  run_alike_at done at h = refl
  run_alike_at (stop n) at h = refl
  run_alike_at (ask g k) at h = rw (← h.0, run_alike_at (k (values g.parts (number g.wide s at))) (at + g.wide) h.1)

  pub item_alike_at : (f : Format) (at : ℕ) → AlikeAt f s t at → item_at s len f at ≡ item_at t len f at
  unfolding item_at
  item_alike_at f at h = rw (run_alike_at f at h)
