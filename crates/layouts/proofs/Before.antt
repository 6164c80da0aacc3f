-- Only the octets before the block's end are looked at: others change no answer. Assumes nothing.
use mathlib.Core.Path.{◌≡◌, refl}
use mathlib.Core.Bool.{Bool, true, false}
use mathlib.Core.List.{List}
use Prim.Native.Nat.{ℕ, ◌+◌, ◌-◌, ◌≤◌}
use native.Mathlib.Omega.{arith}
use lib.Dec.{ltb}
use borrow.Author.Tests.{ltb-false}
use Rattle.octets.specs.Numbers.{number}
use Rattle.octets.proofs.Numbers.{number_same}
use Rattle.layouts.specs.Groups.{values}
use Rattle.layouts.specs.Formats.{Format, done, stop, ask}
use Rattle.layouts.specs.Offsets.{run_at, item_at}
use Rattle.layouts.specs.Alike.{SameBefore}

module _ (len : ℕ) (s t : List ℕ) (same : SameBefore len s t) where
  number-before : (k at : ℕ) → k ≤ len - at → number k s at ≡ number k t at
  number-before k at h = number_same k s t at (λ j a b. same j (omega arith))

  pub run-before : (f : Format) (at : ℕ) → run_at s len f at ≡ run_at t len f at
  unfolding run_at
  run-before done at = refl
  run-before (stop n) at = refl
  run-before (ask g k) at = go (ltb (len - at) g.wide) refl (run-before (k v) (at + g.wide))
    where
      v : List ℕ
      v = values g.parts (number g.wide t at)

      go : (b : Bool) → ltb (len - at) g.wide ≡ b → run_at s len (k v) (at + g.wide) ≡ run_at t len (k v) (at + g.wide)
          → run_at s len (ask g k) at ≡ run_at t len (ask g k) at
      go true e ih = rw e
      go false e ih = rw (e, number-before g.wide at (ltb-false (len - at) g.wide e), ih)

  pub item-before : (f : Format) (at : ℕ) → item_at s len f at ≡ item_at t len f at
  unfolding item_at
  item-before f at = rw (run-before f at)
