-- A feed that comes in pieces: what waits, piece after piece. Assumes nothing.
use mathlib.Core.Bool.{Bool}
use mathlib.Core.List.{List}
use mathlib.Core.Path.{◌≡◌}
use Prim.Native.Nat.{ℕ, ◌+◌, ◌-◌, ◌≤◌, ◌<◌}
use native.Mathlib.Omega.{arith}
use lib.ListN.{length, take, drop, length-take, length-drop}
use Rattle.feed.specs.Runs.{State, run_over, done_of}
use Rattle.feed.specs.declared.run.Done.{Done}
use Rattle.feed.proofs.RunEnds.{done-within}

-- so many octets have come; those from an offset on wait
pub record Waits (s : List ℕ) (from to : ℕ) : Type 0 where
  pub within : from ≤ to
  pub come : to ≤ length s

-- one piece more
pub waits-more : (s : List ℕ) (from to next : ℕ) → Waits s from to → (to < next) × (next ≤ length s) → (over : Bool) (st : State) (d : Done)
    → d ≡ done_of (run_over (take (next - from) (drop from s)) over st) → Waits s (from + d.at) next
waits-more s from to next w h over st d is =
    let part = take (next - from) (drop from s) in
    record {
      within = omega (arith, w.within, h, done-within part over st d is, length-take (next - from) (drop from s), length-drop from s);
      come = h.1;
    }
