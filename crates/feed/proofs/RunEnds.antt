-- How a run leaves off: within its octets, and waiting only where the input is not over. Assumes nothing.
use mathlib.Core.Bool.{Bool, true, false}
use mathlib.Core.List.{List}
use mathlib.Core.Logic.{inl, inr}
use mathlib.Core.Path.{◌≡◌, refl, ap}
use Prim.Native.Nat.{ℕ, zero, suc, ◌+◌, ◌≤◌, ◌<◌}
use native.Mathlib.Omega.{arith}
use lib.ListN.{length, drop, length-drop}
use Rattle.feed.specs.Blocks.{next_of}
use Rattle.feed.specs.Runs.{State, accepted_block, refused_block, go_on, run_from, run_over, done_of}
use Rattle.feed.specs.declared.run.Done.{Done}
use Rattle.feed.specs.declared.run.Ending.{Ending}
use Rattle.feed.specs.declared.run.Ending.TheVariants as ending
use Rattle.feed.specs.declared.block.Next.{Next}
use Rattle.feed.specs.declared.block.Next.TheVariants as next
use Rattle.feed.proofs.NextLaws.{Whole}
use Rattle.feed.proofs.NextTheorems.{next_whole_block, never_ended, never_more}

-- input that is over is not waited for, and input that is not does not end
abbrev pub Proper : Bool → Ending → Type 0
Proper true ending.More = ⊥
Proper true ending.Ended = Unit {0}
Proper true ending.Stopped = Unit {0}
Proper false ending.More = Unit {0}
Proper false ending.Ended = ⊥
Proper false ending.Stopped = Unit {0}

left-proper : (s : List ℕ) (over : Bool) (e : Ending) → next_of s over ≡ Next.Left e → Proper over e
left-proper s true ending.Ended h = tt
left-proper s true ending.Stopped h = tt
left-proper s true ending.More h = never_more s h
left-proper s false ending.Ended h = never_ended s h
left-proper s false ending.Stopped h = tt
left-proper s false ending.More h = tt

-- how a run leaves off
pub record Left (s : List ℕ) (over : Bool) (at : ℕ) (e : Ending) : Type 0 where
  pub within : at ≤ length s
  pub proper : Proper over e

-- behind a block, which leaves less than there was
left_behind : (s : List ℕ) (over : Bool) (n len : ℕ) → length s < suc n → Whole s len → (at : ℕ) (e : Ending)
    → (length (drop len s) < n → Left (drop len s) over at e) → Left s over (len + at) e
left_behind s over n len l w at e ih =
    let h = ih (omega (arith, w.least, w.fits, length-drop len s)) in
    record { within = omega (arith, h.within, w.fits, length-drop len s); proper = h.proper }

-- block after block
left-from : (n : ℕ) (s : List ℕ) (over : Bool) (st : State) → length s < n → Left s over (run_from n s over st).at (run_from n s over st).ending
unfolding run_from
left-from zero s over st l = absurd (omega arith)
left-from (suc n) s over st l = go (next_of s over) refl (λ len. left-from n (drop len s) over)
  where
    go : (x : Next) → next_of s over ≡ x
        → ((len : ℕ) (to : State) → length (drop len s) < n
        → Left (drop len s) over (run_from n (drop len s) over to).at (run_from n (drop len s) over to).ending)
        → let r = go_on s st (λ len to. run_from n (drop len s) over to) x in Left s over r.at r.ending
    go (next.Left x) e ih = record { within = omega arith; proper = left-proper s over x e }
    go (next.Skipped len) e ih = left_behind s over n len l (next_whole_block s over len (inr e)) _ _ (ih len (refused_block st))
    go (next.Accepted len) e ih = left_behind s over n len l (next_whole_block s over len (inl e)) _ _ (ih len (accepted_block st s))

-- A run leaves off within its octets, and waits only where the input is not over.
pub run-left : (s : List ℕ) (over : Bool) (st : State) → Left s over (run_over s over st).at (run_over s over st).ending
run-left s over st = left-from (suc (length s)) s over st (omega arith)

-- so the function that runs
pub done-within : (s : List ℕ) (over : Bool) (st : State) (d : Done) → d ≡ done_of (run_over s over st) → d.at ≤ length s
done-within s over st d is = omega (arith, ap (λ x. x.at) is, (run-left s over st).within)
