-- A run over a feed is the run over its blocks in turn. Assumes nothing.
use mathlib.Core.Bool.{Bool, false}
use mathlib.Core.List.{List, ◌++◌}
use mathlib.Core.Logic.{inl, inr}
use mathlib.Core.Path.{◌≡◌, ap, ◌∙◌}
use Prim.Native.Nat.{ℕ, zero, suc, ◌≤◌}
use native.Mathlib.Nat.{add-zero}
use native.Mathlib.Omega.{arith}
use lib.ListN.{length, drop}
use lib.Seq.{drop-length}
use Rattle.octets.specs.Numbers.{Octets}
use Rattle.feed.specs.Blocks.{next_of}
use Rattle.feed.specs.Runs.{State, left, behind, refused_block, accepted_block, run_from, run_over}
use Rattle.feed.specs.declared.block.Next.{Next}
use Rattle.feed.specs.declared.run.Ending.{Ending}
use Rattle.feed.proofs.NextTheorems.{next_whole_block}
use Rattle.feed.proofs.RunTheorems.{run_more}

-- behind a whole block nothing is left, and more is waited for
nothing_left : (n : ℕ) (b : List ℕ) (st : State) → 1 ≤ n → run_from n (drop (length b) b) false st ≡ left st 0 Ending.More
unfolding run_from next_of
nothing_left zero b st h = absurd (omega arith)
nothing_left (suc n) b st h = rw (drop-length b)

module _ (b t : List ℕ) (over : Bool) (st : State) (o : Octets (b ++ t)) where
  -- where a block alone leaves a state, what is behind it goes on from there
  go_on_lem : (st' : State) → run_over b false st ≡ left st' (length b) Ending.More → run_over (b ++ t) over st ≡ behind (length b) (run_over t over st')
  go_on_lem st' e =
      run_more b t over st o (ap (λ r. r.ending) e)
      ∙ (λ i. behind (e i).at (run_over (drop (e i).at b ++ t) over (e i).state)) ∙ rw (drop-length b)

  pub accepted-first : next_of b false ≡ Next.Accepted (length b) → run_over (b ++ t) over st ≡ behind (length b) (run_over t over (accepted_block st b))
  unfolding run_from
  accepted-first e =
      let w = next_whole_block b false (length b) (inl e) in
      go_on_lem (accepted_block st b) (rw (e, nothing_left (length b) b (accepted_block st b) (omega arith), add-zero))

  pub skipped_first : next_of b false ≡ Next.Skipped (length b) → run_over (b ++ t) over st ≡ behind (length b) (run_over t over (refused_block st))
  unfolding run_from
  skipped_first e =
      let w = next_whole_block b false (length b) (inr e) in
      go_on_lem (refused_block st) (rw (e, nothing_left (length b) b (refused_block st) (omega arith), add-zero))
