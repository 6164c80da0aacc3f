-- Record k of an accepted block is the k-th that reading counts, from 0, and there is no other. Assumes nothing.
use mathlib.Core.List.{List, [], ◌∷◌}
use mathlib.Core.Path.{◌≡◌, ◌∙◌}
use Prim.Native.Nat.{ℕ, zero, suc, ◌≤◌, ◌<◌}
use native.Mathlib.Omega.{arith}
use lib.ListN.{length, get_or}
use Rattle.octets.specs.Numbers.{Octets}
use Rattle.octets.specs.Refusals.{no_such}
use Rattle.blocks.specs.Boundaries.{Visited}
use Rattle.blocks.specs.Headers.{header_of}
use Rattle.blocks.specs.Typed.{absent}
use Rattle.blocks.specs.Walks.{read_of}
use Rattle.blocks.specs.Step.{Step}
use Rattle.blocks.specs.Head.{Head}
use Rattle.blocks.specs.declared.record.Record.{Record}
use Rattle.blocks.specs.Reading.{Reading}
use Rattle.blocks.proofs.BoundaryLaws.{read-filled, visited, step_end}
use Rattle.ledger.specs.Reports.{step_at}
use Rattle.ledger.proofs.ReportLaws.{at_more}

module _ (s : List ℕ) (cat len : ℕ) (head : header_of s ≡ Head.Good cat len) where
  at-end : (k at : ℕ) → len ≤ at → step_at s k at ≡ Step.Refused no_such 0
  at-end zero at h = unfold step_at in step_end s cat len head at h
  at-end (suc k) at h = at_more s k at ∙ rw (step_end s cat len head at h)

  none_after : (ts : List Record) (at k : ℕ) → Visited s at ts len → length ts ≤ k → step_at s k at ≡ Step.Refused no_such 0
  none_after [] at k v h = at-end k at (omega arith)
  none_after (t ∷ ts) at zero v h = absurd (omega arith)
  none_after (t ∷ ts) at (suc k) v h = at_more s k at ∙ rw v.1 (none_after ts v.0 k v.2 (omega arith))

taken : (s : List ℕ) (len : ℕ) (ts : List Record) (at k : ℕ) → Visited s at ts len → k < length ts
    → (q : ℕ) × (step_at s k at ≡ Step.Taken (get_or ts k absent) (record { at = q }))
taken s len [] at k v h = absurd (omega arith)
taken s len (t ∷ ts) at zero v h = (v.0, unfold step_at in v.1)
taken s len (t ∷ ts) at (suc k) v h =
    let rest = taken s len ts v.0 k v.2 (omega arith) in
    (rest.0, at_more s k at ∙ rw v.1 rest.1)

module _ (s : List ℕ) (len n : ℕ) (o : Octets s) (h : read_of s ≡ Reading.Accepted len n) where
  -- 17 exactly from the count on
  pub record_past : (k : ℕ) → n ≤ k → step_at s k 3 ≡ Step.Refused no_such 0
  record_past k l =
      let (cat, rs, head, j, many, is) = read-filled s len n o h in
      let (c, ts, v, count, b) = visited s len n o h in
      none_after s cat len head ts 3 k v (omega arith)

  -- below it the k-th of the records that steps from the first visit
  pub record_taken : (k : ℕ) → k < n → (ts : List Record) × Visited s 3 ts len × (length ts ≡ n)
      × ((q : ℕ) × (step_at s k 3 ≡ Step.Taken (get_or ts k absent) (record { at = q })))
  record_taken k l =
      let (c, ts, v, count, b) = visited s len n o h in
      (ts, v, count, taken s len ts 3 k v (omega arith))
