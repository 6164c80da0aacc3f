-- The steps of an accepted block. Assumes nothing.
use mathlib.Core.Path.{◌≡◌, refl, sym, ap, ◌∙◌}
use mathlib.Core.List.{List}
use Prim.Native.Nat.{ℕ, ◌<◌, ◌≤◌}
use native.Mathlib.Omega.{arith}
use lib.ListN.{get_or}
use Rattle.octets.specs.Numbers.{Octets}
use Rattle.octets.specs.Refusals.{no_such}
use Rattle.layouts.specs.Categories.{category}
use Rattle.blocks.specs.Headers.{header_of}
use Rattle.blocks.specs.Steps.{take_of, step_of}
use Rattle.blocks.specs.Walks.{read_of}
use Rattle.blocks.specs.Head.{Head}
use Rattle.blocks.specs.declared.record.Record.{Record}
use Rattle.blocks.specs.declared.cursor.Cursor.{Cursor}
use Rattle.blocks.specs.Step.{Step}
use Rattle.blocks.specs.Reading.{Reading}
use Rattle.blocks.proofs.HeaderLaws.{header-good}
use Rattle.blocks.proofs.ReadSteps.{record_within}
use Rattle.blocks.proofs.StepLaws.{step-took, step-inside}
use Rattle.blocks.proofs.BoundaryLaws.{read-filled, step_end}

module _ (s : List ℕ) (len n : ℕ) (o : Octets s) (h : read_of s ≡ Reading.Accepted len n) where
  -- its header is good, with the first octet as its category
  pub accepted-head : header_of s ≡ Head.Good (get_or s 0 0) len
  accepted-head =
      let (cat, rs, head, j, count, is) = read-filled s len n o h in
      head ∙ ap (λ c. Head.Good c len) (header-good s cat len head).is-cat

  -- inside the block `take` is a step
  pub accepted-step : (at : ℕ) → 3 ≤ at → at < len → take_of s len (get_or s 0 0) at ≡ step_of s at
  accepted-step at low more = step-inside s at (get_or s 0 0) len (sym accepted-head) low more _ refl

  -- from LEN on a step takes no record
  pub accepted-end : (at : ℕ) → len ≤ at → step_of s at ≡ Step.Refused no_such 0
  accepted-end = step_end s (get_or s 0 0) len accepted-head

  -- a step that takes a record starts below LEN, and goes forward
  pub accepted-forward : (at : ℕ) (t : Record) (c : Cursor) → step_of s at ≡ Step.Taken t c → (at < len) × (at < c.at)
  accepted-forward at t c e =
      let w = step-took s at t c e in
      let same : w.len ≡ len = cc (w.head, accepted-head) in
      (omega (arith, w.more), (record_within s w.len (category w.cat) o at c.at w.taking.r w.taking.is).0)
