-- The reports of an accepted block are those of the records that steps visit, and these have its category. Assumes nothing.
use mathlib.Core.List.{List, [], ◌∷◌, map}
use mathlib.Core.Path.{◌≡◌, refl, sym, ap, ◌∙◌}
use Prim.Native.Nat.{ℕ, zero, suc, ◌+◌, ◌≤◌}
use native.Mathlib.Omega.{arith}
use lib.ListN.{length, get_or}
use Rattle.octets.specs.Numbers.{Octets}
use Rattle.blocks.specs.Boundaries.{Visited}
use Rattle.blocks.specs.Steps.{step_of}
use Rattle.blocks.specs.Typed.{typed_rec}
use Rattle.blocks.specs.Walks.{read_of}
use Rattle.blocks.specs.declared.cursor.Cursor.{Cursor}
use Rattle.blocks.specs.Step.{Step}
use Rattle.blocks.specs.declared.record.Record.{Record}
use Rattle.blocks.specs.Reading.{Reading}
use Rattle.blocks.proofs.BlockLaws.{category-cat}
use Rattle.blocks.proofs.BoundaryLaws.{visited}
use Rattle.blocks.proofs.HeaderLaws.{Headed, header-good}
use Rattle.blocks.proofs.StepLaws.{of_step, by-step, step-took}
use Rattle.blocks.proofs.TakenLaws.{accepted-head, accepted-end, accepted-forward}
use Rattle.ledger.specs.Reports.{report_in}
use Rattle.feed.specs.Blocks.{len_of, reports_from, reports_of}

-- the reports from an offset: by the step from there
pub reports_step : (s : List ℕ) (n at : ℕ)
    → reports_from s (suc n) at ≡ of_step (λ m q. []) (λ t next. report_in s t ∷ reports_from s n next) (step_of s at)
unfolding reports_from
reports_step s n at = sym (by-step (λ m q. []) (λ t next. report_in s t ∷ reports_from s n next) s at)

-- a record that a step takes has the category that the first octet says
pub taken-category : (s : List ℕ) (at : ℕ) (t : Record) (c : Cursor) → step_of s at ≡ Step.Taken t c → t.category ≡ get_or s 0 0
unfolding typed_rec
taken-category s at t c e =
    let w = step-took s at t c e in
    ap (λ (x : Record). x.category) w.taking.same ∙ category-cat w.cat ∙ (header-good s w.cat w.len w.head).is-cat

module _ (s : List ℕ) (len n : ℕ) (o : Octets s) (h : read_of s ≡ Reading.Accepted len n) where
  -- what its header says
  pub head : Headed s (get_or s 0 0) len
  head = header-good s (get_or s 0 0) len (accepted-head s len n o h)

  -- none from LEN on
  reports_end : (m at : ℕ) → len ≤ at → reports_from s m at ≡ []
  reports_end zero at l = unfold reports_from in refl
  reports_end (suc m) at l = reports_step s m at ∙ rw (accepted-end s len n o h at l)

  -- the records that steps visit up to LEN
  reports_visited : (ts : List Record) (m at : ℕ) → Visited s at ts len → length ts ≤ m → reports_from s m at ≡ map (report_in s) ts
  reports_visited [] m at v l = reports_end m at (omega arith)
  reports_visited (t ∷ ts) zero at v l = absurd (omega arith)
  reports_visited (t ∷ ts) (suc m) at (q, e, v) l = reports_step s m at ∙ rw (e, reports_visited ts m q v (omega arith))

  -- each of them has an octet at least
  visited-long : (ts : List Record) (at : ℕ) → Visited s at ts len → at + length ts ≤ len
  visited-long [] at v = omega arith
  visited-long (t ∷ ts) at (q, e, v) =
      let f = accepted-forward s len n o h at t (record { at = q }) e in
      omega (arith, visited-long ts q v)

  -- all of them
  pub block-visited : (ts : List Record) × Visited s 3 ts len × (length ts ≡ n) × (reports_of s ≡ map (report_in s) ts)
  block-visited =
      let (c, ts, v, count, b) = visited s len n o h in
      let long = visited-long ts 3 v in
      let g = head in
      (ts, v, count, reports_visited ts (len_of s) 3 v (omega arith))
