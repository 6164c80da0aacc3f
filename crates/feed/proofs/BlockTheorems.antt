-- The reports along an accepted block's steps are those of its records by number, 0, 1, 2 and so on. Assumes nothing.
use mathlib.Core.Path.{◌≡◌, refl, sym, ap, ◌∙◌}
use mathlib.Core.List.{List, [], ◌∷◌, map, map-map}
use Prim.Native.Nat.{ℕ, suc}
use lib.ListN.{length}
use Rattle.octets.specs.Numbers.{Octets}
use Rattle.blocks.specs.Boundaries.{Visited}
use Rattle.blocks.specs.Walks.{read_of}
use Rattle.blocks.specs.declared.record.Record.{Record}
use Rattle.blocks.specs.Reading.{Reading}
use Rattle.rows.specs.Order.{upto}
use Rattle.rows.specs.Posting.{Report}
use Rattle.ledger.specs.Reports.{report_in, report_at, step_at, report_of}
use Rattle.ledger.proofs.ReportLaws.{at_more}
use Rattle.feed.specs.Blocks.{reports_of}
use Rattle.feed.proofs.BlockReports.{block-visited}

-- the records that steps visit, by their numbers
by_number : (s : List ℕ) (ts : List Record) (at end : ℕ) → Visited s at ts end
    → map (report_in s) ts ≡ map (λ k. report_at s (step_at s k at)) (upto (length ts))
unfolding upto step_at
by_number s [] at end v = refl
by_number s (t ∷ ts) at end (q, e, v) =
    rw (e, by_number s ts q end v)
    (ap (λ (rs : List Report). report_in s t ∷ rs)
    (sym (map-map (λ k. report_at s (step_at s k at)) suc (upto (length ts)) ∙ simp (at_more s, e))))

-- Posting along the steps posts record 0, 1, 2 .. of the block.
pub block_numbers : (s : List ℕ) (len n : ℕ) → Octets s → read_of s ≡ Reading.Accepted len n → reports_of s ≡ map (λ k. report_of s k) (upto n)
unfolding report_of
block_numbers s len n o h =
    let (ts, v, count, is) = block-visited s len n o h in
    rw (h, ← count) (is ∙ by_number s ts 3 len v)
