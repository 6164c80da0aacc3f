-- Posting, by the case that a branch of the code is in. Assumes nothing.
use mathlib.Core.Path.{◌≡◌, sym, ap, ◌∙◌}
use mathlib.Core.Bool.{Bool, true, false}
use mathlib.Core.List.{List}
use Prim.Native.Nat.{ℕ, ◌≤◌}
use borrow.Author.Tests.{lt-ltb, le-ltb, leb-false}
use lib.Dec.{leb}
use Rattle.octets.specs.Refusals.{not_statistics, rules_broken, no_room, life_passes}
use Rattle.blocks.specs.Statistics.{is_statistics, statistics_of}
use Rattle.blocks.specs.declared.record.Record.{Record}
use Rattle.blocks.specs.declared.statistics.Statistics.{Statistics}
use Rattle.rows.specs.Rows.{Entry, add_up}
use Rattle.rows.specs.Posting.{refused, counts, rows_for, passes, add_all, post_rows}
use Rattle.ledger.specs.Ledgers.{answer, rows_of, cells_of, keeps_rules}
use Rattle.ledger.specs.Reports.{entries_at, report_in, report_of}
use Rattle.ledger.specs.Posts.{posted_to, post_of}
use Rattle.ledger.specs.Steps.{Kept}
use Rattle.ledger.specs.Answer.{Answer}
use Rattle.ledger.proofs.ReportLaws.{report-other, report-counts}

-- A report posted to a ledger that keeps the rules: one that is refused leaves it as it is
module _ (l : List ℕ) (k : Kept l) where
  pub post_refused : (n : ℕ) → answer n l ≡ posted_to l (refused n)
  unfolding post_rows
  post_refused n = ap (answer n) k.rest

  module _ (es : List Entry) where
    pub no_room_lem : (a : Bool) → a ≡ leb (rows_for (rows_of l) es) 256 → a ≡ false → answer no_room l ≡ posted_to l (counts es)
    unfolding post_rows
    no_room_lem a room h = rw (lt-ltb 256 (rows_for (rows_of l) es) (leb-false _ _ (sym room ∙ h))) (ap (answer no_room) k.rest)

    module _ (h : rows_for (rows_of l) es ≤ 256) where
      pub life-passes : true ≡ passes add_up (rows_of l) es → answer life_passes l ≡ posted_to l (counts es)
      unfolding post_rows
      life-passes p = rw (le-ltb 256 (rows_for (rows_of l) es) h, ← p) (ap (answer life_passes) k.rest)

      pub all-added : passes add_up (rows_of l) es ≡ false → (m : List ℕ) → m ≡ cells_of (add_all add_up (rows_of l) es) → answer 0 m ≡ posted_to l (counts es)
      unfolding post_rows
      all-added p m a = rw (le-ltb 256 (rows_for (rows_of l) es) h, p) (ap (answer 0) a)

-- A typed record posted to a ledger that keeps the rules
module _ (l : List ℕ) (k : Kept l) (s : List ℕ) (t : Record) where
  pub post_other : is_statistics t ≡ false → answer not_statistics l ≡ posted_to l (report_in s t)
  post_other e = post_refused l k not_statistics ∙ ap (posted_to l) (report-other s t e)

  pub post_statistics : is_statistics t ≡ true → (r : Statistics) → r ≡ statistics_of t
      → (a : Answer) → a ≡ posted_to l (counts (entries_at s r)) → a ≡ posted_to l (report_in s t)
  post_statistics e r is a posted = posted ∙ ap (posted_to l) (report-counts s t e r is)

-- Octets and a record number posted to any ledger
module _ (l : List ℕ) (s : List ℕ) (k : ℕ) where
  pub post_broken : keeps_rules l ≡ false → answer rules_broken l ≡ post_of l s k
  unfolding post_of
  post_broken e = rw e

  pub post_kept : keeps_rules l ≡ true → posted_to l (report_of s k) ≡ post_of l s k
  unfolding post_of
  post_kept e = rw e
