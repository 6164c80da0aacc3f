-- The report that octets and a record number are, by what was read; and what holds of a record that a step hands out. Assumes nothing.
use mathlib.Core.Path.{◌≡◌, refl, sym, ◌∙◌}
use mathlib.Core.Bool.{Bool, true, false, ◌&&◌, false≢true}
use mathlib.Core.List.{List}
use Prim.Native.Nat.{ℕ, zero, suc, ◌<◌, ◌≤◌}
use native.Mathlib.Omega.{arith}
use borrow.Author.Tests.{eqb-true}
use Rattle.octets.specs.Numbers.{Octets}
use Rattle.octets.specs.Refusals.{not_statistics}
use Rattle.blocks.specs.Statistics.{is_statistics, statistics_of}
use Rattle.blocks.specs.Steps.{step_of}
use Rattle.blocks.specs.Walks.{read_of}
use Rattle.blocks.specs.declared.record.Record.{Record}
use Rattle.blocks.specs.declared.cursor.Cursor.{Cursor}
use Rattle.blocks.specs.Step.{Step}
use Rattle.blocks.specs.Step as step
use Rattle.blocks.specs.declared.statistics.Statistics.{Statistics}
use Rattle.blocks.specs.Reading.{Reading}
use Rattle.blocks.proofs.SmallLaws.{step_small, step-time}
use Rattle.blocks.proofs.StepLaws.{not_taken, of_step, by-step, entries-room}
use Rattle.rows.specs.Posting.{refused, counts}
use Rattle.ledger.specs.Reports.{entries_at, report_in, step_at, report_of}
use Rattle.ledger.specs.Steps.{Reported, Lies}

-- What holds of every record that a step hands out

pub lies : (s : List ℕ) (start : ℕ) (t : Record) (c : Cursor) → Octets s → Step.Taken t c ≡ step_of s start → Lies s t
lies s start t c o h =
    let w = step_small s start t c o h in
    record {
      room = entries-room s start t c o h;
      sac = w.0.0;
      sic = w.0.1;
      sid = w.1.0;
      styp = w.1.1;
      day = step-time s start t c o h;
    }

-- Record k from a start: a step first, and then record k - 1 from where the step ended
module _ (s : List ℕ) where
  pub at_more : (k start : ℕ) → step_at s (suc k) start ≡ of_step Step.Refused (λ t next. step_at s k next) (step_of s start)
  unfolding step_at
  at_more k start = sym (by-step Step.Refused (λ t next. step_at s k next) s start)

  pub at_last : (k start : ℕ) → k ≤ 0 → step_of s start ≡ step_at s k start
  unfolding step_at
  at_last zero start l = refl
  at_last (suc k) start l = absurd (omega arith)

  pub at-stopped : (k start n p : ℕ) → 0 < k → Step.Refused n p ≡ step_of s start → Step.Refused n p ≡ step_at s k start
  at-stopped zero start n p l h = absurd (omega arith)
  at-stopped (suc k) start n p l h = rw (at_more, ← h)

  pub at_next : (k rest start : ℕ) (t : Record) (c : Cursor) → k ≡ suc rest → Step.Taken t c ≡ step_of s start → step_at s k start ≡ step_at s rest c.at
  at_next k rest start t c e h = rw (e, at_more, ← h)

  -- a record that is handed out after some steps is handed out by one
  pub some-step : (k start : ℕ) (t : Record) (c : Cursor) → Step.Taken t c ≡ step_at s k start → (p : ℕ) × (Step.Taken t c ≡ step_of s p)
  unfolding step_at
  some-step zero start t c h = (start, h)
  some-step (suc k) start t c h = go (step_of s start) (λ next. some-step k next t c) (h ∙ at_more k start)
    where
      go : (x : Step) → ((next : ℕ) → Step.Taken t c ≡ step_at s k next → (p : ℕ) × (Step.Taken t c ≡ step_of s p))
          → Step.Taken t c ≡ of_step Step.Refused (λ u next. step_at s k next) x → (p : ℕ) × (Step.Taken t c ≡ step_of s p)
      go (step.Refused n p) ih e = absurd (not_taken (sym e))
      go (step.Taken u next) ih e = ih next.at e

-- of five tests that all hold the first holds
first_holds : (a b c d e : Bool) → (a && b && c && d && e) ≡ true → a ≡ true
first_holds true b c d e h = refl
first_holds false b c d e h = absurd (false≢true h)

-- The report that a typed record is
module _ (s : List ℕ) (t : Record) where
  pub report-other : is_statistics t ≡ false → refused not_statistics ≡ report_in s t
  unfolding report_in
  report-other e = rw e

  module _ (e : is_statistics t ≡ true) (r : Statistics) (is : r ≡ statistics_of t) where
    pub report-counts : counts (entries_at s r) ≡ report_in s t
    unfolding report_in
    report-counts = rw (e, is)

    -- its entries lie in the octets, and its time is a time of day
    pub entries_lie : Lies s t → Reported s r
    entries_lie w = rw is (record { entries = rw (eqb-true t.category 23 (first_holds _ _ _ _ _ e)) at w.room; day = w.day })

-- The report that octets and a record number are
module _ (s : List ℕ) (k : ℕ) where
  pub report-refused : (n at : ℕ) → Reading.Refused n at ≡ read_of s → refused n ≡ report_of s k
  unfolding report_of
  report-refused n at h = rw (← h)

  module _ (len count : ℕ) (read : Reading.Accepted len count ≡ read_of s) where
    pub report-stopped : (n at : ℕ) → Step.Refused n at ≡ step_at s k 3 → refused n ≡ report_of s k
    unfolding report_of
    report-stopped n at h = rw (← read, ← h)

    pub report-taken : (t : Record) (c : Cursor) → Step.Taken t c ≡ step_at s k 3 → report_in s t ≡ report_of s k
    unfolding report_of
    report-taken t c h = rw (← read, ← h)
