-- What the octets at hand begin with: what it says of LEN; and what they decide stays so, whatever comes behind them. Assumes nothing.
use mathlib.Core.Path.{◌≡◌, refl, sym, ap, ◌∙◌, subst}
use mathlib.Core.Bool.{Bool, true, false, false≢true}
use mathlib.Core.List.{List, [], ◌∷◌, ◌++◌}
use mathlib.Core.Logic.{◌⊎◌, inl, inr}
use Prim.Native.Nat.{ℕ, zero, suc, ◌+◌, ◌*◌, ◌≤◌, ◌<◌}
use native.Mathlib.Omega.{arith}
use borrow.Author.Tests.{ltb-true, ltb-false}
use lib.Dec.{ltb, eqb}
use lib.ListN.{length, get_or, length-append, get_or-append, get_or-eq_default}
use Rattle.octets.specs.Choice.{pick}
use Rattle.octets.specs.Numbers.{Octets, number}
use Rattle.octets.proofs.Numbers.{number_lt, number_same}
use Rattle.octets.proofs.Cases.{test, choose}
use Rattle.blocks.specs.Statistics.{statistics_of}
use Rattle.blocks.specs.Steps.{step_of}
use Rattle.blocks.specs.Walks.{read_of}
use Rattle.blocks.specs.declared.record.Record.{Record}
use Rattle.blocks.specs.declared.statistics.Statistics.{Statistics}
use Rattle.blocks.specs.Step.{Step}
use Rattle.blocks.specs.Step as step
use Rattle.blocks.specs.Reading.{Reading}
use Rattle.blocks.specs.Reading as reading
use Rattle.blocks.proofs.SameAnswers.{read-after_len, step-after_len}
use Rattle.blocks.proofs.StepLaws.{of_step}
use Rattle.rows.specs.Posting.{counts}
use Rattle.blocks.specs.Statistics.{is_statistics}
use Rattle.ledger.specs.Reports.{entries_from, report_in}
use Rattle.ledger.specs.Steps.{Lies}
use Rattle.ledger.proofs.ReportLaws.{lies, entries_lie}
use Rattle.feed.specs.Blocks.{len_of, judged, next_of, reports_from, reports_of}
use Rattle.feed.specs.Runs.{State, accepted_block}
use Rattle.feed.specs.declared.run.Ending.{Ending}
use Rattle.feed.specs.declared.run.Ending.TheVariants as ending
use Rattle.feed.specs.declared.block.Next.{Next}
use Rattle.feed.specs.declared.block.Next.TheVariants as next
use Rattle.feed.proofs.NextLaws.{Whole, next_cases, next_low, next-judged}
use Rattle.feed.proofs.BlockReports.{reports_step}

-- Octets with others behind them

module _ (s t : List ℕ) where
  -- what is there stays where it is
  at_more : (i : ℕ) → i < length s → get_or (s ++ t) i 0 ≡ get_or s i 0
  at_more i l = get_or-append s t 0 i l

  octets-front : Octets (s ++ t) → Octets s
  octets-front o i =
      test (ltb i (length s)) (λ e. rw (← at_more i (ltb-true i (length s) e)) (o i))
      (λ e. let l = ltb-false i (length s) e in rw (get_or-eq_default s 0 {n = i} l) (omega arith))

  -- a number of octets that are there
  number_more : (k at : ℕ) → at + k ≤ length s → number k (s ++ t) at ≡ number k s at
  number_more k at l = number_same k (s ++ t) s at (λ j a b. at_more j (omega arith))

  len_more : 3 ≤ length s → len_of (s ++ t) ≡ len_of s
  len_more l = number_more 2 1 (omega arith)

  long-more : length s ≤ length (s ++ t)
  long-more = rw length-append (omega arith)

module _ (s : List ℕ) where
  -- what each answer says
  abbrev Says : Bool → Next → Type 0
  Says over (next.Accepted len) = Whole s len
  Says over (next.Skipped len) = Whole s len
  Says over (next.Left ending.Ended) = over ≡ true
  Says over (next.Left ending.Stopped) = Unit {0}
  Says over (next.Left ending.More) = (over ≡ false) × ((length s < 3) ⊎ (length s < len_of s))

  says-short : (over : Bool) → length s < 3 → Says over (pick over (pick (eqb (length s) 0) (Next.Left Ending.Ended) (Next.Left Ending.Stopped)) (Next.Left Ending.More))
  says-short true l = choose (Says true) (eqb (length s) 0) (λ e. refl) (λ e. tt)
  says-short false l = (refl, inl l)

  says-cut : (over : Bool) → length s < len_of s → Says over (pick over (Next.Left Ending.Stopped) (Next.Left Ending.More))
  says-cut true l = tt
  says-cut false l = (refl, inr l)

  says-whole : (over : Bool) (r : Reading) → Whole s (len_of s) → Says over (judged (len_of s) r)
  says-whole over (reading.Accepted l n) w = w
  says-whole over (reading.Refused n at) w = w

  -- the answer says it
  next-says : (over : Bool) (x : Next) → next_of s over ≡ x → Says over x
  next-says over x e =
      subst (Says over) e
      (next_cases s over (Says over) (says-short over) (λ l h. tt) (says-cut over) (says-whole over (read_of s)))

  -- a block to post or to skip
  pub next_whole_block : (over : Bool) (len : ℕ) → (next_of s over ≡ Next.Accepted len) ⊎ (next_of s over ≡ Next.Skipped len) → Whole s len
  next_whole_block over len (inl e) = next-says over (Next.Accepted len) e
  next_whole_block over len (inr e) = next-says over (Next.Skipped len) e

  -- fewer octets wait than the longest block has
  pub next-waits : Octets s → next_of s false ≡ Next.Left Ending.More → length s < 65535
  next-waits o e = go (next-says false (Next.Left Ending.More) e).1
    where
      go : (length s < 3) ⊎ (length s < len_of s) → length s < 65535
      go (inl l) = omega arith
      go (inr l) = omega (arith, number_lt 2 s 1 o)

  -- input that is not over does not end; where it is over, nothing is waited for
  pub never_ended : next_of s false ≡ Next.Left Ending.Ended → ⊥
  never_ended e = false≢true (next-says false (Next.Left Ending.Ended) e)

  pub never_more : next_of s true ≡ Next.Left Ending.More → ⊥
  never_more e = false≢true (sym (next-says true (Next.Left Ending.More) e).0)

-- Octets behind what is decided

module _ (s t : List ℕ) (len : ℕ) (w : Whole s len) where
  whole-more : Whole (s ++ t) len
  whole-more = record {
    is-len = w.is-len ∙ sym (len_more s t (omega arith));
    least = w.least;
    fits = omega (arith, long-more s t);
  }

  -- before LEN they are the same
  before : (i : ℕ) → i < len_of s → get_or s i 0 ≡ get_or (s ++ t) i 0
  before i l = sym (at_more s t i (omega arith))

  read_more : read_of s ≡ read_of (s ++ t)
  read_more =
      read-after_len s (s ++ t) (λ i l. before i (omega arith)) (omega arith) (omega (arith, long-more s t)) (omega arith)
      (omega (arith, long-more s t)) before

  step-more : (at : ℕ) → step_of s at ≡ step_of (s ++ t) at
  step-more =
      step-after_len s (s ++ t) (λ i l. before i (omega arith)) (omega arith) (omega (arith, long-more s t)) (omega arith)
      (omega (arith, long-more s t)) before

-- What is decided by the octets at hand is decided for good.
pub next_more : (s t : List ℕ) (over : Bool) → Octets (s ++ t) → (x : Next) → next_of s false ≡ x → (x ≡ Next.Left Ending.More → ⊥) → next_of (s ++ t) over ≡ x
next_more s t over o x e n =
    next_cases s false (λ y. (y ≡ Next.Left Ending.More → ⊥) → next_of (s ++ t) over ≡ y)
    (λ l m. absurd (m refl))
    (λ l h m. sym (next_low (s ++ t) over (omega (arith, long-more s t)) (len_of (s ++ t)) refl (rw (len_more s t l) h)))
    (λ l m. absurd (m refl))
    (λ w m. let v = whole-more s t (len_of s) w in
    sym (next-judged (s ++ t) over (omega (arith, long-more s t)) (len_of s) v.is-len v.least v.fits (read_of s) (read_more s t (len_of s) w)))
    (λ m. n (sym e ∙ m))
    ∙ e

-- Reports of records whose entries lie in the octets
module _ (s t : List ℕ) where
  entries-more : (r : Statistics) (n k : ℕ) → r.at + (k + n) * 6 ≤ length s → entries_from (s ++ t) r n k ≡ entries_from s r n k
  unfolding entries_from
  entries-more r zero k l = refl
  entries-more r (suc n) k l = rw (number_more s t 6 (r.at + k * 6) (omega arith), entries-more r n (suc k) (omega arith))

  report-more : (r : Record) → Lies s r → report_in (s ++ t) r ≡ report_in s r
  unfolding report_in
  report-more r w =
      test (is_statistics r)
      (λ e. let l = entries_lie s r e (statistics_of r) refl w in
      rw e (ap counts (entries-more (statistics_of r) r.entries.count 0 (omega arith))))
      (λ e. rw e)

  module _ (o : Octets s) (len : ℕ) (w : Whole s len) where
    reports_more : (n at : ℕ) → reports_from (s ++ t) n at ≡ reports_from s n at
    reports_more zero at = unfold reports_from in refl
    reports_more (suc n) at =
        reports_step (s ++ t) n at ∙ rw (← step-more s t len w at) (go (step_of s at) refl (reports_more n)) ∙ sym (reports_step s n at)
      where
        go : (x : Step) → step_of s at ≡ x → ((q : ℕ) → reports_from (s ++ t) n q ≡ reports_from s n q)
            → of_step (λ m q. []) (λ r q. report_in (s ++ t) r ∷ reports_from (s ++ t) n q) x
            ≡ of_step (λ m q. []) (λ r q. report_in s r ∷ reports_from s n q) x
        go (step.Refused m q) e ih = refl
        go (step.Taken r c) e ih = rw (report-more r (lies s at r c o (sym e)), ih c.at)

-- The reports of an accepted block do not depend on the octets behind LEN, and so neither does what is posted.
module _ (s t : List ℕ) (len : ℕ) (o : Octets (s ++ t)) (e : next_of s false ≡ Next.Accepted len) where
  pub reports_behind : reports_of (s ++ t) ≡ reports_of s
  reports_behind =
      let w = next_whole_block s false len (inl e) in
      rw (len_more s t (omega arith)) (reports_more s t (octets-front s t o) len w (len_of s) 3)

  pub accepted-behind : (st : State) → accepted_block st (s ++ t) ≡ accepted_block st s
  accepted-behind st = rw reports_behind
