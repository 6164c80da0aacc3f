-- The records of an accepted block posted one by one: what is left to post, step by step. Assumes nothing.
use mathlib.Core.Bool.{Bool, true, false}
use mathlib.Core.List.{List, [], ◌∷◌, map}
use mathlib.Core.Path.{◌≡◌, refl, sym, ap, ◌∙◌, subst}
use Prim.Native.Nat.{ℕ, ◌≤◌, ◌<◌}
use native.Mathlib.Omega.{arith}
use borrow.Author.Tests.{ne_eqb}
use lib.ListN.{get_or}
use Rattle.octets.specs.Choice.{pick}
use Rattle.octets.specs.Numbers.{Octets}
use Rattle.octets.specs.Refusals.{not_statistics}
use Rattle.blocks.specs.Boundaries.{Visited}
use Rattle.blocks.specs.Statistics.{is_statistics, statistics_of, seen_of}
use Rattle.blocks.specs.Steps.{take_of, step_of}
use Rattle.blocks.specs.Walks.{read_of}
use Rattle.blocks.specs.declared.cursor.Cursor.{Cursor}
use Rattle.blocks.specs.Step.{Step}
use Rattle.blocks.specs.declared.record.Record.{Record}
use Rattle.blocks.specs.Seen.{Seen}
use Rattle.blocks.specs.declared.statistics.Statistics.{Statistics}
use Rattle.blocks.specs.Reading.{Reading}
use Rattle.blocks.proofs.SeenLaws.{Sees}
use Rattle.blocks.proofs.TakenLaws.{accepted-step, accepted-forward}
use Rattle.rows.specs.Rows.{Row, add_up}
use Rattle.rows.specs.Posting.{Report, refused, counts, post_rows, answers, after}
use Rattle.ledger.specs.Ledgers.{answer, rows_of, cells_of}
use Rattle.ledger.specs.Posts.{posted_to}
use Rattle.ledger.specs.Reports.{entries_at, report_in}
use Rattle.ledger.specs.Steps.{Kept, Reported}
use Rattle.ledger.specs.Answer.{Answer}
use Rattle.ledger.proofs.CellLaws.{rows_back}
use Rattle.ledger.proofs.PostSteps.{post_statistics}
use Rattle.ledger.proofs.ReportLaws.{lies, report-other, entries_lie}
use Rattle.feed.specs.Blocks.{reports_of}
use Rattle.feed.specs.Runs.{State, state}
use Rattle.feed.specs.Totals.{answered_one, block_done, accepted_one}
use Rattle.feed.specs.declared.totals.Totals.{Totals}
use Rattle.feed.proofs.BlockReports.{taken-category, block-visited}
use Rattle.feed.proofs.TotalLaws.{Small, answered-small, uncounted, answered-more, answered-none}

-- Reports posted to rows and counted, to the end of a block

abbrev pub ended : List Row → Totals → List Report → State
ended rows t rs = state (after add_up rows rs) (accepted_one t (answers add_up rows rs))

-- the first of them, and then the others
ended-more : (rows : List Row) (t : Totals) (x : Report) (rs : List Report) → let p = post_rows add_up rows x in
    ended p.rows (answered_one t p.refusal) rs ≡ ended rows t (x ∷ rs)
unfolding answers after
ended-more rows t x rs i =
    let p = post_rows add_up rows x in
    state (after add_up p.rows rs) (answered-more t p.refusal (answers add_up p.rows rs) i)

-- 13 is in no count and leaves the rows
ended-skip : (rows : List Row) (t : Totals) → Small t → (rs : List Report) → ended rows t rs ≡ ended rows t (refused not_statistics ∷ rs)
unfolding post_rows
ended-skip rows t small rs =
    ap (λ (to : Totals). ended rows to rs) (uncounted t small) ∙ ended-more rows t (refused not_statistics) rs

-- What a report posted to cells leaves
module _ (l : List ℕ) (x : Report) (r : ℕ) (m : List ℕ) (e : answer r m ≡ posted_to l x) where
  -- its rows
  post_rows_lem : rows_of m ≡ (post_rows add_up (rows_of l) x).rows
  post_rows_lem = ap (λ (a : Answer). rows_of a.ledger.cells) e ∙ rows_back (post_rows add_up (rows_of l) x).rows

  -- and the others to be posted
  post_ended : (t : Totals) (rs : List Report) → ended (rows_of m) (answered_one t r) rs ≡ ended (rows_of l) t (x ∷ rs)
  post_ended t rs =
      (λ i. ended (post_rows_lem i) (answered_one t (ap (λ (a : Answer). a.refusal) e i)) rs) ∙ ended-more (rows_of l) t x rs

-- Where all are posted, what is left to do is to count the block
all-posted : (l : List ℕ) (t : Totals) → Kept l → Small t → (st : State) → ended (rows_of l) t [] ≡ st
    → (l ≡ cells_of st.rows) × (block_done t ≡ st.totals)
unfolding after answers
all-posted l t k small st e = (
  k.rest ∙ ap (λ (x : State). cells_of x.rows) e,
  sym (answered-none t small) ∙ ap (λ (x : State). x.totals) e,
)

-- A block of another category than 23 has no statistics report

module _ (s : List ℕ) (other : get_or s 0 0 ≡ 23 → ⊥) where
  never_statistics : (at : ℕ) (t : Record) (c : Cursor) → step_of s at ≡ Step.Taken t c → is_statistics t ≡ false
  never_statistics at t c e = rw (ne_eqb t.category 23 (λ z. other (sym (taken-category s at t c e) ∙ z)))

  none-counted : (rows : List Row) (t : Totals) → Small t → (us : List Record) (at end : ℕ) → Visited s at us end
      → ended rows t [] ≡ ended rows t (map (report_in s) us)
  none-counted rows t small [] at end v = refl
  none-counted rows t small (u ∷ us) at end (q, e, v) =
      rw (← report-other s u (never_statistics at u (record { at = q }) e))
      (none-counted rows t small us q end v ∙ ended-skip rows t small (map (report_in s) us))

-- so that only the block is counted
pub other-category : (s : List ℕ) (len n : ℕ) → Octets s → read_of s ≡ Reading.Accepted len n → (get_or s 0 0 ≡ 23 → ⊥)
    → (l : List ℕ) (t : Totals) → Kept l → Small t
    → let all = ended (rows_of l) t (reports_of s) in (l ≡ cells_of all.rows) × (block_done t ≡ all.totals)
other-category s len n o h other l t k small =
    let b = block-visited s len n o h in
    all-posted l t k small (ended (rows_of l) t (reports_of s))
    (none-counted s other (rows_of l) t small b.0 3 len b.1 ∙ ap (ended (rows_of l) t) (sym b.3))

-- What was seen tells which record it is

was-other : (b : Bool) (r : Statistics) (q next : ℕ) → pick b (Seen.Report r q) (Seen.Other q) ≡ Seen.Other next → (b ≡ false) × (q ≡ next)
was-other true r q next e = absurd (let z : ◌≡◌ {A = ℕ} 0 1 = cc in omega arith)
was-other false r q next e = (refl, cc)

was-report : (b : Bool) (r : Statistics) (q : ℕ) (x : Statistics) (next : ℕ) → pick b (Seen.Report r q) (Seen.Other q) ≡ Seen.Report x next
    → (b ≡ true) × (x ≡ r) × (q ≡ next)
was-report true r q x next e = (refl, cc, cc)
was-report false r q x next e = absurd (let z : ◌≡◌ {A = ℕ} 0 1 = cc in omega arith)

-- The loop: the records that steps visit from the offset up to LEN are still to be posted

pub record Posting (s : List ℕ) (len : ℕ) (l₀ : List ℕ) (t₀ : Totals) (l : List ℕ) (t : Totals) (at : ℕ) : Type 0 where
  pub low : 3 ≤ at
  pub small : Small t
  pub left : List Record
  pub visits : Visited s at left len
  pub is : ended (rows_of l) t (map (report_in s) left) ≡ ended (rows_of l₀) t₀ (reports_of s)

-- the first of them, where there is one
record First (s : List ℕ) (len at : ℕ) (ts : List Record) : Type 0 where
  one : Record
  next : ℕ
  others : List Record
  are : ts ≡ one ∷ others
  taken : step_of s at ≡ Step.Taken one (record { at = next })
  visits : Visited s next others len

first : (s : List ℕ) (len at : ℕ) (ts : List Record) → Visited s at ts len → at < len → First s len at ts
first s len at [] v l = absurd (omega arith)
first s len at (t ∷ ts) (q, e, v) l = record { one = t; next = q; others = ts; are = refl; taken = e; visits = v }

module _ (s : List ℕ) (len n : ℕ) (o : Octets s) (h : read_of s ≡ Reading.Accepted len n) where
  -- all of them
  pub posting-none : (l : List ℕ) (t : Totals) → Small t → Posting s len l t l t 3
  posting-none l t small =
      let b = block-visited s len n o h in
      record { low = omega arith; small = small; left = b.0; visits = b.1; is = ap (ended (rows_of l) t) (sym b.3) }

  -- none, at LEN
  none_left : (ts : List Record) (at : ℕ) → Visited s at ts len → len ≤ at → ts ≡ []
  none_left [] at v l = refl
  none_left (t ∷ ts) at (q, e, v) l = absurd (omega (arith, (accepted-forward s len n o h at t (record { at = q }) e).0))

  module _ (l₀ : List ℕ) (t₀ : Totals) (l : List ℕ) (t : Totals) (at : ℕ) (w : Posting s len l₀ t₀ l t at) where
    pub posting-end : Kept l → len ≤ at → let all = ended (rows_of l₀) t₀ (reports_of s) in (l ≡ cells_of all.rows) × (block_done t ≡ all.totals)
    posting-end k e =
        all-posted l t k w.small (ended (rows_of l₀) t₀ (reports_of s))
        (ap (λ (us : List Record). ended (rows_of l) t (map (report_in s) us)) (sym (none_left w.left at w.visits e)) ∙ w.is)

    -- Below LEN a step takes the first of them, and of it something is seen
    module _ (more : at < len) (is-23 : get_or s 0 0 ≡ 23) (x : Seen) (sees : Sees s len at x) where
      abbrev f : First s len at w.left
      f = first s len at w.left w.visits more

      of_first : x ≡ seen_of f.one f.next
      of_first =
          (sees f.one (record { at = f.next })
          (ap (λ c. take_of s len c at) (sym is-23) ∙ accepted-step s len n o h at w.low more ∙ f.taken)
          ).0

      forward : at < f.next
      forward = (accepted-forward s len n o h at f.one (record { at = f.next }) f.taken).1

      is-left : ended (rows_of l) t (report_in s f.one ∷ map (report_in s) f.others) ≡ ended (rows_of l₀) t₀ (reports_of s)
      is-left = ap (λ (us : List Record). ended (rows_of l) t (map (report_in s) us)) (sym f.are) ∙ w.is

      -- another record than a statistics report
      module _ (next : ℕ) (e : x ≡ Seen.Other next) where
        first-other : (is_statistics f.one ≡ false) × (f.next ≡ next)
        first-other = was-other _ _ _ _ (sym of_first ∙ e)

        pub other-forward : at < next
        other-forward = subst (λ q. at < q) first-other.1 forward

        pub posting-other : Posting s len l₀ t₀ l t next
        posting-other =
            subst (λ q. Posting s len l₀ t₀ l t q) first-other.1 (record {
              low = omega (arith, w.low, forward);
              small = w.small;
              left = f.others;
              visits = f.visits;
              is = ended-skip (rows_of l) t w.small (map (report_in s) f.others)
                  ∙ ap (λ (y : Report). ended (rows_of l) t (y ∷ map (report_in s) f.others)) (report-other s f.one first-other.0) ∙ is-left;
            })

      -- a statistics report
      module _ (r : Statistics) (next : ℕ) (e : x ≡ Seen.Report r next) where
        first-report : (is_statistics f.one ≡ true) × (r ≡ statistics_of f.one) × (f.next ≡ next)
        first-report = was-report _ _ _ _ _ (sym of_first ∙ e)

        pub report-forward : at < next
        report-forward = subst (λ q. at < q) first-report.2 forward

        -- its entries lie in the octets
        pub report-lies : Reported s r
        report-lies = entries_lie s f.one first-report.0 r first-report.1 (lies s at f.one (record { at = f.next }) o (sym f.taken))

        -- the others, once it is
        pub posting-report : Kept l → (a : ℕ) (m : List ℕ) → answer a m ≡ posted_to l (counts (entries_at s r))
            → (to : Totals) → to ≡ answered_one t a → Posting s len l₀ t₀ m to next
        posting-report k a m posted to counted =
            let p = post_statistics l k s f.one first-report.0 r first-report.1 (answer a m) posted in
            rw counted (subst (λ q. Posting s len l₀ t₀ m (answered_one t a) q) first-report.2 (record {
              low = omega (arith, w.low, forward);
              small = answered-small t a;
              left = f.others;
              visits = f.visits;
              is = post_ended l (report_in s f.one) a m p t (map (report_in s) f.others) ∙ is-left;
            }))
