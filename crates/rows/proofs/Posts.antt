-- What a post does to the rows: its cases, the row rule over a run, and that it keeps the ledger's rules. Assumes nothing.
use mathlib.Core.Bool.{false}
use mathlib.Core.List.{List, [], ◌∷◌, ◌++◌}
use mathlib.Core.Option.{Option, none, some}
use mathlib.Core.Path.{◌≡◌, refl, ap, ◌∙◌}
use Prim.Native.Nat.{ℕ, ◌≤◌, ◌<◌, ◌^◌}
use native.Mathlib.Omega.{arith}
use lib.Dec.{leb, ltb, eqb}
use lib.ListN.{length}
use borrow.Author.Tests.{ltb-false, leb-false, eqb-true}
use Rattle.octets.specs.Choice.{pick}
use Rattle.octets.specs.Refusals.{no_room, life_passes}
use Rattle.octets.proofs.Cases.{test, neither}
use Rattle.rows.specs.Rows.{Row, Entry, new_row, row_of, life_of, or_new}
use Rattle.rows.specs.Posting.{Report, refused, counts, entries, rows_for, Posted, posted, add_entry, add_all, passes, post_rows}
use Rattle.rows.specs.Posting.{answers, after, tally, of_key, accepted, Sorted, Each, Good}
use Rattle.rows.specs.Claims.{RowRule}
use Rattle.rows.proofs.Rows.{tail_row, head-row, before-none, add_cases, sorted_add, sorted_all, row-own, row-all, rows_step}

-- a counter's own entries, of one list after another
of_append : (k : ℕ) (es fs : List Entry) → of_key k (es ++ fs) ≡ of_key k es ++ of_key k fs
unfolding of_key
of_append k [] fs = refl
of_append k (e ∷ es) fs = test (eqb e.key k) (λ t. rw t (ap (λ l. e ∷ l) (of_append k es fs))) (λ f. rw f (of_append k es fs))

-- what holds of each row and of a new one holds of the row that an entry is added up to
pub each_or_new : (P : Row → Type 0) (rows : List Row) (k : ℕ) → Each P rows → P (new_row k) → P (or_new k (row_of rows k))
unfolding row_of
each_or_new P [] k h new = new
each_or_new P (r ∷ rows) k h new = test (eqb r.key k) (λ t. rw t h.0) (λ f. rw f (each_or_new P rows k h.1 new))

-- the entries that a report answered n adds up
abbrev took : ℕ → Report → List Entry
took n x = pick (eqb n 0) (entries x) []

module _ (rule : Row → Entry → Row) where
  -- a post leaves the rows, and answers 0 for no entries only; or it adds up all entries and answers 0, where there is room and no life
  -- count passes
  pub posted_cases : (P : Posted → Type 0) (rows : List Row) (x : Report) → ((n : ℕ) → (n ≡ 0 → entries x ≡ []) → P (posted n rows))
      → (rows_for rows (entries x) ≤ 256 → passes rule rows (entries x) ≡ false → P (posted 0 (add_all rule rows (entries x))))
      → P (post_rows rule rows x)
  unfolding post_rows
  posted_cases P rows (refused n) stays goes = stays n (λ _. refl)
  posted_cases P rows (counts es) stays goes =
      test (ltb 256 (rows_for rows es)) (λ t. rw t (stays no_room (λ q. absurd (omega arith))))
      (λ f. test (passes rule rows es) (λ t. rw (f, t) (stays life_passes (λ q. absurd (omega arith))))
      (λ g. rw (f, g) (goes (ltb-false 256 (rows_for rows es) f) g)))

  -- its rows alone
  pub post_cases : (P : List Row → Type 0) (rows : List Row) (x : Report) → P rows
      → (rows_for rows (entries x) ≤ 256 → passes rule rows (entries x) ≡ false → P (add_all rule rows (entries x)))
      → P (post_rows rule rows x).rows
  post_cases P rows x stays goes = posted_cases (λ p. P p.rows) rows x (λ _ _. stays) goes

  -- the rule over entries, one list after another
  tally-append : (k : ℕ) (row : Option Row) (es fs : List Entry) → tally rule k row (es ++ fs) ≡ tally rule k (tally rule k row es) fs
  unfolding tally
  tally-append k row [] fs = refl
  tally-append k row (e ∷ es) fs = tally-append k (some (rule (or_new k row) e)) es fs

  -- where no entry lowers a life count, the rule over entries lowers none
  pub tally_grows : ((r : Row) (e : Entry) → r.life ≤ (rule r e).life)
      → (k : ℕ) (row : Option Row) (es : List Entry) → life_of row ≤ life_of (tally rule k row es)
  unfolding tally
  tally_grows grows k row [] = omega arith
  tally_grows grows k none (e ∷ es) = omega arith
  tally_grows grows k (some r) (e ∷ es) = omega (arith, grows r e, tally_grows grows k (some (rule r e)) es)

module _ (rule : Row → Entry → Row) (keeps-key : (r : Row) (e : Entry) → (rule r e).key ≡ r.key) where
  -- a post keeps rows sorted
  pub sorted_post : (rows : List Row) (x : Report) → Sorted rows → Sorted (post_rows rule rows x).rows
  sorted_post rows x s = post_cases rule Sorted rows x s (λ _ _. sorted_all rule keeps-key rows (entries x) s)

  -- so does a run
  pub sorted_after : (rows : List Row) (rs : List Report) → Sorted rows → Sorted (after rule rows rs)
  unfolding after
  sorted_after rows [] s = s
  sorted_after rows (x ∷ rs) s = sorted_after (post_rows rule rows x).rows rs (sorted_post rows x s)

  -- The row rule

  -- for one report
  row_post : (rows : List Row) (x : Report) → Sorted rows → (k : ℕ)
      → row_of (post_rows rule rows x).rows k ≡ tally rule k (row_of rows k) (of_key k (took (post_rows rule rows x).refusal x))
  unfolding tally of_key
  row_post rows x s k =
      posted_cases rule (λ p. row_of p.rows k ≡ tally rule k (row_of rows k) (of_key k (took p.refusal x))) rows x
      (λ n bare. test (eqb n 0) (λ t. rw (t, bare (eqb-true n 0 t))) (λ f. rw f))
      (λ _ _. row-all rule keeps-key rows (entries x) s k)

  -- and for a run
  pub row-run : RowRule rule
  unfolding answers after accepted
  row-run rows [] s k = unfold tally of_key in refl
  row-run rows (x ∷ rs) s k =
      let p = post_rows rule rows x in
      let rest = accepted (answers rule p.rows rs) rs in
      row-run p.rows rs (sorted_post rows x s) k
      ∙ rw (of_append k (took p.refusal x) rest, tally-append rule k (row_of rows k) (of_key k (took p.refusal x)), row_post rows x s k)

  -- The ledger's rules

  -- what holds of each row and of the row that the entry makes holds of each row after it
  pub each_add : (P : Row → Type 0) (rows : List Row) (e : Entry) → Sorted rows → Each P rows
      → P (rule (or_new e.key (row_of rows e.key)) e) → Each P (add_entry rule rows e)
  each_add P [] e s h p = unfold add_entry row_of in (p, tt)
  each_add P (r ∷ rows) e s h p =
      add_cases rule (Each P) e r rows
      (λ l. (h.0, each_add P rows e s.1 h.1 (rw (tail_row r rows e.key (λ q. omega arith)) at p)))
      (λ q. (rw (head-row r rows e.key q) at p, h.1))
      (λ g. (rw (before-none e.key r rows g s) at p, h))

  module _ (under : (r : Row) (e : Entry) → r.reading ≤ r.life → (rule r e).reading ≤ (rule r e).life) where
    -- an entry keeps them, where the rows are few enough and its life count does not pass
    pub good_add : (rows : List Row) (e : Entry) → Good rows → length (add_entry rule rows e) ≤ 256
        → leb (2 ^ 64) (life_of (row_of (add_entry rule rows e) e.key)) ≡ false → Good (add_entry rule rows e)
    good_add rows e g fits low = record {
      rises = sorted_add rule keeps-key e rows g.rises;
      few = fits;
      read = each_add (λ r. r.reading ≤ r.life) rows e g.rises g.read
          (under was e (each_or_new _ rows e.key g.read (omega arith)));
      lived = each_add (λ r. r.life < 2 ^ 64) rows e g.rises g.lived (leb-false (2 ^ 64) (rule was e).life (rw own at low));
    }
      where
        was : Row
        was = or_new e.key (row_of rows e.key)

        own : row_of (add_entry rule rows e) e.key ≡ some (rule was e)
        own = row-own rule keeps-key e rows g.rises

    -- entries in turn keep them
    pub good-all : (rows : List Row) (es : List Entry) → Good rows → rows_for rows es ≤ 256 → passes rule rows es ≡ false
        → Good (add_all rule rows es)
    unfolding add_all passes
    good-all rows [] g fits low = g
    good-all rows (e ∷ es) g fits low =
        let step = rows_step rule keeps-key e rows es g.rises in
        let w = neither (leb (2 ^ 64) (life_of (row_of (add_entry rule rows e) e.key))) (passes rule (add_entry rule rows e) es) low in
        good-all (add_entry rule rows e) es (good_add rows e g (omega arith) w.0) (omega arith) w.1
