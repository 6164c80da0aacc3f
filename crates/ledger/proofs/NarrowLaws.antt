-- Keys and readings of 32 bits stay so, and times that keep their rule, where the entries have such keys, counts and times. Assumes nothing.
use mathlib.Core.List.{List, [], ◌∷◌}
use mathlib.Core.Bool.{false, ◌||◌}
use mathlib.Core.Path.{◌≡◌, refl, ap}
use Prim.Native.Nat.{ℕ, zero, suc, ◌+◌, ◌≤◌, ◌<◌, ◌^◌}
use native.Mathlib.Omega.{arith}
use lib.Dec.{leb, eqb}
use lib.ListN.{length}
use borrow.Author.Tests.{le-leb}
use Rattle.octets.proofs.Cases.{test}
use Rattle.octets.specs.Numbers.{Octets}
use Rattle.blocks.specs.Statistics.{latest_time, is_statistics, statistics_of, report_entry}
use Rattle.blocks.specs.Walks.{read_of}
use Rattle.blocks.specs.declared.record.Record.{Record}
use Rattle.blocks.specs.declared.statistics.Statistics.{Statistics}
use Rattle.blocks.specs.Step.{Step}
use Rattle.blocks.specs.Step as step
use Rattle.blocks.specs.Reading.{Reading}
use Rattle.blocks.specs.Reading as reading
use Rattle.blocks.proofs.SmallLaws.{type-small, count_small}
use Rattle.rows.specs.Rows.{Row, Entry, no_time, since_last, add_up, row_of, life_of, or_new}
use Rattle.rows.specs.Posting.{Report, entries, add_entry, add_all, post_rows, Sorted, Each}
use Rattle.rows.proofs.Rows.{sorted_add}
use Rattle.rows.proofs.Posts.{good_add, each_or_new, each_add, post_cases}
use Rattle.rows.proofs.Theorems.{adding_key, adding_under, stays-good}
use Rattle.ledger.specs.Reports.{first_key, entry_of, entries_from, report_in, step_at, report_at, report_by, report_of}
use Rattle.ledger.specs.Ledgers.{rows_of, cells_of}
use Rattle.ledger.specs.Steps.{Narrow, Ruled, Kept, Few, Lies}
use Rattle.ledger.proofs.CellLaws.{kept_of}
use Rattle.ledger.proofs.ReportLaws.{lies, some-step}

-- Entries

abbrev pub Fit : List Entry → Type 0
Fit [] = Unit {0}
Fit (e ∷ es) = Few e × Fit es

-- those of a report do
pub entry-few : (s : List ℕ) (r : Statistics) (i : ℕ) → first_key r + 255 < 2 ^ 32 → r.time ≤ latest_time → Few (entry_of r (report_entry s r.at i))
entry-few s r i h d = (omega (arith, type-small s r.at i), count_small s r.at i, d)

entries_fit : (s : List ℕ) (r : Statistics) (n k : ℕ) → first_key r + 255 < 2 ^ 32 → r.time ≤ latest_time → Fit (entries_from s r n k)
unfolding entries_from
entries_fit s r zero k h d = tt
entries_fit s r (suc n) k h d = (entry-few s r k h d, entries_fit s r n (suc k) h d)

-- of a record that a step hands out, and of octets and a record number
pub record_fits : (s : List ℕ) (t : Record) → Lies s t → Fit (entries (report_in s t))
unfolding report_in
record_fits s t w =
    let r = statistics_of t in
    test (is_statistics t) (λ y. rw y (entries_fit s r r.count 0 (omega (arith, w.sac, w.sic, w.sid, w.styp)) w.day))
    (λ f. rw f tt)

pub octets-fit : (s : List ℕ) (k : ℕ) → Octets s → Fit (entries (report_of s k))
unfolding report_of
octets-fit s k o = by-reading (read_of s)
  where
    by-step : (x : Step) → x ≡ step_at s k 3 → Fit (entries (report_at s x))
    by-step (step.Refused n at) e = tt
    by-step (step.Taken t c) e = let w = some-step s k 3 t c e in record_fits s t (lies s w.0 t c o w.1)

    by-reading : (x : Reading) → Fit (entries (report_by s k x))
    by-reading (reading.Refused n at) = tt
    by-reading (reading.Accepted len count) = by-step (step_at s k 3) refl

-- Rows

up-narrow : (r : Row) (e : Entry) → Narrow r → Few e → Narrow (add_up r e)
unfolding add_up
up-narrow r e n f =
    test (since_last e) (λ t. rw t n) (λ t. rw t (n.0, f.1, ap (λ b. b || eqb e.time no_time) (le-leb e.time latest_time f.2)))

pub add_narrow : (rows : List Row) (e : Entry) → Sorted rows → Each Narrow rows → Few e → Each Narrow (add_entry add_up rows e)
add_narrow rows e s n f =
    each_add add_up adding_key Narrow rows e s n
    (up-narrow (or_new e.key (row_of rows e.key)) e (each_or_new Narrow rows e.key n (f.0, omega arith, refl)) f)

-- a ledger that keeps the rules keeps them with an entry added up, where there is room and its life count does not pass
module _ (cells : List ℕ) (k : Kept cells) (e : Entry) (few : Few e) where
  abbrev after : List Row
  after = add_entry add_up (rows_of cells) e

  pub added_kept : length after ≤ 256 → leb (2 ^ 64) (life_of (row_of after e.key)) ≡ false → Kept (cells_of after)
  added_kept room low =
      let rows = rows_of cells in
      kept_of after (good_add add_up adding_key adding_under rows e k.good room low, add_narrow rows e k.good.rises k.narrow few)

all-narrow : (rows : List Row) (es : List Entry) → Sorted rows → Each Narrow rows → Fit es → Each Narrow (add_all add_up rows es)
unfolding add_all
all-narrow rows [] s n f = n
all-narrow rows (e ∷ es) s n f =
    all-narrow (add_entry add_up rows e) es (sorted_add add_up adding_key e rows s) (add_narrow rows e s n f.0) f.1

-- a report that fits keeps the rules
pub post_ruled : (rows : List Row) (x : Report) → Ruled rows → Fit (entries x) → Ruled (post_rows add_up rows x).rows
post_ruled rows x w f = (
  stays-good add_up adding_key adding_under rows x w.0,
  post_cases add_up (Each Narrow) rows x w.1 (λ _ _. all-narrow rows (entries x) w.0.rises w.1 f),
)
