-- A page stored and loaded: the theorems on pages of either form (01 "Ledger", 02 §5). Assumes nothing.
use mathlib.Core.Path.{◌≡◌, refl, sym, ap, ◌∙◌, subst}
use mathlib.Core.Bool.{true}
use mathlib.Core.List.{List, [], ◌∷◌, map, map-id}
use Prim.Native.Nat.{ℕ, zero, suc, ◌≤◌, ◌<◌, ◌^◌}
use native.Mathlib.Omega.{arith}
use borrow.Author.Tests.{leb-true, eqb-true}
use lib.Dec.{leb, eqb}
use lib.ListN.{length, get_or, length-map}
use Rattle.octets.specs.Numbers.{Octets}
use Rattle.octets.specs.Outcomes.{puts}
use Rattle.octets.specs.Refusals.{rules_broken}
use Rattle.octets.proofs.Cases.{test, both}
use Rattle.rows.specs.Rows.{Row, no_time}
use Rattle.rows.specs.Posting.{Above, Sorted, Each}
use Rattle.rows.proofs.Cases.{either}
use Rattle.blocks.specs.Statistics.{latest_time}
use Rattle.ledger.specs.Ledgers.{wide, row_cells, answer, rows_of, cells_of, time_keeps, keeps_rules, Held}
use Rattle.ledger.specs.Steps.{Narrow, Ruled, Kept}
use Rattle.ledger.specs.Answer.{Answer}
use Rattle.ledger.proofs.CellLaws.{cells_long, cells_small, rows_back, kept_of, ruled-none}
use Rattle.ledger.proofs.RowPlaces.{each_from, each_at, each_everywhere}
use Rattle.ledger.proofs.RuleLaws.{kept-rules, rules-kept}
use Rattle.ledger.proofs.TableLaws.{listed-many}
use Rattle.pages.specs.Pages.{old, new, tables_of, page_of, row_at, count_in, rows_in, cells_in, head_keeps, page_keeps, load_of, store_of, untimed}
use Rattle.pages.specs.declared.forms.Form.{Form}
use Rattle.pages.specs.declared.forms.Form.TheVariants as form
use Rattle.pages.specs.declared.forms.Table.{Table}
use Rattle.pages.proofs.PageLaws.{Small, small_in, with_parts, shown, page-back, head-says, page-rows}
use Rattle.pages.proofs.FormLaws.{form-fits, lies}
use Rattle.pages.proofs.PutSteps.{store_puts}

-- What the rules and the widths hold of rows

pub time-small : (time : ℕ) → time_keeps time ≡ true → time < 2 ^ 32
time-small time h =
    either (leb time latest_time) (eqb time no_time) h (λ t. omega (arith, leb-true time latest_time t)) (λ t. omega (arith, eqb-true time no_time t))

pub ruled-small : (rows : List Row) → Ruled rows → Each Small rows
ruled-small rows w =
    each_from Small rows (λ i m.
    let n = each_at Narrow rows w.1 i m in
    (n.0, each_at (λ r. r.life < 2 ^ 64) rows w.0.lived i m, n.1, time-small _ n.2))

cell-small : (r : Row) → Small r → (j : ℕ) → j < wide → get_or (row_cells r) j 0 < 2 ^ 64
cell-small r s zero h = omega arith
cell-small r s (suc zero) h = s.1
cell-small r s (suc (suc zero)) h = omega arith
cell-small r s (suc (suc (suc zero))) h = omega arith
cell-small r s (suc (suc (suc (suc j)))) h = absurd (omega arith)

small-held : (rows : List Row) → length rows ≤ 256 → Each Small rows → Held (cells_of rows)
small-held rows few small = record {
  long = cells_long rows few;
  small = cells_small rows few (2 ^ 64) (omega arith)
      (λ i. cell-small _ (each_everywhere Small (omega arith, omega arith, omega arith, omega arith) rows small i));
}

-- Rows without their times keep the rules that they kept

untimed-above : (k : ℕ) (rows : List Row) → Above k rows → Above k (map untimed rows)
untimed-above k [] a = tt
untimed-above k (r ∷ rows) a = (a.0, untimed-above k rows a.1)

untimed_sorted : (rows : List Row) → Sorted rows → Sorted (map untimed rows)
untimed_sorted [] s = tt
untimed_sorted (r ∷ rows) s = (untimed-above r.key rows s.0, untimed_sorted rows s.1)

untimed-each : (P : Row → Type 0) → ((r : Row) → P r → P (untimed r)) → (rows : List Row) → Each P rows → Each P (map untimed rows)
untimed-each P f [] e = tt
untimed-each P f (r ∷ rows) e = (f r e.0, untimed-each P f rows e.1)

pub untimed-ruled : (rows : List Row) → Ruled rows → Ruled (map untimed rows)
untimed-ruled rows w = (
  record {
    rises = untimed_sorted rows w.0.rises;
    few = omega (arith, length-map rows untimed, w.0.few);
    read = untimed-each (λ r. r.reading ≤ r.life) (λ r h. h) rows w.0.read;
    lived = untimed-each (λ r. r.life < 2 ^ 64) (λ r h. h) rows w.0.lived;
  },
  untimed-each Narrow (λ r n. (n.0, n.1, refl)) rows w.1,
)

-- an old page shows rows without their times, a new one all of them
pub all_old : (rows : List Row) → map (shown old) rows ≡ map untimed rows
unfolding with_parts
all_old rows = refl

pub all_new : (rows : List Row) → map (shown new) rows ≡ rows
unfolding with_parts
all_new rows = map-id rows

shown-ruled : (f : Form) (rows : List Row) → Ruled rows → Ruled (map (shown (tables_of f)) rows)
shown-ruled form.Old rows w = subst Ruled (sym (all_old rows)) (untimed-ruled rows w)
shown-ruled form.New rows w = subst Ruled (sym (all_new rows)) w

-- Storing and loading

module _ (f : Form) where
  abbrev ts : List Table
  ts = tables_of f

  -- The page of rows that keep the rules is a page, and has of the rows what its tables show.
  pub page-kept : (rows : List Row) → Ruled rows → (page_keeps ts (page_of ts rows) ≡ true) × (rows_in ts (page_of ts rows) ≡ map (shown ts) rows)
  page-kept rows w =
      let b = page-back ts rows (ruled-small rows w) w.0.few (form-fits f (length rows) w.0.few) in
      let rules = rules-kept _ (kept_of (map (shown ts) rows) (shown-ruled f rows w)) in
      (rw b.0 (ap (λ x. keeps_rules (cells_of x)) b.1 ∙ rules), b.1)

  -- The rows of a page are stored as its octets.
  pub page-same : (s : List ℕ) → Octets s → head_keeps ts s ≡ true → page_of ts (rows_in ts s) ≡ s
  page-same s o h = let w = head-says ts s h in page-rows ts s o w (lies f s (count_in s) o w.long)

  -- loading, by its tests
  load_cases : (P : Answer → Type 0) (s : List ℕ) → (head_keeps ts s ≡ true → keeps_rules (cells_in ts s) ≡ true → P (answer 0 (cells_in ts s)))
      → P (answer rules_broken (cells_of [])) → P (load_of ts s)
  unfolding load_of
  load_cases P s good bad =
      test (page_keeps ts s)
      (λ t. let w = both (head_keeps ts s) (keeps_rules (cells_in ts s)) t in rw t (good w.0 w.1))
      (λ e. rw e bad)

  -- Storing what was loaded gives the octets.
  pub load_store : (s : List ℕ) → Octets s → (cells : List ℕ) → load_of ts s ≡ answer 0 cells → store_of ts cells ≡ puts s
  load_store s o cells =
      load_cases (λ a. a ≡ answer 0 cells → store_of ts cells ≡ puts s) s
      (λ h k e. subst (λ m. store_of ts m ≡ puts s) (ap (λ a. a.ledger.cells) e)
      (store_puts ts (cells_in ts s) k ∙ ap puts (ap (page_of ts) (rows_back (rows_in ts s)) ∙ page-same s o h)))
      (λ e. let z : rules_broken ≡ 0 = ap (λ a. a.refusal) e in absurd (omega arith))

  -- a page with its head has the cells of a ledger
  pub page-held : (s : List ℕ) → Octets s → head_keeps ts s ≡ true → Held (cells_in ts s)
  page-held s o h =
      small-held (rows_in ts s) (rw (listed-many (row_at ts s (count_in s)) (count_in s)) (head-says ts s h).few) (small_in ts s o)

  -- What is loaded has the cells of a ledger, and a fresh ledger has them too.
  pub loaded-held : (s : List ℕ) → Octets s → Held (load_of ts s).ledger.cells
  loaded-held s o =
      load_cases (λ a. Held a.ledger.cells) s
      (λ h k. page-held s o h)
      (small-held [] (omega arith) tt)

  -- What is loaded keeps the rules, and so does a fresh ledger.
  pub loaded-good : (s : List ℕ) → Octets s → Kept (load_of ts s).ledger.cells
  loaded-good s o =
      load_cases (λ a. Held a.ledger.cells → Kept a.ledger.cells) s
      (λ h k held. kept-rules (cells_in ts s) held k)
      (λ held. kept_of [] ruled-none)
      (loaded-held s o)

  -- The rows of a page keep the rules.
  pub page-ruled : (s : List ℕ) → Octets s → page_keeps ts s ≡ true → Ruled (rows_in ts s)
  page-ruled s o t =
      let w = both (head_keeps ts s) (keeps_rules (cells_in ts s)) t in
      let k = kept-rules (cells_in ts s) (page-held s o w.0) w.1 in
      subst Ruled (rows_back (rows_in ts s)) (k.good, k.narrow)

-- Two new pages of rows that keep the rules have the same octets only where the rows are the same.
pub new_apart : (a b : List Row) → Ruled a → Ruled b → page_of new a ≡ page_of new b → a ≡ b
new_apart a b wa wb e =
    sym (all_new a) ∙ sym (page-kept Form.New a wa).1 ∙ ap (rows_in new) e ∙ (page-kept Form.New b wb).1 ∙ all_new b

-- Loading what was stored gives the ledger back, with its times.
pub kept_load : (cells : List ℕ) → Kept cells → load_of new (page_of new (rows_of cells)) ≡ answer 0 cells
unfolding load_of
kept_load cells kept =
    let rows = rows_of cells in
    let w = page-kept Form.New rows (kept.good, kept.narrow) in
    rw (w.0, w.1, all_new rows) (ap (answer 0) (sym kept.rest))

pub store_load : (cells : List ℕ) → Held cells → keeps_rules cells ≡ true → load_of new (page_of new (rows_of cells)) ≡ answer 0 cells
store_load cells h k = kept_load cells (kept-rules cells h k)
