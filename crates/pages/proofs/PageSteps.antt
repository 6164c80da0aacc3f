-- A page read: what the definitions say of the case that a branch of the code is in. Assumes nothing.
use mathlib.Core.Path.{◌≡◌, refl, sym, ap, ◌∙◌}
use mathlib.Core.Bool.{◌&&◌}
use mathlib.Core.List.{List, [], map}
use Prim.Native.Nat.{ℕ, ◌+◌, ◌*◌, ◌-◌, ◌≤◌, ◌<◌}
use native.Mathlib.Omega.{arith}
use lib.Dec.{leb, ltb, eqb}
use lib.ListN.{length, set, length-set, get_or-eq_default}
use lib.Seq.{get_or-set_same}
use borrow.Author.Tests.{ltb-true, ltb-false}
use Rattle.octets.specs.Numbers.{number}
use Rattle.octets.proofs.Cases.{test}
use Rattle.rows.specs.Rows.{no_time, new_row}
use Rattle.rows.specs.Order.{upto}
use Rattle.rows.proofs.Numbers.{at-upto}
use Rattle.ledger.specs.Ledgers.{ledger_cells, row_in, count_of, cells_of}
use Rattle.pages.specs.Pages.{tables_of, head_long, row_long, page_length, starts, row_from, row_at, cells_in, stand, head_keeps}
use Rattle.pages.specs.declared.forms.Form.{Form}
use Rattle.pages.specs.declared.forms.Form.TheVariants as form
use Rattle.pages.specs.declared.page.Page.{Page}
use Rattle.ledger.proofs.CellLaws.{cells_long, row_get, cells_are}
use Rattle.ledger.proofs.ChangeLaws.{set-count}
use Rattle.ledger.proofs.TableLaws.{listed-many}
use Rattle.pages.proofs.PageLaws.{head-says}

-- the tests on a head; an old page has one number less, and its last is tested twice
pub head-tests : (f : Form) (s : List ℕ) (n long size : ℕ) → long ≡ head_long (tables_of f) → size ≡ page_length (tables_of f) n → n ≡ number 2 s 0
    → head_keeps (tables_of f) s
    ≡ (leb n 256 && eqb (number 2 s 2) long && eqb (number 2 s 4) (long + 4 * n) && eqb (number 2 s 6) (long + 16 * n) && eqb (number 2 s (long - 2)) size
    && eqb (length s) size)
unfolding starts stand row_long
head-tests form.Old s n long size el es en = let z : 8 + 0 * number 2 s 0 ≡ 8 = omega arith in rw (el, es, en, z) (grind arith)
head-tests form.New s n long size el es en = let z : 10 + 0 * number 2 s 0 ≡ 10 = omega arith in rw (el, es, en, z) (grind arith)

-- the same with the numbers as they were read
pub head_tests : (f : Form) (s : List ℕ) (n long size a b c d : ℕ) → long ≡ head_long (tables_of f) → size ≡ page_length (tables_of f) n
    → n ≡ number 2 s 0 → a ≡ number 2 s 2 → b ≡ number 2 s 4 → c ≡ number 2 s 6 → d ≡ number 2 s (long - 2)
    → (leb n 256 && eqb a long && eqb b (long + 4 * n) && eqb c (long + 16 * n) && eqb d size && eqb (length s) size) ≡ head_keeps (tables_of f) s
head_tests f s n long size a b c d el es en ea eb ec ed = rw (ea, eb, ec, ed) (sym (head-tests f s n long size el es en))

-- A row

module _ (f : Form) (s : List ℕ) (n i : ℕ) where
  pub time-old : f ≡ Form.Old → no_time ≡ (row_at (tables_of f) s n i).time
  unfolding row_from
  time-old e = rw e

  pub time-new : f ≡ Form.New → (t : ℕ) → t ≡ number 4 s (10 + 16 * n + 4 * i) → t ≡ (row_at (tables_of f) s n i).time
  unfolding row_from
  time-new e t is = rw e is

-- both forms have keys first, and readings behind them
pub firsts : (f : Form) (s : List ℕ) (n i : ℕ) → let long = head_long (tables_of f) in let r = row_at (tables_of f) s n i in
    (r.key ≡ number 4 s (long + 4 * i)) × (r.life ≡ number 8 s (long + 4 * n + 12 * i)) × (r.reading ≡ number 4 s (long + 4 * n + 12 * i + 8))
unfolding row_from
firsts form.Old s n i = (ap (number 4 s) (omega arith), refl, refl)
firsts form.New s n i = (ap (number 4 s) (omega arith), refl, refl)

-- What a page's head says
page-few : (page : Page) → page.n ≤ 256
page-few page = rw page.counted (head-says (tables_of page.form) page.octets.now page.headed).few

-- Loading: the cells so far have the first rows of the page, and are empty behind them
pub record Loaded (page : Page) (cells : List ℕ) (i : ℕ) : Type 0 where
  pub room : length cells ≡ ledger_cells
  pub count : count_of cells ≡ page.n
  pub done : (j : ℕ) → j < i → row_in cells j ≡ row_at (tables_of page.form) page.octets.now page.n j
  pub empty : (j : ℕ) → i ≤ j → j < 256 → row_in cells j ≡ new_row 0

module _ (page : Page) where
  -- of a fresh ledger's cells the row count was set
  pub loaded-none : (l : List ℕ) → l ≡ cells_of [] → Loaded page (set l 0 page.n) 0
  loaded-none l none =
      let long : length l ≡ ledger_cells = ap length none ∙ cells_long [] (omega arith) in
      record {
        room = length-set l 0 page.n ∙ long;
        count = get_or-set_same l 0 page.n 0 (omega arith);
        done = λ j h. absurd (omega arith);
        empty = λ j h m. set-count l page.n j ∙ ap (λ c. row_in c j) none ∙ row_get [] j (omega arith);
      }

  pub loaded-all : (cells : List ℕ) (i : ℕ) → Loaded page cells i → i ≡ page.n → cells ≡ cells_in (tables_of page.form) page.octets.now
  loaded-all cells i w all =
      let n = page.n in
      let at = row_at (tables_of page.form) page.octets.now in
      let rows = map (at n) (upto n) in
      let many : length rows ≡ n = listed-many (at n) n in
      let few = page-few page in
      cells_are rows cells w.room (omega arith) (w.count ∙ sym many)
      (λ j m. test (ltb j n)
      (λ t. let h = ltb-true j n t in w.done j (omega arith) ∙ sym (at-upto (at n) (new_row 0) j n h))
      (λ f. let h = ltb-false j n f in w.empty j (omega arith) m ∙ sym (get_or-eq_default rows (new_row 0) (omega arith))))
      ∙ ap (λ m. cells_of (map (at m) (upto m))) page.counted
