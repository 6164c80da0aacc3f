-- A page turned into the other form and back (02 §5). Assumes nothing.
use mathlib.Core.Path.{◌≡◌, refl, sym, ap, ◌∙◌}
use mathlib.Core.Bool.{Bool, true, false}
use mathlib.Core.List.{List, [], ◌∷◌, map}
use mathlib.Core.Logic.{◌↔◌}
use Prim.Native.Nat.{ℕ}
use lib.ListN.{length, length-map}
use Rattle.octets.specs.Choice.{pick}
use Rattle.octets.specs.Numbers.{Octets}
use Rattle.octets.specs.Outcomes.{no, puts}
use Rattle.octets.specs.Refusals.{rules_broken}
use Rattle.octets.proofs.Cases.{both}
use Rattle.octets.proofs.Outcomes.{puts-same, not_puts}
use Rattle.rows.specs.Rows.{Row}
use Rattle.rows.specs.Order.{upto}
use Rattle.ledger.specs.Ledgers.{keeps_rules}
use Rattle.ledger.specs.Steps.{Ruled}
use Rattle.pages.specs.Pages.{old, new, tables_of, page_length, page_of, row_from, row_at, count_in, rows_in, cells_in, head_keeps, page_keeps, turn_of, untimed, NoTimes}
use Rattle.pages.specs.declared.forms.Form.{Form}
use Rattle.pages.specs.declared.forms.Table.{Table}
use Rattle.pages.proofs.PageLaws.{shown, page-long}
use Rattle.pages.proofs.PageTheorems.{page-kept, page-same, page-ruled, new_apart, untimed-ruled, all_old, all_new}

-- octets that were turned are a page, and what they were turned into
turned : (from to : List Table) (s p : List ℕ) → turn_of from to s ≡ puts p → (page_keeps from s ≡ true) × (p ≡ page_of to (rows_in from s))
unfolding turn_of
turned from to s p = go (page_keeps from s) refl
  where
    go : (b : Bool) → page_keeps from s ≡ b → pick b (puts (page_of to (rows_in from s))) (no rules_broken) ≡ puts p
        → (page_keeps from s ≡ true) × (p ≡ page_of to (rows_in from s))
    go true t e = (t, sym (puts-same e))
    go false f e = absurd (not_puts e)

-- A page that was turned
module _ (from to : Form) (s : List ℕ) (o : Octets s) (p : List ℕ) (e : turn_of (tables_of from) (tables_of to) s ≡ puts p) where
  abbrev given : List Row
  given = rows_in (tables_of from) s

  into : (page_keeps (tables_of from) s ≡ true) × (p ≡ page_of (tables_of to) given)
  into = turned (tables_of from) (tables_of to) s p e

  ruled : Ruled given
  ruled = page-ruled from s o into.0

  same : page_of (tables_of from) given ≡ s
  same = page-same from s o (both (head_keeps (tables_of from) s) (keeps_rules (cells_in (tables_of from) s)) into.0).0

  abbrev kept : (page_keeps (tables_of to) (page_of (tables_of to) given) ≡ true)
      × (rows_in (tables_of to) (page_of (tables_of to) given) ≡ map (shown (tables_of to)) given)
  kept = page-kept to given ruled

  -- what it was turned into has of its rows what that form shows, and is turned back into the page of these
  turned_rows : rows_in (tables_of to) p ≡ map (shown (tables_of to)) given
  turned_rows = ap (rows_in (tables_of to)) into.1 ∙ kept.1

  back : turn_of (tables_of to) (tables_of from) p ≡ puts (page_of (tables_of from) (map (shown (tables_of to)) given))
  unfolding turn_of
  back = rw (into.1, kept.0, kept.1)

-- Turned into a new one, an old page keeps its rows; turned into an old one, a new one loses their times;
pub rows_new : (s : List ℕ) → Octets s → (p : List ℕ) → turn_of old new s ≡ puts p → rows_in new p ≡ rows_in old s
rows_new s o p e = turned_rows Form.Old Form.New s o p e ∙ all_new (rows_in old s)

pub rows-old : (s : List ℕ) → Octets s → (p : List ℕ) → turn_of new old s ≡ puts p → rows_in old p ≡ map untimed (rows_in new s)
rows-old s o p e = turned_rows Form.New Form.Old s o p e ∙ all_old (rows_in new s)

-- and of an old page no time is known.
listed-unknown : (s : List ℕ) (n : ℕ) (l : List ℕ) → NoTimes (map (row_at old s n) l)
unfolding row_from
listed-unknown s n [] = tt
listed-unknown s n (i ∷ l) = (refl, listed-unknown s n l)

pub old-unknown : (s : List ℕ) → NoTimes (rows_in old s)
old-unknown s = listed-unknown s (count_in s) (upto (count_in s))

-- Old to new to old gives the same octets.
pub old_new_old : (s : List ℕ) → Octets s → (p : List ℕ) → turn_of old new s ≡ puts p → turn_of new old p ≡ puts s
old_new_old s o p e =
    back Form.Old Form.New s o p e ∙ ap (λ rows. puts (page_of old rows)) (all_new (rows_in old s)) ∙ ap puts (same Form.Old Form.New s o p e)

-- rows that are as they were without their times have none that is known, and the reverse
none-known : (rows : List Row) → map untimed rows ≡ rows → NoTimes rows
none-known [] e = tt
none-known (r ∷ rows) e = (let h : untimed r ≡ r = cc in sym (ap (λ (x : Row). x.time) h), none-known rows cc)

none-untimed : (rows : List Row) → NoTimes rows → map untimed rows ≡ rows
none-untimed [] n = refl
none-untimed (r ∷ rows) n = λ i. record { key = r.key; life = r.life; reading = r.reading; time = sym n.0 i } ∷ none-untimed rows n.1 i

-- New to old to new gives the page of the rows without their times, which is as long;
module _ (s : List ℕ) (o : Octets s) (p : List ℕ) (e : turn_of new old s ≡ puts p) where
  abbrev rows : List Row
  rows = rows_in new s

  abbrev as_given : page_of new rows ≡ s
  as_given = same Form.New Form.Old s o p e

  abbrev keep : Ruled rows
  keep = ruled Form.New Form.Old s o p e

  pub untimed-back : turn_of old new p ≡ puts (page_of new (map untimed rows))
  untimed-back = back Form.New Form.Old s o p e ∙ ap (λ x. puts (page_of new x)) (all_old rows)

  pub turned-long : length (page_of new (map untimed rows)) ≡ length s
  turned-long =
      page-long new (map untimed rows) ∙ ap (page_length new) (length-map rows untimed) ∙ sym (page-long new rows) ∙ ap length as_given

  -- and these are the octets exactly where every time was unknown.
  pub new_old_new : (turn_of old new p ≡ puts s) ↔ NoTimes (rows_in new s)
  new_old_new = (
    λ h. none-known rows (new_apart (map untimed rows) rows (untimed-ruled rows keep) keep (puts-same (sym untimed-back ∙ h) ∙ sym as_given)),
    λ n. untimed-back ∙ ap (λ x. puts (page_of new x)) (none-untimed rows n) ∙ ap puts as_given,
  )
