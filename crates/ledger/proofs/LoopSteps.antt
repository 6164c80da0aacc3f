-- The steps of the loops over a report's entries. Assumes nothing.
use mathlib.Core.Bool.{Bool, true, false, ◌||◌}
use mathlib.Core.List.{List, [], ◌∷◌}
use mathlib.Core.Path.{◌≡◌, refl, ap, sym, ◌∙◌}
use Prim.Native.Nat.{ℕ, ◌+◌, ◌≤◌, ◌<◌, ◌^◌}
use native.Mathlib.Omega.{arith}
use lib.Dec.{leb}
use lib.ListN.{length, get_or, set, replicate, length-set}
use borrow.Author.Tests.{le-leb}
use Rattle.octets.specs.Choice.{pick}
use Rattle.octets.specs.Refusals.{number_of, life_passes}
use Rattle.octets.specs.declared.refusal.Refusal.{Refusal}
use Rattle.octets.proofs.Cases.{neither}
use Rattle.octets.proofs.Refusals.{number-some}
use Rattle.blocks.specs.Statistics.{report_entry}
use Rattle.blocks.specs.Statistics.{Entry as Counter}
use Rattle.blocks.specs.declared.statistics.Statistics.{Statistics}
use Rattle.rows.specs.Rows.{Row, Entry, add_up, row_of, has, life_of}
use Rattle.rows.specs.Posting.{new_keys, rows_for, add_entry, add_all, passes}
use Rattle.rows.proofs.Rows.{rows_step, few-new}
use Rattle.rows.proofs.Theorems.{adding_key}
use Rattle.ledger.specs.Ledgers.{count_of, rows_of, cells_of}
use Rattle.ledger.specs.Reports.{first_key, entry_of, entries_at}
use Rattle.ledger.specs.Steps.{Kept}
use Rattle.ledger.proofs.CellLaws.{rows-many, rows_back}
use Rattle.ledger.proofs.EntryLaws.{entries-long, Nth, left, left-all, left-next, left-none}
use Rattle.ledger.proofs.NotedLaws.{seen_none, seen_again, Counted, counted-more}

-- `has_room`

-- at entry i: the rows so far are counted
pub record CountLoop (cells s : List ℕ) (r : Statistics) (seen : List Bool) (many i : ℕ) : Type 0 where
  pub long : length seen ≡ 256
  pub few : many ≤ count_of cells + i
  pub counts : Counted (rows_of cells) (first_key r) (entries_at s r) (left s r i) seen many

-- a key has one new row at most
new-few : (b : Bool) → pick b 0 1 ≤ 1
new-few true = omega arith
new-few false = omega arith

module _ (cells s : List ℕ) (r : Statistics) where
  -- with few entries there is room, whatever their keys
  pub count-few : count_of cells + r.count ≤ 256 → true ≡ leb (rows_for (rows_of cells) (entries_at s r)) 256
  count-few h =
      let es = entries_at s r in
      sym (le-leb (rows_for (rows_of cells) es) 256 (omega (arith, few-new (rows_of cells) es, entries-long s r r.count 0, rows-many cells)))

  -- at first the rows are the ledger's
  pub count_none : Kept cells → CountLoop cells s r (replicate 256 false) (count_of cells) 0
  count_none k = record {
    long = refl;
    few = omega arith;
    counts = record {
      now = rows_of cells;
      rises = k.good.rises;
      same = ap (rows_for (rows_of cells)) (left-all s r);
      counted = rows-many cells;
      noted = seen_none _ (rows_of cells) (first_key r) 256;
    };
  }

  module _ (seen : List Bool) (many i : ℕ) (c : CountLoop cells s r seen many i) where
    -- at the end all rows are counted
    pub count-end : r.count ≤ i → leb many 256 ≡ leb (rows_for (rows_of cells) (entries_at s r)) 256
    unfolding new_keys
    count-end h =
        let d = c.counts in
        let none-new : many ≡ rows_for d.now [] = omega (arith, d.counted) in
        ap (λ m. leb m 256) (none-new ∙ ap (rows_for d.now) (sym (left-none s r i h)) ∙ d.same)

    -- a key is one row more at most
    pub count_fits : (k m : ℕ) → m ≡ pick (has (row_of (rows_of cells) k)) 0 1 → many + m ≤ count_of cells + i + 1
    count_fits k m e = omega (arith, c.few, new-few (has (row_of (rows_of cells) k)))

    module _ (x : Counter) (q : x ≡ report_entry s r.at i) (less : i < r.count) (small : x.typ < 256) where
      -- an entry more: one row more where its key had none
      count-more : {m : ℕ} {after : List Bool} → m ≤ count_of cells + i + 1 → after ≡ set seen x.typ true
          → m ≡ many + pick (has (row_of c.counts.now (first_key r + x.typ))) 0 1 → CountLoop cells s r after m (i + 1)
      count-more {m} h a e = record {
        long = ap length a ∙ length-set seen x.typ true ∙ c.long;
        few = omega arith;
        counts = counted-more m x.typ (entry_of r x) refl (omega (arith, c.long)) a (left-next s r (entry_of r x) i (ap (entry_of r) q) less)
            c.counts e;
      }

      -- its TYPE has been seen
      pub count_seen : get_or seen x.typ false ≡ true → CountLoop cells s r seen many (i + 1)
      count_seen h =
          count-more (omega (arith, c.few)) (seen_again seen x.typ h) (rw (c.counts.noted.own x.typ h) (omega arith))

      -- or not: the ledger knows whether its key has a row
      pub count-new : get_or seen x.typ false ≡ false → (m : ℕ) → m ≡ pick (has (row_of (rows_of cells) (first_key r + x.typ))) 0 1
          → CountLoop cells s r (set seen x.typ true) (many + m) (i + 1)
      count-new f m e =
          count-more (count_fits (first_key r + x.typ) m e) refl
          (ap (λ k. many + k) e ∙ ap (λ o. many + pick (has o) 0 1) (sym (c.counts.noted.other x.typ f)))

-- `add_all` and `post_known`

-- an answer that is 15 where a life count passes tells whether one does
pub past-err : (b : Bool) (r : Refusal) → number_of r ≡ pick b life_passes 0 → (b ≡ true) × (number_of r ≡ life_passes)
past-err true r e = (refl, e)
past-err false r e = absurd (number-some r e)

pub past-ok : (b : Bool) → ◌≡◌ {A = ℕ} 0 (pick b life_passes 0) → b ≡ false
past-ok true e = cc
past-ok false e = refl

-- at entry i: the ledger has room for the entries left, one of them passes if one of all does, and with them its rows are those that are asked for
pub record AddLoop (start s : List ℕ) (r : Statistics) (cells : List ℕ) (i : ℕ) : Type 0 where
  pub room : rows_for (rows_of cells) (left s r i) ≤ 256
  pub past : passes add_up (rows_of cells) (left s r i) ≡ passes add_up (rows_of start) (entries_at s r)
  pub same : add_all add_up (rows_of cells) (left s r i) ≡ add_all add_up (rows_of start) (entries_at s r)

module _ (start s : List ℕ) (r : Statistics) where
  -- at first it is as it was
  pub add_none : rows_for (rows_of start) (entries_at s r) ≤ 256 → AddLoop start s r start 0
  add_none h = record {
    room = rw (left-all s r) h;
    past = ap (passes add_up (rows_of start)) (left-all s r);
    same = ap (add_all add_up (rows_of start)) (left-all s r);
  }

  module _ (cells : List ℕ) (k : Kept cells) (i : ℕ) (c : AddLoop start s r cells i) where
    -- at the end none has passed, and its rows are those that are asked for
    pub add_end : r.count ≤ i
        → (false ≡ passes add_up (rows_of start) (entries_at s r)) × (cells ≡ cells_of (add_all add_up (rows_of start) (entries_at s r)))
    unfolding add_all passes
    add_end h =
        let none = sym (left-none s r i h) in (
          ap (passes add_up (rows_of cells)) none ∙ c.past,
          k.rest ∙ ap cells_of (ap (add_all add_up (rows_of cells)) none ∙ c.same),
        )

    module _ (e : Entry) (q : Nth s r e i) (less : i < r.count) where
      -- the rows with the next entry added up, and the others left
      abbrev next : List Row
      next = add_entry add_up (rows_of cells) e

      next-left : left s r i ≡ e ∷ left s r (i + 1)
      next-left = left-next s r e i q less

      -- there is room for the others
      next-room : rows_for next (left s r (i + 1)) ≤ 256
      next-room = rw (rows_step add_up adding_key e (rows_of cells) (left s r (i + 1)) k.good.rises) (rw next-left at c.room)

      -- so it can be added up
      pub add_room : length next ≤ 256
      add_room = omega (arith, next-room)

      -- its life count passes, or one of the others does
      abbrev own : Bool
      own = leb (2 ^ 64) (life_of (row_of next e.key))

      next_past : (own || passes add_up next (left s r (i + 1))) ≡ passes add_up (rows_of start) (entries_at s r)
      unfolding passes
      next_past = ap (passes add_up (rows_of cells)) (sym next-left) ∙ c.past

      pub add_past : own ≡ true → true ≡ passes add_up (rows_of start) (entries_at s r)
      add_past h = sym (ap (λ b. b || passes add_up next (left s r (i + 1))) h) ∙ next_past

      -- none does, if none of all does
      pub add_low : passes add_up (rows_of start) (entries_at s r) ≡ false → own ≡ false
      add_low h = (neither own (passes add_up next (left s r (i + 1))) (next_past ∙ h)).0

      -- it does not pass, and then the others are left
      pub add_more : (m : List ℕ) → own ≡ false → m ≡ cells_of next → AddLoop start s r m (i + 1)
      unfolding add_all
      add_more m low is = record {
        room = rw rows_are next-room;
        past = rw rows_are (sym (ap (λ b. b || passes add_up next (left s r (i + 1))) low) ∙ next_past);
        same = rw rows_are (rw next-left at c.same);
      }
        where
          rows_are : rows_of m ≡ next
          rows_are = ap rows_of is ∙ rows_back next
