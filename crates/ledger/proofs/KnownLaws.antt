-- Entries whose keys all have rows far from the end: there is room for them, no life count passes, and each is added up at its row's place.
-- Assumes nothing.
use mathlib.Core.Bool.{Bool, true, false, false≢true}
use mathlib.Core.List.{List, []}
use mathlib.Core.Option.{Option, none, some}
use mathlib.Core.Path.{◌≡◌, refl, ap, sym, ◌∙◌, subst}
use Prim.Native.Nat.{ℕ, zero, suc, ◌+◌, ◌-◌, ◌*◌, ◌≤◌, ◌<◌, ◌^◌}
use native.Mathlib.Omega.{arith}
use lib.Dec.{leb, eqb}
use lib.ListN.{length, get_or, set, replicate, length-set}
use lib.Seq.{get_or-set_same, get_or-set_other}
use borrow.Author.Tests.{lt-leb, leb-false, eqb-true, eqb-false}
use Rattle.std.specs.Prelude.{Option as Maybe, Some, None, is_some, IsSome}
use Rattle.octets.proofs.Cases.{test}
use Rattle.blocks.specs.Statistics.{latest_time, report_entry}
use Rattle.blocks.specs.Statistics.{Entry as Counter}
use Rattle.blocks.specs.declared.statistics.Statistics.{Statistics}
use Rattle.blocks.proofs.SmallLaws.{type-small, count_small}
use Rattle.rows.specs.Rows.{Row, Entry, new_row, add_up, row_of, has, life_of, or_new}
use Rattle.rows.specs.Posting.{new_keys, rows_for, add_entry, passes, Sorted}
use Rattle.rows.proofs.Rows.{sorted_add, row-own, row_other}
use Rattle.rows.proofs.Theorems.{adding_key, adds-between}
use Rattle.ledger.specs.Ledgers.{row_in, count_of, rows_of, cells_of, put_row, all_below}
use Rattle.ledger.specs.Reports.{first_key, entry_of, entries_from, entries_at}
use Rattle.ledger.specs.Steps.{Kept, Few, RowAt, GapAt, Noted, Known}
use Rattle.ledger.proofs.CellLaws.{rows-many, kept-rising}
use Rattle.ledger.proofs.EntryLaws.{Nth}
use Rattle.ledger.proofs.LoopSteps.{AddLoop, add_none, add_room, add_low, add_more}
use Rattle.ledger.proofs.NarrowLaws.{entry-few, added_kept}
use Rattle.ledger.proofs.RuleTests.{all_held}
use Rattle.ledger.proofs.TableLaws.{get_same}
use Rattle.ledger.proofs.PlaceLaws.{put-stays, at_row, row-adds, row-life}

-- An entry raises a life count by its own count at most

added-life : (k : ℕ) (o : Option Row) (e : Entry) → (add_up (or_new k o) e).life ≤ life_of o + e.count
unfolding add_up
added-life k none e = omega (arith, adds-between (new_row k) e)
added-life k (some r) e = omega (arith, adds-between r e)

raises : (rows : List Row) (e : Entry) → Sorted rows → (k : ℕ) → life_of (row_of (add_entry add_up rows e) k) ≤ life_of (row_of rows k) + e.count
raises rows e s k =
    test (eqb e.key k)
    (λ t. rw (← (eqb-true e.key k t), row-own add_up adding_key e rows s) (added-life e.key (row_of rows e.key) e))
    (λ f. rw (row_other add_up adding_key e rows k (eqb-false e.key k f)) (omega arith))

module _ (s : List ℕ) (r : Statistics) where
  -- where each key has a row there is no new one
  none-new : (rows : List Row) (n k : ℕ) → ((i : ℕ) → i < k + n → has (row_of rows (first_key r + (report_entry s r.at i).typ)) ≡ true)
      → new_keys rows (entries_from s r n k) ≡ []
  unfolding new_keys entries_from
  none-new rows zero k h = refl
  none-new rows (suc n) k h = rw (h k (omega arith)) (none-new rows n (suc k) (λ i l. h i (omega arith)))

  -- where each life count has room for so many counts none passes
  none_passes : (rows : List Row) (n k : ℕ) → Sorted rows
      → ((i : ℕ) → i < k + n → life_of (row_of rows (first_key r + (report_entry s r.at i).typ)) + n * 2 ^ 32 ≤ 2 ^ 64)
      → passes add_up rows (entries_from s r n k) ≡ false
  unfolding passes entries_from
  none_passes rows zero k o h = refl
  none_passes rows (suc n) k o h =
      let e = entry_of r (report_entry s r.at k) in
      let few = count_small s r.at k in
      rw (lt-leb (2 ^ 64) (life_of (row_of (add_entry add_up rows e) e.key)) (omega (arith, raises rows e o e.key, h k (omega arith), few)))
      (none_passes (add_entry add_up rows e) n (suc k) (sorted_add add_up adding_key e rows o)
      (λ i l. omega (arith, raises rows e o (first_key r + (report_entry s r.at i).typ), h i (omega arith), few)))

-- Entries with known rows may be added up

-- a place that is there
place-of : (o : Maybe ℕ) → IsSome o → (p : ℕ) × (o ≡ Some p)
place-of None e = absurd (false≢true e)
place-of (Some p) e = (p, refl)

module _ (cells : List ℕ) (g : Kept cells) (s : List ℕ) (r : Statistics) (places : List (Maybe ℕ)) (w : Known cells s r places) where
  abbrev type : ℕ → ℕ
  type i = (report_entry s r.at i).typ

  placed : (i : ℕ) → i < r.count → (p : ℕ) × (get_or places (type i) None ≡ Some p)
  placed i h = place-of (get_or places (type i) None) (w.each i h)

  row_at : (i : ℕ) (h : i < r.count) → row_of (rows_of cells) (first_key r + type i) ≡ some (row_in cells (placed i h).0)
  row_at i h = at_row cells g (first_key r + type i) (placed i h).0 (w.noted.rows (type i) (placed i h).0 (type-small s r.at i) (placed i h).1)

  life_at : (i : ℕ) (h : i < r.count) → life_of (row_of (rows_of cells) (first_key r + type i)) + 2 ^ 40 ≤ 2 ^ 64
  life_at i h = rw (row_at i h) (w.noted.far (type i) (placed i h).0 (type-small s r.at i) (placed i h).1)

  -- there is room for them, and no life count passes
  pub known-adds : (rows_for (rows_of cells) (entries_at s r) ≤ 256) × (passes add_up (rows_of cells) (entries_at s r) ≡ false)
  known-adds = (
    omega (arith, g.few, rows-many cells, ap length (none-new s r (rows_of cells) r.count 0 (λ i h. ap has (row_at i (omega arith))))),
    none_passes s r (rows_of cells) r.count 0 g.good.rises (λ i h. omega (arith, w.few, life_at i (omega arith))),
  )

-- `note_rows`

-- at a place: what is noted is so, and no row from there on has a key below the report's
pub record NoteLoop (cells : List ℕ) (first : ℕ) (places : List (Maybe ℕ)) (i : ℕ) : Type 0 where
  pub noted : Noted cells first places
  pub above : (j : ℕ) → i ≤ j → j < count_of cells → first ≤ (row_in cells j).key

-- at first nothing is noted
pub noted-none : (cells : List ℕ) (first : ℕ) → Noted cells first (replicate 256 None)
noted-none cells first = record {
  long = refl;
  rows = λ u i h l. nowhere u i l;
  far = λ u i h l. nowhere u i l;
}
  where
    nowhere : {P : Type 0} (u i : ℕ) → get_or (replicate 256 None) u None ≡ Some i → P
    nowhere u i l = let none = get_same {A = Maybe ℕ} None 256 u in cc

pub noted-same : (cells : List ℕ) {first other : ℕ} (places : List (Maybe ℕ)) → first ≡ other → Noted cells first places → Noted cells other places
noted-same cells places e = subst (λ k. Noted cells k places) e

module _ (cells : List ℕ) (g : Kept cells) (first : ℕ) (places : List (Maybe ℕ)) where
  -- the rows from the first key's place on
  pub note_row : Noted cells first places → (i : ℕ) → RowAt cells first i → NoteLoop cells first places i
  note_row w i a = record {
    noted = w;
    above = λ j l h. test (eqb i j)
        (λ t. omega (arith, a.same, ap (λ x. (row_in cells x).key) (eqb-true i j t)))
        (λ n. omega (arith, a.same, kept-rising cells g i j (omega (arith, eqb-false i j n)) h));
  }

  pub note_gap : Noted cells first places → (i : ℕ) → GapAt cells first i → NoteLoop cells first places i
  note_gap w i f = record { noted = w; above = λ j l h. omega (arith, f.above j l h) }

  module _ (i : ℕ) (c : NoteLoop cells first places i) where
    -- the next row
    pub note_next : NoteLoop cells first places (i + 1)
    note_next = record { noted = c.noted; above = λ j l h. c.above j (omega arith) h }

    -- a row is noted
    pub note_mark : (r : Row) → r ≡ row_in cells i → i < count_of cells → r.key ≤ first + 255 → r.life + 2 ^ 40 ≤ 2 ^ 64
        → NoteLoop cells first (set places (r.key - first) (Some i)) (i + 1)
    note_mark r is inside less far =
        let t : ℕ = r.key - first in
        let key = ap (λ (x : Row). x.key) is in
        let life = ap (λ (x : Row). x.life) is in
        let low = c.above i (omega arith) inside in
        let own : (P : ℕ → ℕ → Type 0) → P t i → ((u j : ℕ) → u < 256 → get_or places u None ≡ Some j → P u j)
        → (u j : ℕ) → u < 256 → get_or (set places t (Some i)) u None ≡ Some j → P u j
        = λ P new old u j l q. test (eqb t u)
        (λ y. let now = get_or-set_same places t (Some i) None (omega (arith, c.noted.long)) in
        let e = eqb-true t u y in
        let one : i ≡ j = cc in
        subst (λ v. P v j) e (subst (P t) one new))
        (λ n. old u j l (sym (get_or-set_other places t u (Some i) None (λ z. eqb-false t u n (sym z))) ∙ q)) in
        record {
          noted = record {
            long = length-set places t (Some i) ∙ c.noted.long;
            rows = own (λ u x. RowAt cells (first + u) x) (record { inside = inside; same = omega arith }) c.noted.rows;
            far = own (λ u x. (row_in cells x).life + 2 ^ 40 ≤ 2 ^ 64) (omega arith) c.noted.far;
          };
          above = λ j l h. c.above j (omega arith) h;
        }

-- `all_known`

module _ (s : List ℕ) (r : Statistics) (places : List (Maybe ℕ)) where
  -- whether an entry has a place
  abbrev pub is_placed : ℕ → Bool
  is_placed i = is_some (get_or places (report_entry s r.at i).typ None)

  -- where each has one, all are known
  pub placed_all : (cells : List ℕ) → Noted cells (first_key r) places → r.count < 256 → all_below r.count is_placed ≡ true → Known cells s r places
  placed_all cells w few h = record { few = few; noted = w; each = λ i l. all_held is_placed r.count h i l }

-- `post_known`: an entry is added up at its row's place

-- at entry i: as in `add_all`, and the rows are where they were
pub record KnownLoop (start s : List ℕ) (r : Statistics) (cells : List ℕ) (i : ℕ) : Type 0 where
  pub added : AddLoop start s r cells i
  pub stays : (k j : ℕ) → RowAt start k j → RowAt cells k j

module _ (start s : List ℕ) (r : Statistics) (g : Kept start) (places : List (Maybe ℕ)) (w : Known start s r places) where
  -- at first it is as it was
  pub known-none : KnownLoop start s r start 0
  known-none = record { added = add_none start s r (known-adds start g s r places w).0; stays = λ k j a. a }

  module _ (cells : List ℕ) (k : Kept cells) (i : ℕ) (c : KnownLoop start s r cells i)
      (x : Counter) (q : x ≡ report_entry s r.at i) (e : Entry) (is : e ≡ entry_of r x) (less : i < r.count)
      (place : ℕ) (at : get_or places x.typ None ≡ Some place) where
    nth : Nth s r e i
    nth = is ∙ ap (entry_of r) q

    at_place : RowAt cells e.key place
    at_place =
        let small = subst (λ y. y.typ < 256) (sym q) (type-small s r.at i) in
        c.stays e.key place (subst (λ y. RowAt start y place) (sym (ap (λ y. y.key) is)) (w.noted.rows x.typ place small at))

    low : leb (2 ^ 64) (life_of (row_of (add_entry add_up (rows_of cells) e) e.key)) ≡ false
    low = add_low start s r cells k i c.added e nth less (known-adds start g s r places w).1

    -- the place is one of 256, and the life count there does not pass
    pub add_fits : (place < 256) × ((add_up (row_in cells place) e).life < 2 ^ 64)
    add_fits = (
      omega (arith, at_place.inside, k.few),
      leb-false (2 ^ 64) (add_up (row_in cells place) e).life
          (ap (leb (2 ^ 64)) (row-life cells k e place at_place) ∙ low),
    )

    -- and then the others are left
    module _ (m : List ℕ) (put : m ≡ put_row cells place (add_up (row_in cells place) e)) where
      adds : m ≡ cells_of (add_entry add_up (rows_of cells) e)
      adds = put ∙ row-adds add_up cells k e place at_place

      pub known_more : KnownLoop start s r m (i + 1)
      known_more = record {
        added = add_more start s r cells k i c.added e nth less m low adds;
        stays = λ key j a. subst (λ l. RowAt l key j) (sym put)
            (put-stays cells k place add_fits.0 (add_up (row_in cells place) e) (adding_key (row_in cells place) e) key j (c.stays key j a));
      }

      -- and the ledger keeps the rules
      pub known_kept : first_key r + 255 < 2 ^ 32 → r.time ≤ latest_time → Kept m
      known_kept wide day = subst Kept (sym adds)
          (added_kept cells k e (subst Few (sym nth) (entry-few s r i wide day)) (add_room start s r cells k i c.added e nth less) low)
