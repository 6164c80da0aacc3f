-- With room for every counter of a run, the rows follow the map. Assumes nothing.
use mathlib.Core.Bool.{true, ◌||◌, false≢true, or_assoc, or-true}
use mathlib.Core.List.{List, [], ◌∷◌, ◌++◌}
use mathlib.Core.Path.{◌≡◌, refl, ap, sym, ◌∙◌, subst, fun_ext}
use Prim.Native.Nat.{ℕ, zero, suc, ◌≤◌, ◌^◌}
use native.Mathlib.Omega.{arith}
use lib.Dec.{leb, eqb}
use lib.ListN.{length}
use borrow.Author.Tests.{le-ltb, eqb-true, eqb-false}
use Rattle.octets.proofs.Cases.{test}
use Rattle.rows.specs.Rows.{Row, Entry, row_of, has, life_of}
use Rattle.rows.specs.Posting.{Report, refused, counts, entries, all_entries, names, rows_for, add_entry, add_all, passes, post_rows}
use Rattle.rows.specs.Posting.{answers, after, Sorted, Room}
use Rattle.rows.specs.Order.{report, in_order, upto}
use Rattle.rows.proofs.Cases.{either}
use Rattle.rows.proofs.Numbers.{read-upto}
use Rattle.rows.proofs.Traces.{ends, says}
use Rattle.rows.proofs.Rows.{no_longer, add_append, sorted_add, sorted_all, row-own, row_other, row-all, has_all_lem, length-all}
use Rattle.rows.proofs.Maps.{put, passes_map, tallies, refusal, next, goes, tells}
use Rattle.rows.proofs.Posts.{post_cases, sorted_post}

-- The keys that entries name

-- one list after another names what either names
names-append : (k : ℕ) (es fs : List Entry) → names k (es ++ fs) ≡ (names k es || names k fs)
unfolding names
names-append k [] fs = refl
names-append k (e ∷ es) fs = ap (λ b. eqb e.key k || b) (names-append k es fs) ∙ sym (or_assoc (eqb e.key k) (names k es) (names k fs))

-- so all that the first names
names-left : (k : ℕ) (es fs : List Entry) → names k es ≡ true → names k (es ++ fs) ≡ true
names-left k es fs h = rw (names-append k es fs, h)

-- and all that the second names
names_right : (k : ℕ) (es fs : List Entry) → names k fs ≡ true → names k (es ++ fs) ≡ true
names_right k es fs h = rw (names-append k es fs, h, or-true (names k es))

-- a report of a run names nothing that the run does not
names-report : (k : ℕ) (rs : List Report) (i : ℕ) → names k (entries (report rs i)) ≡ true → names k (all_entries rs) ≡ true
names-report k [] i h = unfold names in absurd (false≢true h)
names-report k (x ∷ rs) zero h = names-left k (entries x) (all_entries rs) h
names-report k (x ∷ rs) (suc i) h = names_right k (entries x) (all_entries rs) (names-report k rs i h)

-- neither do its reports in another order
names-order : (k : ℕ) (rs : List Report) (l : List ℕ) → names k (all_entries (in_order l rs)) ≡ true → names k (all_entries rs) ≡ true
names-order k rs [] h = unfold names in absurd (false≢true h)
names-order k rs (i ∷ l) h =
    let es = entries (report rs i) in
    let fs = all_entries (in_order l rs) in
    either (names k es) (names k fs) (sym (names-append k es fs) ∙ h) (names-report k rs i) (names-order k rs l)

module _ (rule : Row → Entry → Row) (keeps-key : (r : Row) (e : Entry) → (rule r e).key ≡ r.key) where
  -- Room for a run

  -- entries that name no more keys make no more rows
  fewer : (rows : List Row) (es fs : List Entry) → Sorted rows → ((k : ℕ) → names k es ≡ true → names k fs ≡ true)
      → rows_for rows es ≤ rows_for rows fs
  fewer rows es fs s h =
      omega (
        arith,
        length-all rule keeps-key rows es s,
        length-all rule keeps-key rows fs s,
        no_longer (add_all rule rows es) (add_all rule rows fs) (sorted_all rule keeps-key rows es s) (sorted_all rule keeps-key rows fs s) keys,
      )
    where
      keys : (k : ℕ) → has (row_of (add_all rule rows es) k) ≡ true → has (row_of (add_all rule rows fs) k) ≡ true
      keys k p =
          has_all_lem rule keeps-key rows fs s k
          ∙ either (has (row_of rows k)) (names k es) (sym (has_all_lem rule keeps-key rows es s k) ∙ p) (λ t. rw t)
          (λ t. rw (h k t, or-true (has (row_of rows k))))

  -- entries that are added up change nothing of the number of rows that there would be
  rows_split : (rows : List Row) (es fs : List Entry) → Sorted rows → rows_for (add_all rule rows es) fs ≡ rows_for rows (es ++ fs)
  rows_split rows es fs s =
      sym (length-all rule keeps-key (add_all rule rows es) fs (sorted_all rule keeps-key rows es s))
      ∙ ap length (sym (add_append rule rows es fs)) ∙ length-all rule keeps-key rows (es ++ fs) s

  -- a run with room has room for its first report
  fits : (rows : List Row) (x : Report) (rs : List Report) → Sorted rows → Room rows (x ∷ rs) → rows_for rows (entries x) ≤ 256
  fits rows x rs s room =
      omega (arith, fewer rows (entries x) (entries x ++ all_entries rs) s (λ k. names-left k (entries x) (all_entries rs)))

  -- and after that for the others
  room_next : (rows : List Row) (x : Report) (rs : List Report) → Sorted rows → Room rows (x ∷ rs) → Room (post_rows rule rows x).rows rs
  room_next rows x rs s room =
      post_cases rule (λ l. Room l rs) rows x
      (omega (arith, fewer rows (all_entries rs) (entries x ++ all_entries rs) s (λ k. names_right k (entries x) (all_entries rs))))
      (λ _ _. omega (arith, rows_split rows (entries x) (all_entries rs) s))

  -- and it has room in any order
  room-order : (rows : List Row) (rs : List Report) (l : List ℕ) → Sorted rows → Room rows rs → Room rows (in_order l rs)
  room-order rows rs l s room = omega (arith, fewer rows (all_entries (in_order l rs)) (all_entries rs) s (λ k. names-order k rs l))

  -- One post, on rows and on their map

  -- an entry added up to rows is put into their map
  map_add : (e : Entry) (rows : List Row) → Sorted rows → row_of (add_entry rule rows e) ≡ put rule (row_of rows) e
  unfolding put
  map_add e rows s =
      fun_ext (λ k. test (eqb e.key k)
      (λ t. rw (t, ← (eqb-true e.key k t)) (row-own rule keeps-key e rows s))
      (λ f. rw f (row_other rule keeps-key e rows k (eqb-false e.key k f))))

  -- entries in turn are tallied in it
  map-all : (rows : List Row) (es : List Entry) → Sorted rows → row_of (add_all rule rows es) ≡ tallies rule (row_of rows) es
  unfolding tallies
  map-all rows es s = fun_ext (row-all rule keeps-key rows es s)

  -- a life count would pass in both or in none
  passes-is : (rows : List Row) (es : List Entry) → Sorted rows → passes rule rows es ≡ passes_map rule (row_of rows) es
  unfolding passes passes_map
  passes-is rows [] s = refl
  passes-is rows (e ∷ es) s =
      ap (λ b. leb (2 ^ 64) (life_of (row_of (add_entry rule rows e) e.key)) || b)
      (passes-is (add_entry rule rows e) es (sorted_add rule keeps-key e rows s))
      ∙ ap (λ m. leb (2 ^ 64) (life_of (m e.key)) || passes_map rule m es) (map_add e rows s)

  -- where there is room, the answer is the same
  refusal_is : (rows : List Row) (x : Report) → Sorted rows → rows_for rows (entries x) ≤ 256
      → (post_rows rule rows x).refusal ≡ refusal rule (row_of rows) x
  unfolding post_rows refusal
  refusal_is rows (refused n) s h = refl
  refusal_is rows (counts es) s h =
      rw (le-ltb 256 (rows_for rows es) h, passes-is rows es s) (test (passes_map rule (row_of rows) es) (λ t. rw t) (λ f. rw f))

  -- and the map of the rows is the next map
  next-is : (rows : List Row) (x : Report) → Sorted rows → rows_for rows (entries x) ≤ 256
      → row_of (post_rows rule rows x).rows ≡ next rule (row_of rows) x
  unfolding post_rows next
  next-is rows (refused n) s h = refl
  next-is rows (counts es) s h =
      rw (le-ltb 256 (rows_for rows es) h, passes-is rows es s)
      (test (passes_map rule (row_of rows) es) (λ t. fun_ext (λ k. rw t)) (λ f. fun_ext (λ k. rw f (ap (λ m. m k) (map-all rows es s)))))

  -- A run's reports in an order, on rows and on their map

  -- the reports xs on rows are events of the run rs on their map, in an order
  abbrev pub Follows : List Row → List Report → List Report → List ℕ → Type 0
  Follows rows rs xs order =
      (answers rule rows xs ≡ says (goes rule rs) (tells rule rs) (row_of rows) order)
      × (row_of (after rule rows xs) ≡ ends (goes rule rs) (row_of rows) order)

  -- so they are, with room for the reports in that order
  follows : (rows : List Row) (rs : List Report) (order : List ℕ) → Sorted rows → Room rows (in_order order rs)
      → Follows rows rs (in_order order rs) order
  unfolding answers after says ends
  follows rows rs [] s room = (refl, refl)
  follows rows rs (i ∷ l) s room =
      let x = report rs i in
      let same = next-is rows x s (fits rows x (in_order l rs) s room) in
      let w = follows (post_rows rule rows x).rows rs l (sorted_post rule keeps-key rows x s) (room_next rows x (in_order l rs) s room) in (
        λ j. refusal_is rows x s (fits rows x (in_order l rs) s room) j ∷ (w.0 ∙ ap (λ m. says (goes rule rs) (tells rule rs) m l) same) j,
        w.1 ∙ ap (λ m. ends (goes rule rs) m l) same,
      )

  -- in any order, where the run has room
  pub in_order_lem : (rows : List Row) (rs : List Report) (order : List ℕ) → Sorted rows → Room rows rs → Follows rows rs (in_order order rs) order
  in_order_lem rows rs order s room = follows rows rs order s (room-order rows rs order s room)

  -- and in its own
  pub in_own : (rows : List Row) (rs : List Report) → Sorted rows → Room rows rs → Follows rows rs rs (upto (length rs))
  in_own rows rs s room =
      subst (λ xs. Follows rows rs xs (upto (length rs))) (read-upto rs (refused 0)) (in_order_lem rows rs (upto (length rs)) s room)
