-- Rows as a map from keys: what an entry, and entries in turn, do to the row of a key and to the number of rows. Assumes nothing.
use mathlib.Core.Bool.{true, ◌||◌, false≢true, or-false, or_assoc, or-true}
use mathlib.Core.List.{List, [], ◌∷◌, ◌++◌}
use mathlib.Core.Option.{none, some, none-ne-some, some-injective}
use mathlib.Core.Path.{◌≡◌, refl, ap, sym, ◌∙◌, subst}
use Prim.Native.Nat.{ℕ, ◌+◌, ◌≤◌, ◌<◌}
use native.Mathlib.Omega.{arith}
use lib.Dec.{eqb}
use lib.ListN.{length}
use borrow.Author.Tests.{lt-ltb, le-ltb, eq-eqb, ne_eqb, eqb-true, eqb-false}
use Rattle.octets.specs.Choice.{pick}
use Rattle.octets.proofs.Cases.{test}
use Rattle.rows.specs.Rows.{Row, Entry, new_row, row_of, has, or_new}
use Rattle.rows.specs.Posting.{names, new_keys, rows_for, add_entry, add_all, Above, Sorted, of_key, tally}
use Rattle.rows.proofs.Cases.{compare}

-- The row of a key

-- the first row, where it has that key
pub head-row : (r : Row) (rows : List Row) (k : ℕ) → r.key ≡ k → row_of (r ∷ rows) k ≡ some r
unfolding row_of
head-row r rows k q = rw (eq-eqb r.key k q)

-- else the row among the others
pub tail_row : (r : Row) (rows : List Row) (k : ℕ) → (r.key ≡ k → ⊥) → row_of (r ∷ rows) k ≡ row_of rows k
unfolding row_of
tail_row r rows k n = rw (ne_eqb r.key k n)

-- rows above a key are above any smaller one
above-less : {j k : ℕ} (rows : List Row) → j < k → Above k rows → Above j rows
above-less [] h a = tt
above-less (r ∷ rows) h a = (omega arith, above-less rows h a.1)

-- none of them has the key that they are above
above-none : (k : ℕ) (rows : List Row) → Above k rows → row_of rows k ≡ none
above-none k [] a = unfold row_of in refl
above-none k (r ∷ rows) a = tail_row r rows k (λ e. omega arith) ∙ above-none k rows a.1

-- so no row has a key below the first row's
pub before-none : (k : ℕ) (r : Row) (rows : List Row) → k < r.key → Sorted (r ∷ rows) → row_of (r ∷ rows) k ≡ none
before-none k r rows l s = above-none k (r ∷ rows) (l, above-less rows l s.0)

-- Two sorted lists of rows, compared by their keys

-- with the same row for every key they are equal
pub same_rows : (xs ys : List Row) → Sorted xs → Sorted ys → ((k : ℕ) → row_of xs k ≡ row_of ys k) → xs ≡ ys
same_rows [] [] s t h = refl
same_rows [] (y ∷ ys) s t h = unfold row_of in absurd (none-ne-some y (h y.key ∙ head-row y ys y.key refl))
same_rows (x ∷ xs) [] s t h = unfold row_of in absurd (none-ne-some x (sym (h x.key) ∙ head-row x xs x.key refl))
same_rows (x ∷ xs) (y ∷ ys) s t h =
    compare x.key y.key
    (λ l. absurd (none-ne-some x (sym (before-none x.key y ys l t) ∙ sym (h x.key) ∙ head-row x xs x.key refl)))
    (λ q. λ i. heads q i ∷ same_rows xs ys s.1 t.1 (tails q) i)
    (λ l. absurd (none-ne-some y (sym (before-none y.key x xs l s) ∙ h y.key ∙ head-row y ys y.key refl)))
  where
    heads : x.key ≡ y.key → x ≡ y
    heads q = some-injective x y (sym (head-row x xs x.key refl) ∙ h x.key ∙ head-row y ys x.key (sym q))

    tails : x.key ≡ y.key → (k : ℕ) → row_of xs k ≡ row_of ys k
    tails q k =
        test (eqb x.key k)
        (λ w. subst (λ j. row_of xs j ≡ row_of ys j) (eqb-true x.key k w)
        (above-none x.key xs s.0 ∙ sym (ap (row_of ys) q ∙ above-none y.key ys t.0)))
        (λ w. let n = eqb-false x.key k w in sym (tail_row x xs k n) ∙ h k ∙ tail_row y ys k (λ v. n (q ∙ v)))

-- where the second has every key of the first, the first is no longer
pub no_longer : (xs ys : List Row) → Sorted xs → Sorted ys
    → ((k : ℕ) → has (row_of xs k) ≡ true → has (row_of ys k) ≡ true) → length xs ≤ length ys
no_longer [] ys s t h = omega arith
no_longer (x ∷ xs) [] s t h = unfold row_of in absurd (false≢true (h x.key (ap has (head-row x xs x.key refl))))
no_longer (x ∷ xs) (y ∷ ys) s t h =
    compare x.key y.key
    (λ l. absurd (false≢true (sym (ap has (before-none x.key y ys l t)) ∙ h x.key (ap has (head-row x xs x.key refl)))))
    (λ q. omega (
      arith,
      no_longer xs ys s.1 t.1
          (past xs (ap (row_of xs) (sym q) ∙ above-none x.key xs s.0) (λ k n p. h k (ap has (tail_row x xs k (λ v. n (sym q ∙ v))) ∙ p))),
    ))
    (λ l. omega (arith, no_longer (x ∷ xs) ys s t.1 (past (x ∷ xs) (before-none y.key x xs l s) (λ k n p. h k p))))
  where
    -- rows without the key of y have no use for y
    past : (zs : List Row) → row_of zs y.key ≡ none
        → ((k : ℕ) → (y.key ≡ k → ⊥) → has (row_of zs k) ≡ true → has (row_of (y ∷ ys) k) ≡ true)
        → (k : ℕ) → has (row_of zs k) ≡ true → has (row_of ys k) ≡ true
    past zs away g k p =
        test (eqb y.key k)
        (λ w. absurd (false≢true (sym (ap has away) ∙ ap (λ j. has (row_of zs j)) (eqb-true y.key k w) ∙ p)))
        (λ w. let n = eqb-false y.key k w in sym (ap has (tail_row y ys k n)) ∙ g k n p)

-- The keys that entries name and that have no row

-- an entry has one new key at most
pub few-new : (rows : List Row) (es : List Entry) → rows_for rows es ≤ length rows + length es
unfolding new_keys
few-new rows [] = omega arith
few-new rows (e ∷ es) =
    let h = few-new rows es in
    test (has (row_of rows e.key) || names e.key es) (λ t. rw t (omega arith)) (λ f. rw f (omega arith))

-- where q has a row of k, and else the keys of p, k is no longer new
new-less : (p q : List Row) (k : ℕ) (es : List Entry) → has (row_of q k) ≡ true
    → ((j : ℕ) → (k ≡ j → ⊥) → has (row_of q j) ≡ has (row_of p j))
    → length (new_keys p es) ≡ pick (has (row_of p k)) 0 (pick (names k es) 1 0) + length (new_keys q es)
unfolding new_keys names
new-less p q k [] own other = test (has (row_of p k)) (λ t. rw t (omega arith)) (λ f. rw f (omega arith))
new-less p q k (e ∷ es) own other =
    let ih = new-less p q k es own other in
    test (eqb e.key k)
    (λ y. rw (y, eqb-true e.key k y, own) (test (has (row_of p k)) (λ t. rw t (rw t at ih))
    (λ f. let g = rw f at ih in rw f (test (names k es) (λ t. rw t (rw t at g)) (λ u. let w = rw u at g in rw u (omega arith))))))
    (λ n. rw (n, other e.key (λ w. eqb-false e.key k n (sym w)))
    (test (has (row_of p e.key) || names e.key es) (λ t. rw t ih) (λ f. rw f (omega arith))))

module _ (rule : Row → Entry → Row) where
  -- the three places that an entry can have, seen from the first row
  pub add_cases : (P : List Row → Type 0) (e : Entry) (r : Row) (rows : List Row)
      → (r.key < e.key → P (r ∷ add_entry rule rows e))
      → (r.key ≡ e.key → P (rule r e ∷ rows))
      → (e.key < r.key → P (rule (new_row e.key) e ∷ r ∷ rows))
      → P (add_entry rule (r ∷ rows) e)
  unfolding add_entry
  add_cases P e r rows less same more =
      compare r.key e.key (λ l. rw (lt-ltb r.key e.key l) (less l))
      (λ q. rw (le-ltb r.key e.key (omega arith), eq-eqb r.key e.key q) (same q))
      (λ g. rw (le-ltb r.key e.key (omega arith), ne_eqb r.key e.key (λ q. omega arith)) (more g))

  -- entries in turn, and others after them
  pub add_append : (rows : List Row) (es fs : List Entry) → add_all rule rows (es ++ fs) ≡ add_all rule (add_all rule rows es) fs
  unfolding add_all
  add_append rows [] fs = refl
  add_append rows (e ∷ es) fs = add_append (add_entry rule rows e) es fs

module _ (rule : Row → Entry → Row) (keeps-key : (r : Row) (e : Entry) → (rule r e).key ≡ r.key) where
  -- rows stay above a key that is below the entry's
  above_add : (e : Entry) (j : ℕ) (rows : List Row) → j < e.key → Above j rows → Above j (add_entry rule rows e)
  above_add e j [] h a = unfold add_entry in (subst (λ k. j < k) (sym (keeps-key (new_row e.key) e)) h, tt)
  above_add e j (r ∷ rows) h a =
      add_cases rule (Above j) e r rows (λ l. (a.0, above_add e j rows h a.1))
      (λ q. (subst (λ k. j < k) (sym (keeps-key r e)) a.0, a.1))
      (λ g. (subst (λ k. j < k) (sym (keeps-key (new_row e.key) e)) h, a))

  -- an entry keeps rows sorted
  pub sorted_add : (e : Entry) (rows : List Row) → Sorted rows → Sorted (add_entry rule rows e)
  sorted_add e [] s = unfold add_entry in (tt, tt)
  sorted_add e (r ∷ rows) s =
      add_cases rule Sorted e r rows (λ l. (above_add e r.key rows l s.0, sorted_add e rows s.1))
      (λ q. (subst (λ k. Above k rows) (sym (keeps-key r e)) s.0, s.1))
      (λ g. (subst (λ k. Above k (r ∷ rows)) (sym (keeps-key (new_row e.key) e)) (g, above-less rows g s.0), s))

  -- so do entries in turn
  pub sorted_all : (rows : List Row) (es : List Entry) → Sorted rows → Sorted (add_all rule rows es)
  unfolding add_all
  sorted_all rows [] s = s
  sorted_all rows (e ∷ es) s = sorted_all (add_entry rule rows e) es (sorted_add e rows s)

  -- the entry's own key gets the row with the entry added up
  pub row-own : (e : Entry) (rows : List Row) → Sorted rows
      → row_of (add_entry rule rows e) e.key ≡ some (rule (or_new e.key (row_of rows e.key)) e)
  row-own e [] s = unfold add_entry row_of in head-row (rule (new_row e.key) e) [] e.key (keeps-key (new_row e.key) e)
  row-own e (r ∷ rows) s =
      add_cases rule (λ l. row_of l k ≡ some (rule (or_new k (row_of (r ∷ rows) k)) e)) e r rows
      (λ l. let n : r.key ≡ k → ⊥ = λ q. omega arith in
      rw (tail_row r rows k n, tail_row r (add_entry rule rows e) k n) (row-own e rows s.1))
      (λ q. rw (head-row r rows k q) (head-row (rule r e) rows k (keeps-key r e ∙ q)))
      (λ g. rw (before-none k r rows g s) (head-row (rule (new_row k) e) (r ∷ rows) k (keeps-key (new_row k) e)))
    where
      k : ℕ
      k = e.key

  -- and any other key keeps what it had
  pub row_other : (e : Entry) (rows : List Row) (k : ℕ) → (e.key ≡ k → ⊥) → row_of (add_entry rule rows e) k ≡ row_of rows k
  unfolding row_of
  row_other e [] k n = unfold add_entry in tail_row (rule (new_row e.key) e) [] k (λ w. n (sym (keeps-key (new_row e.key) e) ∙ w))
  row_other e (r ∷ rows) k n =
      add_cases rule (λ l. row_of l k ≡ row_of (r ∷ rows) k) e r rows
      (λ l. ap (pick (eqb r.key k) (some r)) (row_other e rows k n))
      (λ q. let m : r.key ≡ k → ⊥ = λ w. n (sym q ∙ w) in
      tail_row (rule r e) rows k (λ w. n (sym (keeps-key r e ∙ q) ∙ w)) ∙ sym (tail_row r rows k m))
      (λ g. tail_row (rule (new_row e.key) e) (r ∷ rows) k (λ w. n (sym (keeps-key (new_row e.key) e) ∙ w)))

  -- the row of a key after entries in turn is the rule over the key's own
  pub row-all : (rows : List Row) (es : List Entry) → Sorted rows → (k : ℕ)
      → row_of (add_all rule rows es) k ≡ tally rule k (row_of rows k) (of_key k es)
  unfolding add_all of_key tally
  row-all rows [] s k = refl
  row-all rows (e ∷ es) s k =
      row-all (add_entry rule rows e) es (sorted_add e rows s) k
      ∙ test (eqb e.key k)
      (λ t. subst (λ j. tally rule j (row_of (add_entry rule rows e) j) (of_key j es) ≡ tally rule j (row_of rows j) (of_key j (e ∷ es)))
      (eqb-true e.key k t) (rw (row-own e rows s, eq-eqb e.key e.key refl)))
      (λ f. rw (f, row_other e rows k (eqb-false e.key k f)))

  -- a key has a row after an entry if it had one, or is the entry's
  has_add : (e : Entry) (rows : List Row) → Sorted rows → (k : ℕ)
      → has (row_of (add_entry rule rows e) k) ≡ (has (row_of rows k) || eqb e.key k)
  has_add e rows s k =
      test (eqb e.key k)
      (λ t. rw (t, or-true (has (row_of rows k)), ← (eqb-true e.key k t)) (ap has (row-own e rows s)))
      (λ f. rw (f, or-false (has (row_of rows k))) (ap has (row_other e rows k (eqb-false e.key k f))))

  -- and after entries in turn if it had one, or they name it
  pub has_all_lem : (rows : List Row) (es : List Entry) → Sorted rows → (k : ℕ)
      → has (row_of (add_all rule rows es) k) ≡ (has (row_of rows k) || names k es)
  unfolding add_all names
  has_all_lem rows [] s k = sym (or-false (has (row_of rows k)))
  has_all_lem rows (e ∷ es) s k =
      has_all_lem (add_entry rule rows e) es (sorted_add e rows s) k
      ∙ ap (λ b. b || names k es) (has_add e rows s k)
      ∙ or_assoc (has (row_of rows k)) (eqb e.key k) (names k es)

  -- an entry makes a row where its key has none
  pub length_add : (e : Entry) (rows : List Row) → Sorted rows
      → length (add_entry rule rows e) ≡ pick (has (row_of rows e.key)) 0 1 + length rows
  length_add e [] s = unfold add_entry row_of in refl
  length_add e (r ∷ rows) s =
      add_cases rule (λ l. length l ≡ pick (has (row_of (r ∷ rows) e.key)) 0 1 + length (r ∷ rows)) e r rows
      (λ l. rw (tail_row r rows e.key (λ q. omega arith)) (omega (arith, length_add e rows s.1)))
      (λ q. rw (head-row r rows e.key q) (omega arith))
      (λ g. rw (before-none e.key r rows g s) (omega arith))

  -- an entry that is added up changes nothing of the number of rows that there would be
  pub rows_step : (e : Entry) (rows : List Row) (es : List Entry) → Sorted rows → rows_for (add_entry rule rows e) es ≡ rows_for rows (e ∷ es)
  unfolding new_keys
  rows_step e rows es s =
      let one = length_add e rows s in
      let less = new-less rows (add_entry rule rows e) e.key es (ap has (row-own e rows s)) (λ j n. ap has (row_other e rows j n)) in
      test (has (row_of rows e.key)) (λ t. let a = rw t at one in let b = rw t at less in rw t (omega arith))
      (λ f. let a = rw f at one in let b = rw f at less in rw f (test (names e.key es)
      (λ t. let c = rw t at b in rw t (omega arith)) (λ g. let c = rw g at b in rw g (omega arith))))

  -- so after entries in turn there are the rows before, and one for each new key
  pub length-all : (rows : List Row) (es : List Entry) → Sorted rows → length (add_all rule rows es) ≡ rows_for rows es
  unfolding add_all
  length-all rows [] s = unfold new_keys in omega arith
  length-all rows (e ∷ es) s = length-all (add_entry rule rows e) es (sorted_add e rows s) ∙ rows_step e rows es s
