-- Tables: the numbers of rows, one row after the other, for any numbers of a row of one length; and rows that are listed by place.
-- Assumes nothing.
use mathlib.Core.Path.{◌≡◌, refl, sym, ap, ◌∙◌}
use mathlib.Core.List.{List, [], ◌∷◌, ◌++◌, map, map-append, append_assoc, append-nil}
use Prim.Native.Nat.{ℕ, zero, suc, ◌+◌, ◌*◌, ◌≤◌, ◌<◌}
use native.Mathlib.Nat.{le_of_suc-le-suc, not-suc-le-zero}
use native.Mathlib.Omega.{arith}
use lib.ListN.{length, get_or, take, drop, replicate, length-append, length-map}
use lib.Seq.{take-add, drop-drop}
use Rattle.octets.specs.Numbers.{laid}
use Rattle.octets.proofs.Laying.{laid-laid}
use Rattle.rows.specs.Rows.{Row, new_row}
use Rattle.rows.specs.Order.{upto}
use Rattle.rows.specs.Posting.{Each}
use Rattle.ledger.specs.Ledgers.{table}

-- two parts of a list, one behind the other
pub parts : (s : List ℕ) (o a b : ℕ) → take a (drop o s) ++ take b (drop (o + a) s) ≡ take (a + b) (drop o s)
parts s o a b = sym (take-add a b (drop o s) ∙ ap (λ t. take a (drop o s) ++ take b t) (drop-drop a o s))

-- a list of one value has it everywhere, past its end too
pub get_same : {A : Type 0} (a : A) (n u : ℕ) → get_or (replicate n a) u a ≡ a
get_same a zero u = refl
get_same a (suc n) zero = refl
get_same a (suc n) (suc u) = get_same a n u

-- Rows listed by place

length-upto : (n : ℕ) → length (upto n) ≡ n
unfolding upto
length-upto zero = refl
length-upto (suc n) = ap suc (length-map (upto n) suc ∙ length-upto n)

upto-more : (n : ℕ) → upto (suc n) ≡ upto n ++ (n ∷ [])
unfolding upto
upto-more zero = refl
upto-more (suc n) = ap (λ l. 0 ∷ map suc l) (upto-more n) ∙ ap (λ l. 0 ∷ l) (map-append suc (upto n) (n ∷ []))

module _ {A : Type 0} (at : ℕ → A) where
  pub listed-many : (n : ℕ) → length (map at (upto n)) ≡ n
  listed-many n = length-map (upto n) at ∙ length-upto n

  -- one more
  pub listed_more : (n : ℕ) → map at (upto (suc n)) ≡ map at (upto n) ++ (at n ∷ [])
  listed_more n = ap (map at) (upto-more n) ∙ map-append at (upto n) (n ∷ [])

-- The numbers of a row, k of them

module _ (f : Row → List ℕ) (k : ℕ) (wide : (r : Row) → length (f r) ≡ k) where
  pub length-table : (rows : List Row) → length (table f rows) ≡ k * length rows
  unfolding table
  length-table [] = omega arith
  length-table (r ∷ rows) = rw (length-append, wide r, length-table rows) (omega arith)

  -- one row more
  table_more : (rows : List Row) (r : Row) → table f (rows ++ (r ∷ [])) ≡ table f rows ++ f r
  unfolding table
  table_more [] r = append-nil (f r)
  table_more (x ∷ rows) r = ap (λ t. f x ++ t) (table_more rows r) ∙ sym (append_assoc (f x) (table f rows) (f r))

  pub table-laid : (l : List ℕ) (o : ℕ) (rows : List Row) (r : Row) → o + k * length rows ≤ length l
      → laid (laid l o (table f rows)) (o + k * length rows) (f r) ≡ laid l o (table f (rows ++ (r ∷ [])))
  table-laid l o rows r h =
      let n = length-table rows in
      rw (← n, table_more rows r) (laid-laid l o (table f rows) (f r) (omega arith))

  -- What is got from the numbers of a row wherever they lie is got from the table

  module _ {A : Type 0} (P : Row → Type 0) (get : List ℕ → ℕ → A) (part : Row → A)
      (gets : (r : Row) → P r → (p q : List ℕ) → get (p ++ (f r ++ q)) (length p) ≡ part r) where
    table_got : (p q : List ℕ) (rows : List Row) → Each P rows → (i : ℕ) → i < length rows
        → get (p ++ (table f rows ++ q)) (length p + k * i) ≡ part (get_or rows i (new_row 0))
    unfolding table
    table_got p q [] e i l = absurd (not-suc-le-zero l)
    table_got p q (r ∷ rows) e zero l =
        let o : length p + k * 0 ≡ length p = omega arith in
        rw (o, append_assoc) (gets r e.0 p (table f rows ++ q))
    table_got p q (r ∷ rows) e (suc i) l =
        let o : length (p ++ f r) + k * i ≡ length p + k * suc i = rw (length-append, wide r) (omega arith) in
        let ih = table_got (p ++ f r) q rows e.1 i (le_of_suc-le-suc l) in
        rw (append_assoc (f r) (table f rows) q, ← o) (rw append_assoc at ih)

    pub table_get : (p q s : List ℕ) (o : ℕ) (rows : List Row) → length p ≡ o → s ≡ p ++ (table f rows ++ q) → Each P rows
        → (i : ℕ) → i < length rows → get s (o + k * i) ≡ part (get_or rows i (new_row 0))
    table_get p q s o rows e is each i l = rw (is, ← e) (table_got p q rows each i l)

  -- Rows that were read from octets have those octets

  none-put : (at : ℕ → Row) → table f (map at (upto 0)) ≡ []
  unfolding table upto
  none-put at = refl

  module _ (s : List ℕ) (at : ℕ → Row) (n o : ℕ) (puts : (i : ℕ) → i < n → f (at i) ≡ take k (drop (o + k * i) s)) where
    pub table-put : (m : ℕ) → m ≤ n → table f (map at (upto m)) ≡ take (k * m) (drop o s)
    table-put zero h = let e : k * 0 ≡ 0 = omega arith in rw e (none-put at)
    table-put (suc m) h =
        let d : k * m + k ≡ k * suc m = omega arith in
        rw (listed_more at m, table_more (map at (upto m)) (at m), table-put m (omega arith), puts m (omega arith), ← d) (parts s o (k * m) k)
