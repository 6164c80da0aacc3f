-- A page of any tables and its rows: the page of rows gives back of each row what the tables have, and the rows of a page give the page.
-- Assumes nothing.
use mathlib.Core.Path.{◌≡◌, refl, sym, ap, ap₂, ◌∙◌, subst}
use mathlib.Core.Bool.{true, ◌&&◌}
use mathlib.Core.List.{List, [], ◌∷◌, ◌++◌, map, append_assoc}
use Prim.Native.Nat.{ℕ, ◌+◌, ◌*◌, ◌≤◌, ◌<◌, ◌^◌}
use native.Mathlib.Nat.{add-mul, zero-mul}
use native.Mathlib.Omega.{arith}
use lib.Dec.{leb, eqb}
use lib.ListN.{length, get_or, take, drop, length-append}
use lib.Seq.{take_all}
use borrow.Author.Tests.{leb-true, eqb-true, le-leb, eq-eqb}
use Rattle.octets.specs.Numbers.{Octets, number, octets}
use Rattle.octets.proofs.Numbers.{number_lt, number-octets, length-octets, octets-number}
use Rattle.octets.proofs.Cases.{both}
use Rattle.rows.specs.Rows.{Row, new_row}
use Rattle.rows.specs.Order.{upto}
use Rattle.rows.specs.Posting.{Each}
use Rattle.rows.proofs.Numbers.{map_same, map-twice, read-upto, within-upto, at-upto}
use Rattle.ledger.specs.Ledgers.{table}
use Rattle.ledger.proofs.RowPlaces.{each_from}
use Rattle.ledger.proofs.TableLaws.{parts, listed-many, length-table, table_get, table-put}
use Rattle.pages.specs.Pages.{
  row_octets,
  row_wide,
  part_at,
  head_long,
  row_long,
  page_length,
  starts,
  starts_of,
  twos,
  tables,
  head_of,
  page_of,
  row_from,
  row_at,
  count_in,
  rows_in,
  stand,
  head_keeps,
}
use Rattle.pages.specs.declared.forms.Table.{Table}
use Rattle.pages.specs.declared.forms.Table.TheVariants as columns

-- what the widths of the numbers hold of a row
abbrev pub Small : Row → Type 0
Small r = (r.key < 2 ^ 32) × (r.life < 2 ^ 64) × (r.reading < 2 ^ 32) × (r.time < 2 ^ 32)

-- Lengths

pub row-wide : (t : Table) (r : Row) → length (row_octets t r) ≡ row_wide t
row-wide columns.Keys r = length-octets 4 r.key
row-wide columns.Readings r = simp (length-append, length-octets)
row-wide columns.Times r = length-octets 4 r.time

pub twos-long : (vs : List ℕ) → length (twos vs) ≡ 2 * length vs
unfolding twos
twos-long [] = refl
twos-long (v ∷ vs) = rw (length-append, length-octets 2 v, twos-long vs) (omega arith)

starts-many : (long w n : ℕ) (ts : List Table) → length (starts long w n ts) ≡ 1 + length ts
unfolding starts
starts-many long w n [] = refl
starts-many long w n (t ∷ ts) = rw (starts-many long (w + row_wide t) n ts) (omega arith)

pub head-long : (ts : List Table) (n : ℕ) → length (head_of ts n) ≡ head_long ts
head-long ts n = twos-long (n ∷ starts_of ts n) ∙ rw (starts-many (head_long ts) 0 n ts) (omega arith)

pub tables-long : (ts : List Table) (rows : List Row) → length (tables ts rows) ≡ row_long ts * length rows
unfolding tables row_long
tables-long [] rows = omega arith
tables-long (t ∷ ts) rows =
    rw (length-append, length-table (row_octets t) (row_wide t) (row-wide t) rows, tables-long ts rows, add-mul (row_wide t) (row_long ts) (length rows))

pub page-long : (ts : List Table) (rows : List Row) → length (page_of ts rows) ≡ page_length ts (length rows)
page-long ts rows = rw (length-append, head-long ts (length rows), tables-long ts rows)

-- The page of rows, read

-- numbers of two octets
unfoldable Two : List ℕ → Type 0
Two [] = Unit {0}
Two (v ∷ vs) = (v < 256 ^ 2) × Two vs

stand-back : (vs p q : List ℕ) → Two vs → stand (p ++ (twos vs ++ q)) (length p) vs ≡ true
unfolding stand twos Two
stand-back [] p q w = refl
stand-back (v ∷ vs) p q w =
    let o : length (p ++ octets 2 v) ≡ length p + 2 = rw (length-append, length-octets 2 v) in
    let e : (p ++ octets 2 v) ++ (twos vs ++ q) ≡ p ++ ((octets 2 v ++ twos vs) ++ q) = simp append_assoc in
    let first : number 2 (p ++ ((octets 2 v ++ twos vs) ++ q)) (length p) ≡ v = rw append_assoc (number-octets 2 v p (twos vs ++ q) w.0) in
    rw (eq-eqb _ v first) (rw (e, o) at (stand-back vs (p ++ octets 2 v) q w.1))

starts-two : (long w n : ℕ) (ts : List Table) → long + (w + row_long ts) * n < 256 ^ 2 → Two (starts long w n ts)
unfolding starts row_long Two
starts-two long w n [] h = (omega (arith, add-mul w 0 n), tt)
starts-two long w n (t ∷ ts) h =
    let k = row_wide t in
    let m = row_long ts in
    (omega (arith, add-mul w (k + m) n), starts-two long (w + k) n ts (omega (arith, add-mul w (k + m) n, add-mul (w + k) m n, add-mul w k n, add-mul k m n)))

-- what a table has of a row, put into another
abbrev pub with_part : Table → Row → Row → Row
with_part columns.Keys r to = record { key = r.key; life = to.life; reading = to.reading; time = to.time }
with_part columns.Readings r to = record { key = to.key; life = r.life; reading = r.reading; time = to.time }
with_part columns.Times r to = record { key = to.key; life = to.life; reading = to.reading; time = r.time }

-- and what tables have of it
unfoldable pub with_parts : List Table → Row → Row → Row
with_parts [] r to = to
with_parts (t ∷ ts) r to = with_parts ts r (with_part t r to)

abbrev pub shown : List Table → Row → Row
shown ts r = with_parts ts r (new_row 0)

part-back : (t : Table) (to r : Row) → Small r → (p q : List ℕ) → part_at t (p ++ (row_octets t r ++ q)) (length p) to ≡ with_part t r to
part-back columns.Keys to r w p q =
    λ i. record { key = number-octets 4 r.key p q w.0 i; life = to.life; reading = to.reading; time = to.time }
part-back columns.Readings to r w p q =
    let a = octets 8 r.life in
    let b = octets 4 r.reading in
    let o : length (p ++ a) ≡ length p + 8 = rw (length-append, length-octets 8 r.life) in
    let life : number 8 (p ++ ((a ++ b) ++ q)) (length p) ≡ r.life = rw append_assoc (number-octets 8 r.life p (b ++ q) w.1) in
    let e : (p ++ a) ++ (b ++ q) ≡ p ++ ((a ++ b) ++ q) = simp append_assoc in
    let reading : number 4 (p ++ ((a ++ b) ++ q)) (length p + 8) ≡ r.reading =
    rw (e, o) at (number-octets 4 r.reading (p ++ a) q w.2) in
    λ i. record { key = to.key; life = life i; reading = reading i; time = to.time }
part-back columns.Times to r w p q =
    λ i. record { key = to.key; life = to.life; reading = to.reading; time = number-octets 4 r.time p q w.3 i }

-- row i of rows whose tables lie behind p
row_back : (ts : List Table) (p s : List ℕ) (rows : List Row) (long w : ℕ) → Each Small rows → (i : ℕ) → i < length rows → (to : Row)
    → length p ≡ long + w * length rows → s ≡ p ++ tables ts rows
    → row_from s long w (length rows) i ts to ≡ with_parts ts (get_or rows i (new_row 0)) to
unfolding row_from with_parts tables
row_back [] p s rows long w small i l to here is = refl
row_back (t ∷ ts) p s rows long w small i l to here is =
    let n = length rows in
    let mine = table (row_octets t) rows in
    let got = table_get (row_octets t) (row_wide t) (row-wide t) Small (λ x o. part_at t x o to) (λ r. with_part t r to) (part-back t to)
    p (tables ts rows) s (long + w * n) rows here is small i l in
    let next : length (p ++ mine) ≡ long + (w + row_wide t) * n =
    rw (length-append, here, length-table (row_octets t) (row_wide t) (row-wide t) rows, add-mul w (row_wide t) n) (omega arith) in
    ap (row_from s long (w + row_wide t) n i ts) got
    ∙ row_back ts (p ++ mine) s rows long (w + row_wide t) small i l _ next (is ∙ sym (append_assoc p mine (tables ts rows)))

module _ (ts : List Table) (rows : List Row) (small : Each Small rows) where
  abbrev page : List ℕ
  page = page_of ts rows

  abbrev many : ℕ
  many = length rows

  head-back : many ≤ 256 → page_length ts many < 256 ^ 2 → (count_in page ≡ many) × (head_keeps ts page ≡ true)
  unfolding twos
  head-back few fits =
      let vs = starts_of ts many in
      let q = tables ts rows in
      let z : 0 + row_long ts ≡ row_long ts = omega arith in
      let e : page ≡ octets 2 many ++ (twos vs ++ q) = append_assoc (octets 2 many) (twos vs) q in
      let count : count_in page ≡ many = ap count_in e ∙ number-octets 2 many [] (twos vs ++ q) (omega arith) in
      let stands : stand page 2 vs ≡ true =
      ap₂ (λ s o. stand s o vs) e (sym (length-octets 2 many)) ∙ stand-back vs (octets 2 many) q (starts-two (head_long ts) 0 many ts (rw z fits)) in
      (count, rw (count, stands, page-long ts rows, le-leb many 256 few, eq-eqb (page_length ts many) _ refl))

  rows-page : map (row_at ts page many) (upto many) ≡ map (shown ts) rows
  rows-page =
      map_same (row_at ts page many) (λ i. shown ts (get_or rows i (new_row 0))) (upto many)
      (λ i h. row_back ts (head_of ts many) page rows (head_long ts) 0 small i (within-upto i many h) (new_row 0)
      (head-long ts many ∙ omega arith) refl)
      ∙ sym (map-twice (shown ts) (λ i. get_or rows i (new_row 0)) (upto many)) ∙ ap (map (shown ts)) (read-upto rows (new_row 0))

  -- The page of rows gives back of each row what the tables have.
  pub page-back : many ≤ 256 → page_length ts many < 256 ^ 2 → (head_keeps ts page ≡ true) × (rows_in ts page ≡ map (shown ts) rows)
  page-back few fits =
      let h = head-back few fits in
      (h.1, ap (λ n. map (row_at ts page n) (upto n)) h.0 ∙ rows-page)

-- The rows of a page, stored

-- the numbers of a head, one by one
unfoldable pub Stand : List ℕ → ℕ → List ℕ → Type 0
Stand s at [] = Unit {0}
Stand s at (v ∷ vs) = (number 2 s at ≡ v) × Stand s (at + 2) vs

pub stands : (s : List ℕ) (at : ℕ) (vs : List ℕ) → stand s at vs ≡ true → Stand s at vs
unfolding stand Stand
stands s at [] t = tt
stands s at (v ∷ vs) t = let w = both (eqb (number 2 s at) v) (stand s (at + 2) vs) t in (eqb-true (number 2 s at) v w.0, stands s (at + 2) vs w.1)

pub does_stand : (s : List ℕ) (at : ℕ) (vs : List ℕ) → Stand s at vs → stand s at vs ≡ true
unfolding stand Stand
does_stand s at [] w = refl
does_stand s at (v ∷ vs) w = rw (eq-eqb (number 2 s at) v w.0) (does_stand s (at + 2) vs w.1)

-- what the tests on a head say
pub record Head (ts : List Table) (s : List ℕ) : Type 0 where
  pub few : count_in s ≤ 256
  pub stands : Stand s 2 (starts_of ts (count_in s))
  pub long : length s ≡ page_length ts (count_in s)

pub head-says : (ts : List Table) (s : List ℕ) → head_keeps ts s ≡ true → Head ts s
head-says ts s h =
    let a = leb (count_in s) 256 in
    let b = stand s 2 (starts_of ts (count_in s)) in
    let x = both (a && b) (eqb (length s) (page_length ts (count_in s))) h in
    let y = both a b x.0 in
    record { few = leb-true (count_in s) 256 y.0; stands = stands s 2 (starts_of ts (count_in s)) y.1; long = eqb-true (length s) (page_length ts (count_in s)) x.1 }

pub head_so : (ts : List Table) (s : List ℕ) → count_in s ≤ 256 → Stand s 2 (starts_of ts (count_in s)) → length s ≡ page_length ts (count_in s)
    → head_keeps ts s ≡ true
head_so ts s few w long = rw (le-leb _ _ few, does_stand s 2 (starts_of ts (count_in s)) w, eq-eqb _ _ long)

pub part-octets : (t : Table) (s : List ℕ) (at : ℕ) (r : Row) → Octets s → at + row_wide t ≤ length s
    → row_octets t (part_at t s at r) ≡ take (row_wide t) (drop at s)
part-octets columns.Keys s at r o h = octets-number 4 s at h o
part-octets columns.Readings s at r o h = rw (octets-number 8 s at (omega arith) o, octets-number 4 s (at + 8) (omega arith) o) (parts s at 8 4)
part-octets columns.Times s at r o h = octets-number 4 s at h o

stand-put : (s : List ℕ) → Octets s → (vs : List ℕ) (at : ℕ) → at + 2 * length vs ≤ length s → Stand s at vs → twos vs ≡ take (2 * length vs) (drop at s)
unfolding Stand twos
stand-put s o [] at h w = refl
stand-put s o (v ∷ vs) at h w =
    let e : 2 + 2 * length vs ≡ 2 * length (v ∷ vs) = omega arith in
    let first : octets 2 v ≡ take 2 (drop at s) = ap (octets 2) (sym w.0) ∙ octets-number 2 s at (omega arith) o in
    rw (first, stand-put s o vs (at + 2) (omega arith) w.1, ← e) (parts s at 2 (2 * length vs))

-- rows whose tables have the octets of s where they lie
unfoldable pub Lie : List ℕ → (ℕ → Row) → ℕ → ℕ → ℕ → List Table → Type 0
Lie s row long w n [] = Unit {0}
Lie s row long w n (t ∷ ts) =
    ((i : ℕ) → i < n → row_octets t (row i) ≡ take (row_wide t) (drop (long + w * n + row_wide t * i) s)) × Lie s row long (w + row_wide t) n ts

tables-put : (ts : List Table) (s : List ℕ) (row : ℕ → Row) (long w n : ℕ) → Lie s row long w n ts
    → tables ts (map row (upto n)) ≡ take (row_long ts * n) (drop (long + w * n) s)
unfolding Lie tables row_long
tables-put [] s row long w n l = rw (zero-mul n)
tables-put (t ∷ ts) s row long w n l =
    let k = row_wide t in
    let at = long + w * n in
    let next : long + (w + k) * n ≡ at + k * n = rw (add-mul w k n) (omega arith) in
    rw (
      table-put (row_octets t) k (row-wide t) s row n at l.0 n (omega arith),
      tables-put ts s row long (w + k) n l.1,
      next,
      add-mul k (row_long ts) n,
    ) (parts s at (k * n) (row_long ts * n))

module _ (ts : List Table) (s : List ℕ) (o : Octets s) (w : Head ts s) where
  abbrev n : ℕ
  n = count_in s

  head-put : head_of ts n ≡ take (head_long ts) (drop 0 s)
  unfolding twos
  head-put =
      let vs = starts_of ts n in
      let k : length vs ≡ 1 + length ts = starts-many (head_long ts) 0 n ts in
      let h : head_long ts ≤ length s = rw w.long (omega arith) in
      let e : 2 + 2 * length vs ≡ head_long ts = omega arith in
      ap₂ ◌++◌ (octets-number 2 s 0 (omega arith) o) (stand-put s o vs 2 (omega arith) w.stands) ∙ parts s 0 2 (2 * length vs)
      ∙ ap (λ m. take m (drop 0 s)) e

  -- The rows of a page give the page.
  pub page-rows : Lie s (row_at ts s n) (head_long ts) 0 n ts → page_of ts (rows_in ts s) ≡ s
  page-rows lies =
      let e : head_long ts + 0 * n ≡ 0 + head_long ts = omega arith in
      rw (listed-many (row_at ts s n) n, head-put, tables-put ts s (row_at ts s n) (head_long ts) 0 n lies, e, parts s 0 (head_long ts) (row_long ts * n))
      (take_all (page_length ts n) s (omega (arith, w.long)))

-- the numbers of a page are small
part_small : (t : Table) (s : List ℕ) (at : ℕ) (r : Row) → Octets s → Small r → Small (part_at t s at r)
part_small columns.Keys s at r o w = (number_lt 4 s at o, w.1, w.2, w.3)
part_small columns.Readings s at r o w = (w.0, number_lt 8 s at o, number_lt 4 s (at + 8) o, w.3)
part_small columns.Times s at r o w = (w.0, w.1, w.2, number_lt 4 s at o)

from-small : (ts : List Table) (s : List ℕ) (long w n i : ℕ) (r : Row) → Octets s → Small r → Small (row_from s long w n i ts r)
unfolding row_from
from-small [] s long w n i r o small = small
from-small (t ∷ ts) s long w n i r o small = from-small ts s long (w + row_wide t) n i _ o (part_small t s _ r o small)

pub small_in : (ts : List Table) (s : List ℕ) → Octets s → Each Small (rows_in ts s)
small_in ts s o =
    let n = count_in s in
    each_from Small (rows_in ts s) (λ i l.
    subst Small (sym (at-upto (row_at ts s n) (new_row 0) i n (rw (listed-many (row_at ts s n) n) at l)))
    (from-small ts s (head_long ts) 0 n i (new_row 0) o (omega arith, omega arith, omega arith, omega arith)))
