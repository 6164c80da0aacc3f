-- Laws of the sheet: a key spelled, the rows one by one, and how long it is at the most. Assumes nothing.
use mathlib.Core.List.{List, [], ◌∷◌, ◌++◌, map, flat_map, append-nil, append_assoc}
use mathlib.Core.Path.{◌≡◌, refl, sym, ap, ◌∙◌}
use Prim.Native.Nat.{ℕ, ◌+◌, ◌*◌, ◌≤◌, ◌<◌, ◌^◌}
use native.Mathlib.Numerals.{add-one}
use native.Mathlib.Omega.{arith}
use lib.ListN.{length, replicate, length-append}
use Rattle.octets.specs.Numbers.{octets, laid}
use Rattle.octets.proofs.Numbers.{length-octets}
use Rattle.rows.specs.Rows.{Row}
use Rattle.rows.specs.Order.{upto}
use Rattle.rows.specs.Posting.{Each}
use Rattle.ledger.specs.Ledgers.{row_in, count_of, rows_of, table}
use Rattle.ledger.specs.Steps.{Kept, Narrow}
use Rattle.ledger.proofs.CellLaws.{rows-many, rows_back}
use Rattle.ledger.proofs.RowPlaces.{each_from, each_at}
use Rattle.ledger.proofs.TableLaws.{listed_more}
use Rattle.feed.specs.Runs.{state, wear_of}
use Rattle.feed.specs.declared.totals.Totals.{Totals}
use Rattle.feed.proofs.CountedRuns.{Fits}
use Rattle.text.specs.Digits.{hex_pair}
use Rattle.text.specs.Quotes.{quoted}
use Rattle.text.specs.Gathered.{Gathered, put_all}
use Rattle.text.proofs.DecimalLaws.{decimal-most, decimal-short}
use Rattle.text.proofs.GatheredLaws.{put_then}
use Rattle.wear.specs.Sheets.{header_line, row_line, totals_line, sheet_of, longest, Printed}
use Rattle.wear.specs.Turns.{Worn}
use Rattle.wear.specs.declared.input.Turn.{Turn}

-- the four octets of a key fill their place
key_spelled : (key : ℕ) → laid (replicate 4 0) 0 (octets 4 key) ≡ octets 4 key
unfolding laid octets
key_spelled key = refl

pub key-put : (g g' : Gathered) (l : List ℕ) (key : ℕ) → l ≡ laid (replicate 4 0) 0 (octets 4 key) → g' ≡ put_all g (flat_map hex_pair l)
    → g' ≡ put_all g (flat_map hex_pair (octets 4 key))
key-put g g' l key e h = h ∙ ap (λ u. put_all g (flat_map hex_pair u)) (e ∙ key_spelled key)

-- The rows so far

table_more : (f : Row → List ℕ) (rows : List Row) (r : Row) → table f (rows ++ (r ∷ [])) ≡ table f rows ++ f r
unfolding table
table_more f [] r = append-nil (f r)
table_more f (x ∷ rows) r = ap (λ t. f x ++ t) (table_more f rows r) ∙ sym (append_assoc (f x) (table f rows) (f r))

module _ (cells : List ℕ) (g₀ : Gathered) where
  -- begun with g₀ and come to g, the first i rows are put
  abbrev pub RowsPut : Gathered → ℕ → Type 0
  RowsPut g i = g ≡ put_all g₀ (table row_line (map (row_in cells) (upto i)))

  pub rows_none : RowsPut g₀ 0
  unfolding table put_all upto
  rows_none = refl

  pub rows-one : (g g' : Gathered) (i : ℕ) (r : Row) → r ≡ row_in cells i → RowsPut g i → g' ≡ put_all g (row_line r) → RowsPut g' (i + 1)
  rows-one g g' i r is w e =
      put_then g₀ g g' (table row_line (map (row_in cells) (upto i))) (row_line r) w e
      ∙ ap (put_all g₀) (ap (λ x. table row_line (map (row_in cells) (upto i)) ++ row_line x) is
      ∙ sym (table_more row_line (map (row_in cells) (upto i)) (row_in cells i))
      ∙ ap (table row_line) (sym (ap (λ j. map (row_in cells) (upto j)) (add-one i) ∙ listed_more (row_in cells) i)))

  pub rows_all : (g : Gathered) (i : ℕ) → i ≡ count_of cells → RowsPut g i → g ≡ put_all g₀ (table row_line (rows_of cells))
  unfolding rows_of
  rows_all g i e w = w ∙ ap (λ j. put_all g₀ (table row_line (map (row_in cells) (upto j)))) e

-- How long it is at the most

digits_long : (l : List ℕ) → length (flat_map hex_pair l) ≡ 2 * length l
unfolding flat_map
digits_long [] = refl
digits_long (x ∷ l) = omega (arith, digits_long l)

-- a life count has 64 bits, a reading 32
abbrev Wide : Row → Type 0
Wide r = (r.life < 2 ^ 64) × (r.reading < 2 ^ 32)

row-short : (r : Row) → Wide r → length (row_line r) ≤ 41
unfolding quoted
row-short r w =
    simp (length-append, digits_long, length-octets) (omega (arith, decimal-short r.life w.0, decimal-most r.reading 10 (omega arith) (omega arith)))

rows_short : (rows : List Row) → Each Wide rows → length (table row_line rows) ≤ 41 * length rows
unfolding table
rows_short [] w = omega arith
rows_short (r ∷ rows) w = rw length-append (omega (arith, row-short r w.0, rows_short rows w.1))

totals-short : (t : Totals) → Fits t → length (totals_line t) ≤ 117
unfolding quoted
totals-short t w =
    simp length-append
    (omega (
      arith,
      decimal-short t.accepted w.accepted,
      decimal-short t.refused w.refused,
      decimal-short t.posted w.posted,
      decimal-short t.unposted w.unposted,
    ))

kept-wide : (cells : List ℕ) → Kept cells → Each Wide (rows_of cells)
kept-wide cells k =
    each_from Wide (rows_of cells) (λ i m.
    (each_at (λ r. r.life < 2 ^ 64) (rows_of cells) k.good.lived i m, (each_at Narrow (rows_of cells) k.narrow i m).1))

pub sheet_short : (cells : List ℕ) → Kept cells → (t : Totals) → Fits t → length (sheet_of (state (rows_of cells) t)) ≤ longest
unfolding sheet_of quoted
sheet_short cells k t w =
    let lines = table row_line (rows_of cells) in
    omega (
      arith,
      length-append (header_line ++ lines) (totals_line t),
      length-append header_line lines,
      rows_short (rows_of cells) (kept-wide cells k),
      rows-many cells,
      k.few,
      totals-short t w,
    )

-- The sheet of a feed

pub worn_printed : (feed l : List ℕ) (last : Turn) → Worn feed l last → (xs : List ℕ)
    → xs ≡ sheet_of (state (rows_of l) last.totals) → Printed last xs
worn_printed feed l last w xs e = record {
  feed = feed;
  all = w.all;
  is = e ∙ (λ i. sheet_of (state ((ap rows_of w.rows ∙ rows_back (wear_of feed).rows) i) (w.totals i)));
}
