-- A page written: the numbers of its head, and the tables, row by row. Assumes nothing.
use mathlib.Core.Path.{◌≡◌, refl, sym, ap, ◌∙◌}
use mathlib.Core.Bool.{true, false}
use mathlib.Core.List.{List, [], ◌∷◌, ◌++◌, map, append_assoc, append-nil}
use Prim.Native.Nat.{ℕ, ◌+◌, ◌*◌, ◌≤◌, ◌<◌}
use native.Mathlib.Nat.{mul-le-mul_left, mul-suc}
use native.Mathlib.Numerals.{add-one}
use native.Mathlib.Omega.{arith}
use lib.ListN.{length, length-append}
use Rattle.octets.specs.Numbers.{octets, laid}
use Rattle.octets.specs.Outcomes.{no, puts, within}
use Rattle.octets.specs.Refusals.{rules_broken, output_too_short}
use Rattle.octets.specs.Written.{Written}
use Rattle.octets.proofs.Numbers.{length-octets}
use Rattle.octets.proofs.Laying.{laid_none, length-laid, laid-laid}
use Rattle.octets.proofs.Outcomes.{Says, says-short, says-puts}
use Rattle.rows.specs.Rows.{Row}
use Rattle.rows.specs.Order.{upto}
use Rattle.ledger.specs.Ledgers.{row_in, count_of, rows_of, table, keeps_rules}
use Rattle.ledger.proofs.CellLaws.{rows-many}
use Rattle.ledger.proofs.TableLaws.{listed-many, listed_more, table-laid}
use Rattle.pages.specs.Pages.{row_octets, row_wide, tables_of, head_long, row_long, page_length, starts, twos, tables, head_of, page_of, store_of}
use Rattle.pages.specs.declared.forms.Form.{Form}
use Rattle.pages.specs.declared.forms.Table.{Table}
use Rattle.pages.specs.declared.forms.Table.TheVariants as columns
use Rattle.pages.proofs.FormLaws.{length-new, readings-fit}
use Rattle.pages.proofs.PageLaws.{row-wide, twos-long, head-long, tables-long, page-long}

-- octets laid where others end
behind : (l l' l'' : List ℕ) (o at : ℕ) (p q : List ℕ) → o + length p ≡ at → at ≤ length l → l' ≡ laid l o p → l'' ≡ laid l' at q
    → l'' ≡ laid l o (p ++ q)
behind l l' l'' o at p q n h e f = f ∙ ap (λ x. laid x at q) e ∙ rw n at (laid-laid l o p q (rw n h))

-- What a table has of a row, by the table

module _ (t : Table) (l l' : List ℕ) (at : ℕ) (r : Row) where
  module _ (e : t ≡ Table.Readings) (room : at + row_wide t ≤ length l) where
    pub readings-laid : (l'' : List ℕ) → l' ≡ laid l at (octets 8 r.life) → l'' ≡ laid l' (at + 8) (octets 4 r.reading)
        → l'' ≡ laid l at (row_octets t r)
    readings-laid l'' f g =
        rw e (behind l l' l'' at (at + 8) (octets 8 r.life) (octets 4 r.reading) (rw length-octets) (omega (arith, room, ap row_wide e)) f g)

pub wide-most : (t : Table) → row_wide t ≤ 12
wide-most columns.Keys = omega arith
wide-most columns.Readings = omega arith
wide-most columns.Times = omega arith

-- A table being filled from an offset on: the first i rows so far

pub record Filled (t : Table) (at : ℕ) (cells out₀ out : List ℕ) (i : ℕ) : Type 0 where
  pub long : length out ≡ length out₀
  pub is : out ≡ laid out₀ at (table (row_octets t) (map (row_in cells) (upto i)))

module _ (t : Table) (at : ℕ) (cells out₀ : List ℕ) where
  pub filled_none : Filled t at cells out₀ out₀ 0
  unfolding upto table octets
  filled_none = record { long = refl; is = sym (laid_none out₀ at 0) }

  module _ (out : List ℕ) (i : ℕ) (w : Filled t at cells out₀ out i) where
    -- of the ledger's n rows there is room for one more
    module _ (n : ℕ) (count : n ≡ count_of cells) (room : at + row_wide t * count_of cells ≤ length out₀) (l : i < n) where
      filled-room : at + row_wide t * i + row_wide t ≤ length out
      filled-room = omega (arith, w.long, mul-suc (row_wide t) i, mul-le-mul_left (row_wide t) (rw count at l))

      pub part_room : (wide : ℕ) → wide ≡ row_wide t → at + wide * i + row_wide t ≤ length out
      part_room wide e = rw e filled-room

      pub filled_more : (r : Row) → r ≡ row_in cells i
          → (out' : List ℕ) → length out' ≡ length out → out' ≡ laid out (at + row_wide t * i) (row_octets t r) → Filled t at cells out₀ out' (i + 1)
      filled_more r q out' same e =
          let f = row_octets t in
          let k = row_wide t in
          let rows = map (row_in cells) (upto i) in
          let m : length rows ≡ i = listed-many (row_in cells) i in
          let put = table-laid f k (row-wide t) out₀ at rows r (rw m (omega (arith, filled-room, w.long))) in
          record {
            long = same ∙ w.long;
            is = e ∙ ap (λ x. laid x (at + k * i) (f r)) w.is ∙ rw m at put
                ∙ ap (λ rs. laid out₀ at (table f rs)) (ap (λ x. rows ++ (x ∷ [])) q ∙ sym (ap (λ j. map (row_in cells) (upto j)) (add-one i) ∙ listed_more (row_in cells) i));
          }

    pub filled-all : i ≡ count_of cells → out ≡ laid out₀ at (table (row_octets t) (rows_of cells))
    unfolding rows_of
    filled-all e = rw e at w.is

-- The head

-- numbers of two octets, and one more behind them
twos-more : (vs : List ℕ) (v : ℕ) → twos (vs ++ (v ∷ [])) ≡ twos vs ++ octets 2 v
unfolding twos
twos-more [] v = append-nil (octets 2 v)
twos-more (x ∷ vs) v = rw (twos-more vs v) (sym (append_assoc (octets 2 x) (twos vs) (octets 2 v)))

more-laid : (vs : List ℕ) (v at : ℕ) (l l' l'' : List ℕ) → 2 * length vs ≡ at → at ≤ length l → l' ≡ laid l 0 (twos vs)
    → l'' ≡ laid l' at (octets 2 v) → l'' ≡ laid l 0 (twos (vs ++ (v ∷ [])))
more-laid vs v at l l' l'' k h e f =
    rw (twos-more vs v) (behind l l' l'' 0 at (twos vs) (octets 2 v) (rw (twos-long vs, k) (omega arith)) h e f)

-- the first four, and a fifth
module _ (a b c d : ℕ) (l l₁ l₂ l₃ l₄ : List ℕ) (room : 8 ≤ length l) (e₁ : l₁ ≡ laid l 0 (octets 2 a)) (e₂ : l₂ ≡ laid l₁ 2 (octets 2 b))
    (e₃ : l₃ ≡ laid l₂ 4 (octets 2 c)) (e₄ : l₄ ≡ laid l₃ 6 (octets 2 d)) where
  abbrev first-four : List ℕ
  first-four = a ∷ b ∷ c ∷ d ∷ []

  pub four-laid : l₄ ≡ laid l 0 (twos first-four)
  unfolding twos
  four-laid =
      let one : l₁ ≡ laid l 0 (twos (a ∷ [])) = rw (append-nil (octets 2 a)) e₁ in
      let two = more-laid (a ∷ []) b 2 l l₁ l₂ refl (omega arith) one e₂ in
      let three = more-laid (a ∷ b ∷ []) c 4 l l₂ l₃ refl (omega arith) two e₃ in
      more-laid (a ∷ b ∷ c ∷ []) d 6 l l₃ l₄ refl (omega arith) three e₄

  pub five_laid : (v : ℕ) (l₅ : List ℕ) → l₅ ≡ laid l₄ 8 (octets 2 v) → l₅ ≡ laid l 0 (twos (a ∷ b ∷ c ∷ d ∷ v ∷ []))
  five_laid v l₅ e₅ = more-laid first-four v 8 l l₄ l₅ refl room four-laid e₅

module _ (f : Form) (n long : ℕ) (e : long ≡ head_long (tables_of f)) (l l' : List ℕ) where
  pub head-old : f ≡ Form.Old → l' ≡ laid l 0 (twos (n ∷ long ∷ (long + 4 * n) ∷ (long + 16 * n) ∷ [])) → l' ≡ laid l 0 (head_of (tables_of f) n)
  unfolding starts
  head-old o is = let z : 8 + 0 * n ≡ 8 = omega arith in rw (o, z) (rw (e, o) at is)

  pub head-new : f ≡ Form.New → l' ≡ laid l 0 (twos (n ∷ long ∷ (long + 4 * n) ∷ (long + 16 * n) ∷ (long + 20 * n) ∷ []))
      → l' ≡ laid l 0 (head_of (tables_of f) n)
  unfolding starts
  head-new o is = let z : 10 + 0 * n ≡ 10 = omega arith in rw (o, z) (rw (e, o) at is)

-- The tables behind the head

tables_more : (ts : List Table) (t : Table) (rows : List Row) → tables (ts ++ (t ∷ [])) rows ≡ tables ts rows ++ table (row_octets t) rows
unfolding tables
tables_more [] t rows = append-nil (table (row_octets t) rows)
tables_more (x ∷ ts) t rows =
    rw (tables_more ts t rows) (sym (append_assoc (table (row_octets x) rows) (tables ts rows) (table (row_octets t) rows)))

-- of a page with these tables in all, the head and the first tables
abbrev pub begun : List Table → List Table → List Row → List ℕ
begun all ts rows = head_of all (length rows) ++ tables ts rows

module _ (all : List Table) (cells : List ℕ) where
  pub begun-none : (n : ℕ) → n ≡ count_of cells → (l l' : List ℕ) → l' ≡ laid l 0 (head_of all n) → l' ≡ laid l 0 (begun all [] (rows_of cells))
  unfolding tables
  begun-none n e l l' is = rw (append-nil (head_of all (length (rows_of cells))), rows-many cells, ← e) is

  pub begun_more : (ts : List Table) (t : Table) (at : ℕ) → at ≡ head_long all + row_long ts * count_of cells → (l l' l'' : List ℕ) → at ≤ length l
      → l' ≡ laid l 0 (begun all ts (rows_of cells)) → l'' ≡ laid l' at (table (row_octets t) (rows_of cells))
      → l'' ≡ laid l 0 (begun all (ts ++ (t ∷ [])) (rows_of cells))
  begun_more ts t at is l l' l'' h e f =
      let rows = rows_of cells in
      let long : 0 + length (begun all ts rows) ≡ at =
      rw (length-append, head-long all (length rows), tables-long ts rows, rows-many cells, is) (omega arith) in
      rw (tables_more ts t rows, ← append_assoc (head_of all (length rows)) (tables ts rows) (table (row_octets t) rows))
      (behind l l' l'' 0 at (begun all ts rows) (table (row_octets t) rows) long h e f)

  begun-long : (ts : List Table) (l l' : List ℕ) → head_long all + row_long ts * count_of cells ≤ length l
      → l' ≡ laid l 0 (begun all ts (rows_of cells)) → length l' ≡ length l
  begun-long ts l l' h e =
      let rows = rows_of cells in
      let long : length (begun all ts rows) ≡ head_long all + row_long ts * count_of cells =
      rw (length-append, head-long all (length rows), tables-long ts rows, rows-many cells) in
      ap length e ∙ length-laid l 0 (begun all ts rows) (rw long (omega arith))

-- the tables one after the other
module _ (f : Form) (cells : List ℕ) (n long : ℕ) (en : n ≡ count_of cells) (el : long ≡ head_long (tables_of f)) (l : List ℕ)
    (room : page_length (tables_of f) (count_of cells) ≤ length l) (l₁ : List ℕ) (e₁ : l₁ ≡ laid l 0 (head_of (tables_of f) n)) where
  abbrev all : List Table
  all = tables_of f

  fits : long + 16 * n ≤ length l
  fits = omega (arith, room, en, el, readings-fit f (count_of cells))

  headed : l₁ ≡ laid l 0 (begun all [] (rows_of cells))
  headed = begun-none all cells n en l l₁ e₁

  pub keys-room : (at : ℕ) → at ≡ long → at + 4 * count_of cells ≤ length l₁
  unfolding row_long
  keys-room at is = omega (arith, fits, en, begun-long all cells [] l l₁ (omega (arith, fits, el)) headed)

  module _ (l₂ : List ℕ) (at₁ : ℕ) (e₂ : l₂ ≡ laid l₁ at₁ (table (row_octets Table.Keys) (rows_of cells))) (is₁ : at₁ ≡ long) where
    keyed : l₂ ≡ laid l 0 (begun all (Table.Keys ∷ []) (rows_of cells))
    unfolding row_long
    keyed = begun_more all cells [] Table.Keys at₁ (omega (arith, is₁, el)) l l₁ l₂ (omega (arith, is₁, fits)) headed e₂

    pub readings-room : (at : ℕ) → at ≡ long + 4 * n → at + 12 * count_of cells ≤ length l₂
    unfolding row_long
    readings-room at is = omega (arith, fits, en, begun-long all cells (Table.Keys ∷ []) l l₂ (omega (arith, fits, en, el)) keyed)

    module _ (l₃ : List ℕ) (at₂ : ℕ) (e₃ : l₃ ≡ laid l₂ at₂ (table (row_octets Table.Readings) (rows_of cells))) (is₂ : at₂ ≡ long + 4 * n) where
      read : l₃ ≡ laid l 0 (begun all (Table.Keys ∷ Table.Readings ∷ []) (rows_of cells))
      unfolding row_long
      read =
          begun_more all cells (Table.Keys ∷ []) Table.Readings at₂ (omega (arith, is₂, en, el)) l l₂ l₃ (omega (arith, is₂, fits)) keyed e₃

      pub page-old : f ≡ Form.Old → l₃ ≡ laid l 0 (page_of all (rows_of cells))
      page-old o = read ∙ ap (λ ts. laid l 0 (begun all ts (rows_of cells))) (sym (ap tables_of o))

      module _ (o : f ≡ Form.New) where
        whole : long + 20 * n ≤ length l
        whole = omega (arith, room, en, el, length-new f (count_of cells) o, ap (λ g. head_long (tables_of g)) o)

        pub times-room : (at : ℕ) → at ≡ long + 16 * n → at + 4 * count_of cells ≤ length l₃
        unfolding row_long
        times-room at is =
            omega (arith, whole, en, begun-long all cells (Table.Keys ∷ Table.Readings ∷ []) l l₃ (omega (arith, fits, en, el)) read)

        pub page-new : (l₄ : List ℕ) (at₃ : ℕ) → l₄ ≡ laid l₃ at₃ (table (row_octets Table.Times) (rows_of cells)) → at₃ ≡ long + 16 * n
            → l₄ ≡ laid l 0 (page_of all (rows_of cells))
        unfolding row_long
        page-new l₄ at₃ e₄ is₃ =
            begun_more all cells (Table.Keys ∷ Table.Readings ∷ []) Table.Times at₃ (omega (arith, is₃, en, el)) l l₃ l₄ (omega (arith, is₃, fits)) read e₄
            ∙ ap (λ ts. laid l 0 (begun all ts (rows_of cells))) (sym (ap tables_of o))

-- What is to be put out for a ledger: 16, or its page

module _ (ts : List Table) (cells : List ℕ) where
  pub store_broken : keeps_rules cells ≡ false → store_of ts cells ≡ no rules_broken
  unfolding store_of
  store_broken f = rw f

  pub store_puts : keeps_rules cells ≡ true → store_of ts cells ≡ puts (page_of ts (rows_of cells))
  unfolding store_of
  store_puts t = rw t

-- What is answered of a page of n octets

module _ (ts : List Table) (cells : List ℕ) (n : ℕ) (q : n ≡ page_length ts (count_of cells)) where
  abbrev page : List ℕ
  page = page_of ts (rows_of cells)

  long : length page ≡ n
  long = page-long ts (rows_of cells) ∙ ap (page_length ts) (rows-many cells) ∙ sym q

  pub store_short : (out : List ℕ) → length out < n → Says out out (Written.Refused output_too_short) (within (length out) (puts page))
  store_short out h = says-short out (puts page) page refl (rw long h)

  pub store_whole : (out out' : List ℕ) → n ≤ length out → out' ≡ laid out 0 page → Says out out' (Written.Octets n) (within (length out) (puts page))
  store_whole out out' h is = says-puts out (puts page) page n refl long h out' is
