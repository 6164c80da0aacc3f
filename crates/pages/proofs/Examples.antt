-- Pages in octets (01 "Ledger", 02 §5), and a midnight between two pages (02 §4), computed; a wrong one is refused. Assumes nothing.
use mathlib.Core.Bool.{false}
use mathlib.Core.List.{List, [], ◌∷◌, ◌++◌}
use mathlib.Core.Path.{◌≡◌, refl}
use Prim.Native.Nat.{ℕ, ◌+◌, ◌*◌}
use native.Mathlib.Omega.{arith}
use Rattle.octets.specs.Numbers.{number, octets}
use Rattle.rows.specs.Rows.{Row, no_time, add_up, row_of}
use Rattle.rows.specs.Order.{upto}
use Rattle.rows.specs.Posting.{Report, counts, names, new_keys, add_entry, add_all, passes, post_rows, after}
use Rattle.ledger.specs.Ledgers.{table}
use Rattle.pages.specs.Pages.{old, new, row_long, page_length, starts, starts_of, twos, tables, page_of, row_from, rows_in, stand, head_keeps}

-- The heads: n, 8, 8 + 4n, 8 + 16n (01), and n, 10, 10 + 4n, 10 + 16n, 10 + 20n (02 §5)

old-head : (n : ℕ) → starts_of old n ≡ 8 ∷ (8 + 4 * n) ∷ (8 + 16 * n) ∷ []
unfolding starts
old-head n = let z : 8 + 0 * n ≡ 8 = omega arith in rw z

new-head : (n : ℕ) → starts_of new n ≡ 10 ∷ (10 + 4 * n) ∷ (10 + 16 * n) ∷ (10 + 20 * n) ∷ []
unfolding starts
new-head n = let z : 10 + 0 * n ≡ 10 = omega arith in rw z

old-length : (n : ℕ) → page_length old n ≡ 8 + 16 * n
unfolding row_long
old-length n = refl

new-length : (n : ℕ) → page_length new n ≡ 10 + 20 * n
unfolding row_long
new-length n = refl

-- The page of P8's row, which is an old one now; the same as a new page, at 10:00 and with no known time

abbrev row : ℕ → ℕ → ℕ → Row
row life reading time = record { key = 0x01021204; life = life; reading = reading; time = time }

abbrev pub p8 : List ℕ
p8 =
    0x00 ∷ 0x01 ∷ 0x00 ∷ 0x08 ∷ 0x00 ∷ 0x0C ∷ 0x00 ∷ 0x18 ∷ 0x01 ∷ 0x02 ∷ 0x12 ∷ 0x04
    ∷ 0x00 ∷ 0x00 ∷ 0x00 ∷ 0x00 ∷ 0x00 ∷ 0x00 ∷ 0x00 ∷ 0xB9 ∷ 0x00 ∷ 0x00 ∷ 0x00 ∷ 0x1E ∷ []

abbrev pub p8-new : List ℕ → List ℕ
p8-new time =
    0x00 ∷ 0x01 ∷ 0x00 ∷ 0x0A ∷ 0x00 ∷ 0x0E ∷ 0x00 ∷ 0x1A ∷ 0x00 ∷ 0x1E ∷ 0x01 ∷ 0x02 ∷ 0x12 ∷ 0x04
    ∷ 0x00 ∷ 0x00 ∷ 0x00 ∷ 0x00 ∷ 0x00 ∷ 0x00 ∷ 0x00 ∷ 0xB9 ∷ 0x00 ∷ 0x00 ∷ 0x00 ∷ 0x1E ∷ time

abbrev pub unknown : List ℕ
unknown = 0xFF ∷ 0xFF ∷ 0xFF ∷ 0xFF ∷ []

abbrev pub ten : List ℕ
ten = 0x00 ∷ 0x46 ∷ 0x50 ∷ 0x00 ∷ []

p8-stored : page_of old (row 185 30 no_time ∷ []) ≡ p8
unfolding table tables starts twos octets
p8-stored = refl

new-stored : page_of new (row 185 30 (10 * 3600 * 128) ∷ []) ≡ p8-new ten
unfolding table tables starts twos octets
new-stored = refl

unknown-stored : page_of new (row 185 30 no_time ∷ []) ≡ p8-new unknown
unfolding table tables starts twos octets
unknown-stored = refl

-- an old page has no known time; a new one its own
p8-rows : rows_in old p8 ≡ row 185 30 no_time ∷ []
unfolding row_from number upto
p8-rows = refl

new-rows : rows_in new (p8-new ten) ≡ row 185 30 (10 * 3600 * 128) ∷ []
unfolding row_from number upto
new-rows = refl

-- an old page is no new one, nor the reverse
not_new : head_keeps new p8 ≡ false
unfolding stand starts number row_long
not_new = refl

not_old : head_keeps old (p8-new ten) ≡ false
unfolding stand starts number row_long
not_old = refl

-- Two rows: a table has both before the next begins, and a life count stands beside its reading

abbrev two : ℕ → List Row
two time = record { key = 1; life = 0x0203; reading = 4; time = time } ∷ record { key = 5; life = 0x0607; reading = 8; time = no_time } ∷ []

abbrev readings : List ℕ
readings =
    0 ∷ 0 ∷ 0 ∷ 0 ∷ 0 ∷ 0 ∷ 0x02 ∷ 0x03 ∷ 0 ∷ 0 ∷ 0 ∷ 0x04 ∷ 0 ∷ 0 ∷ 0 ∷ 0 ∷ 0 ∷ 0 ∷ 0x06 ∷ 0x07 ∷ 0 ∷ 0 ∷ 0 ∷ 0x08 ∷ []

abbrev two-old : List ℕ
two-old = 0 ∷ 0x02 ∷ 0 ∷ 0x08 ∷ 0 ∷ 0x10 ∷ 0 ∷ 0x28 ∷ 0 ∷ 0 ∷ 0 ∷ 0x01 ∷ 0 ∷ 0 ∷ 0 ∷ 0x05 ∷ readings

abbrev two-new : List ℕ
two-new =
    0 ∷ 0x02 ∷ 0 ∷ 0x0A ∷ 0 ∷ 0x12 ∷ 0 ∷ 0x2A ∷ 0 ∷ 0x32 ∷ 0 ∷ 0 ∷ 0 ∷ 0x01 ∷ 0 ∷ 0 ∷ 0 ∷ 0x05
    ∷ (readings ++ (0 ∷ 0 ∷ 0 ∷ 0x09 ∷ 0xFF ∷ 0xFF ∷ 0xFF ∷ 0xFF ∷ []))

two_old-stored : page_of old (two 9) ≡ two-old
unfolding table tables starts twos octets
two_old-stored = refl

two-new-stored : page_of new (two 9) ≡ two-new
unfolding table tables starts twos octets
two-new-stored = refl

two_old-rows : rows_in old two-old ≡ two no_time
unfolding row_from number upto
two_old-rows = refl

two-new-rows : rows_in new two-new ≡ two 9
unfolding row_from number upto
two-new-rows = refl

-- A midnight between two pages

-- the counter of P8, and a report with a count since midnight, so many hours after it
abbrev report : ℕ → ℕ → Report
report hours count = counts (record { key = 0x01021204; time = hours * 3600 * 128; reference = 0; count = count } ∷ [])

-- 100 at 20:00, stored as a page
abbrev page : List ℕ
page = page_of new (after add_up [] (report 20 100 ∷ []))

-- loaded, it has its time
loaded : rows_in new page ≡ row 100 100 (20 * 3600 * 128) ∷ []
unfolding add_up add_entry add_all row_of names new_keys passes post_rows after table tables starts twos octets row_from number upto
loaded = refl

-- so 150 at 12:00 is after a midnight, and adds all of it
then_earlier : after add_up (rows_in new page) (report 12 150 ∷ []) ≡ row 250 150 (12 * 3600 * 128) ∷ []
unfolding add_up add_entry add_all row_of names new_keys passes post_rows after table tables starts twos octets row_from number upto
then_earlier = refl
