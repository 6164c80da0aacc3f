-- The ledger as a page (01 "Ledger", 02 §5), high octet first: the row count n, where each table begins, and the length, two octets each; then the
-- tables, of which each has some columns of every row in turn. It is one definition over the tables that a page has.
use Rattle.std.specs.Prelude.{Bool, true, ◌&&◌, List, [], ◌∷◌, ◌++◌, map, ◌≡◌, ℕ, ◌+◌, ◌*◌, leb, eqb, length}
use Rattle.octets.specs.Choice.{pick}
use Rattle.octets.specs.Numbers.{number, octets}
use Rattle.octets.specs.Outcomes.{Outcome, no, puts}
use Rattle.octets.specs.Refusals.{rules_broken}
use Rattle.rows.specs.Rows.{Row, no_time, new_row}
use Rattle.rows.specs.Order.{upto}
use Rattle.rows.specs.Posting.{Each}
use Rattle.ledger.specs.Ledgers.{answer, rows_of, table, cells_of, keeps_rules}
use Rattle.ledger.specs.Answer.{Answer}
use Rattle.pages.specs.declared.forms.Form.{Form}
use Rattle.pages.specs.declared.forms.Form.TheVariants as form
use Rattle.pages.specs.declared.forms.Table.{Table}
use Rattle.pages.specs.declared.forms.Table.TheVariants as columns

-- The tables

-- the keys have 4 octets; for each row the life count has 8 and the reading 4; the times have 4
abbrev pub row_octets : Table → Row → List ℕ
row_octets columns.Keys r = octets 4 r.key
row_octets columns.Readings r = octets 8 r.life ++ octets 4 r.reading
row_octets columns.Times r = octets 4 r.time

abbrev pub row_wide : Table → ℕ
row_wide columns.Keys = 4
row_wide columns.Readings = 12
row_wide columns.Times = 4

-- a row with what a table has of it at an offset
abbrev pub part_at : Table → List ℕ → ℕ → Row → Row
part_at columns.Keys s at r = record { key = number 4 s at; life = r.life; reading = r.reading; time = r.time }
part_at columns.Readings s at r = record { key = r.key; life = number 8 s at; reading = number 4 s (at + 8); time = r.time }
part_at columns.Times s at r = record { key = r.key; life = r.life; reading = r.reading; time = number 4 s at }

-- An old page has no times (01), a new one has them (02 §5)

abbrev pub old : List Table
old = Table.Keys ∷ Table.Readings ∷ []

abbrev pub new : List Table
new = Table.Keys ∷ Table.Readings ∷ Table.Times ∷ []

abbrev pub tables_of : Form → List Table
tables_of form.Old = old
tables_of form.New = new

-- The head

-- its octets, and the octets that all tables have of a row
abbrev pub head_long : List Table → ℕ
head_long ts = 4 + 2 * length ts

unfoldable pub row_long : List Table → ℕ
row_long [] = 0
row_long (t ∷ ts) = row_wide t + row_long ts

abbrev pub page_length : List Table → ℕ → ℕ
page_length ts n = head_long ts + row_long ts * n

-- where tables begin that have w octets of each row before them, and where the last one ends
unfoldable pub starts : ℕ → ℕ → ℕ → List Table → List ℕ
starts long w n [] = (long + w * n) ∷ []
starts long w n (t ∷ ts) = (long + w * n) ∷ starts long (w + row_wide t) n ts

-- of an old page 8, 8 + 4n, 8 + 16n; of a new one 10, 10 + 4n, 10 + 16n, 10 + 20n (proofs/Examples.antt `old-head`, `new-head`)
abbrev pub starts_of : List Table → ℕ → List ℕ
starts_of ts n = starts (head_long ts) 0 n ts

-- Storing

-- numbers of two octets each
unfoldable pub twos : List ℕ → List ℕ
twos [] = []
twos (v ∷ vs) = octets 2 v ++ twos vs

unfoldable pub tables : List Table → List Row → List ℕ
tables [] rows = []
tables (t ∷ ts) rows = table (row_octets t) rows ++ tables ts rows

abbrev pub head_of : List Table → ℕ → List ℕ
head_of ts n = twos (n ∷ starts_of ts n)

abbrev pub page_of : List Table → List Row → List ℕ
page_of ts rows = head_of ts (length rows) ++ tables ts rows

-- 16, then (within the room of the output) 12
unfoldable pub store_of : List Table → List ℕ → Outcome
store_of ts cells = pick (keeps_rules cells) (puts (page_of ts (rows_of cells))) (no rules_broken)

-- Loading

-- row i of n rows, with what these tables have of it
unfoldable pub row_from : List ℕ → ℕ → ℕ → ℕ → ℕ → List Table → Row → Row
row_from s long w n i [] r = r
row_from s long w n i (t ∷ ts) r = row_from s long (w + row_wide t) n i ts (part_at t s (long + w * n + row_wide t * i) r)

-- what a page does not have is as in a new row: of an old page all times are unknown
abbrev pub row_at : List Table → List ℕ → ℕ → ℕ → Row
row_at ts s n i = row_from s (head_long ts) 0 n i ts (new_row 0)

-- a page's row count, its rows, and its ledger
abbrev pub count_in : List ℕ → ℕ
count_in s = number 2 s 0

abbrev pub rows_in : List Table → List ℕ → List Row
rows_in ts s = map (row_at ts s (count_in s)) (upto (count_in s))

abbrev pub cells_in : List Table → List ℕ → List ℕ
cells_in ts s = cells_of (rows_in ts s)

-- numbers of two octets stand from an offset on
unfoldable pub stand : List ℕ → ℕ → List ℕ → Bool
stand s at [] = true
stand s at (v ∷ vs) = eqb (number 2 s at) v && stand s (at + 2) vs

-- a page has 256 rows at most, the offsets and the length that its row count gives, and exactly that length
abbrev pub head_keeps : List Table → List ℕ → Bool
head_keeps ts s = leb (count_in s) 256 && stand s 2 (starts_of ts (count_in s)) && eqb (length s) (page_length ts (count_in s))

abbrev pub page_keeps : List Table → List ℕ → Bool
page_keeps ts s = head_keeps ts s && keeps_rules (cells_in ts s)

-- any fault is 16, with a fresh ledger
unfoldable pub load_of : List Table → List ℕ → Answer
load_of ts s = pick (page_keeps ts s) (answer 0 (cells_in ts s)) (answer rules_broken (cells_of []))

-- Turning a page of some tables into one of others: 16 for any fault of the page given, then (within the room of the output) 12

unfoldable pub turn_of : List Table → List Table → List ℕ → Outcome
turn_of from to s = pick (page_keeps from s) (puts (page_of to (rows_in from s))) (no rules_broken)

-- what an old page keeps of a row, and rows of which no time is known
abbrev pub untimed : Row → Row
untimed r = record { key = r.key; life = r.life; reading = r.reading; time = no_time }

abbrev pub NoTimes : List Row → Type 0
NoTimes = Each (λ r. r.time ≡ no_time)
