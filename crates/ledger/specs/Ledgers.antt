-- A ledger: its numbers in their places, its rows, the ledger of a list of rows, and the ledger's rules (01 "Ledger", 02 §4).
use Rattle.std.specs.Prelude.{Bool, true, ◌&&◌, ◌||◌, List, [], ◌∷◌, ◌++◌, map, ◌≡◌, ℕ, zero, suc, ◌+◌, ◌*◌, ◌-◌, ◌<◌, ◌^◌, leb, ltb, eqb, length, get_or, replicate}
use Rattle.std.proofs.lemmas.List.Edits.{sets}
use Rattle.octets.specs.Choice.{pick}
use Rattle.octets.specs.Refusals.{rules_broken}
use Rattle.rows.specs.Rows.{Row, no_time, new_row}
use Rattle.rows.specs.Order.{upto}
use Rattle.blocks.specs.Statistics.{latest_time}
use Rattle.ledger.specs.Answer.{Answer}
use Rattle.ledger.specs.declared.cells.Row.{Row as CodeRow}

-- The cells: first the ledger's own numbers, of which the row count is the first; then 256 places of a row's numbers

abbrev pub head : ℕ
head = 1

abbrev pub wide : ℕ
wide = 4

abbrev pub ledger_cells : ℕ
ledger_cells = head + wide * 256

abbrev pub row_cells : Row → List ℕ
row_cells r = r.key ∷ r.life ∷ r.reading ∷ r.time ∷ []

abbrev pub row_place : ℕ → ℕ
row_place i = head + wide * i

abbrev pub row_in : List ℕ → ℕ → Row
row_in cells i = record {
  key = get_or cells (row_place i + 0) 0;
  life = get_or cells (row_place i + 1) 0;
  reading = get_or cells (row_place i + 2) 0;
  time = get_or cells (row_place i + 3) 0;
}

-- the rows: of the first places, as many as the row count says
abbrev pub count_of : List ℕ → ℕ
count_of cells = get_or cells 0 0

unfoldable pub rows_of : List ℕ → List Row
rows_of cells = map (row_in cells) (upto (count_of cells))

-- a table: the numbers of each row in turn
unfoldable pub table : (Row → List ℕ) → List Row → List ℕ
table f [] = []
table f (r ∷ rows) = f r ++ table f rows

-- the ledger of rows: in places past the row count key, life count and reading are 0, and no time is known
unfoldable pub cells_of : List Row → List ℕ
cells_of rows = length rows ∷ table row_cells (rows ++ replicate (256 - length rows) (new_row 0))

-- a ledger whose rows are changed, and one with a row put into a place
abbrev pub changed : (List Row → List Row) → List ℕ → List ℕ
changed f cells = cells_of (f (rows_of cells))

abbrev pub put_row : List ℕ → ℕ → Row → List ℕ
put_row cells i r = sets cells (row_place i) (row_cells r)

-- a row that is handed on, and a refusal with the ledger that goes with it
abbrev pub as_row : CodeRow → Row
as_row r = record { key = r.key; life = r.life; reading = r.reading; time = r.time }

abbrev pub answer : ℕ → List ℕ → Answer
answer n cells = record { refusal = n; ledger = record { cells = cells } }

-- The rules, place by place

-- a time is a time of day, or none is known (02 §4)
abbrev pub time_keeps : ℕ → Bool
time_keeps time = leb time latest_time || eqb time no_time

-- a row's key and reading have 32 bits, the reading does not exceed the life count, and the time keeps its rule
abbrev pub row_keeps : Row → Bool
row_keeps r = ltb r.key (2 ^ 32) && leb r.reading r.life && ltb r.reading (2 ^ 32) && time_keeps r.time

-- its key is above the one before it
abbrev pub rises : List ℕ → ℕ → Bool
rises cells i = eqb i 0 || ltb (row_in cells (i - 1)).key (row_in cells i).key

-- in a place past the row count key, life count and reading are 0, and no time is known
abbrev pub row_empty : Row → Bool
row_empty r = eqb r.key 0 && eqb r.life 0 && eqb r.reading 0 && eqb r.time no_time

abbrev pub place_keeps : List ℕ → ℕ → Bool
place_keeps cells i = pick (ltb i (count_of cells)) (rises cells i && row_keeps (row_in cells i)) (row_empty (row_in cells i))

unfoldable pub all_below : ℕ → (ℕ → Bool) → Bool
all_below zero p = true
all_below (suc n) p = all_below n p && p n

-- a row count of 256 at most, and each of the 256 places
unfoldable pub keeps_rules : List ℕ → Bool
keeps_rules cells = leb (count_of cells) 256 && all_below 256 (place_keeps cells)

abbrev pub rules_refusal : List ℕ → ℕ
rules_refusal cells = pick (keeps_rules cells) 0 rules_broken

-- what the type says of every ledger: so many cells, of 64 bits
pub record Held (cells : List ℕ) : Type 0 where
  pub long : length cells ≡ ledger_cells
  pub small : (i : ℕ) → get_or cells i 0 < 2 ^ 64
