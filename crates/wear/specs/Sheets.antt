-- What is printed (01 "Worked examples", the program `wear`): a header, rows by key (8 hex digits, life count, reading, in decimal), then blocks
-- accepted and refused, records posted, and records answered 14 or 15.
use mathlib.Core.List.{List, ◌++◌, flat_map}
use Rattle.std.specs.Prelude.{◌≡◌, ℕ, ◌+◌, ◌*◌}
use Rattle.octets.specs.Numbers.{octets}
use Rattle.rows.specs.Rows.{Row}
use Rattle.ledger.specs.Ledgers.{table}
use Rattle.feed.specs.Runs.{State, wear_of}
use Rattle.feed.specs.declared.totals.Totals.{Totals}
use Rattle.text.specs.Digits.{hex_pair, decimal}
use Rattle.text.specs.Quotes.{quoted}
use Rattle.wear.specs.Turns.{AllCame}
use Rattle.wear.specs.declared.input.Turn.{Turn}

abbrev pub header_line : List ℕ
header_line = quoted "counter life reading\n"

abbrev pub line_of : ℕ → ℕ → ℕ → List ℕ
line_of key life reading = flat_map hex_pair (octets 4 key) ++ quoted " " ++ decimal life ++ quoted " " ++ decimal reading ++ quoted "\n"

abbrev pub row_line : Row → List ℕ
row_line r = line_of r.key r.life r.reading

abbrev pub totals_line : Totals → List ℕ
totals_line t =
    quoted "accepted " ++ decimal t.accepted
    ++ quoted " refused " ++ decimal t.refused
    ++ quoted " posted " ++ decimal t.posted
    ++ quoted " unposted " ++ decimal t.unposted
    ++ quoted "\n"

-- room for 256 rows: a life count has 20 digits at most, a reading 10
abbrev pub longest : ℕ
longest = 21 + 41 * 256 + 117

unfoldable pub sheet_of : State → List ℕ
sheet_of st = header_line ++ table row_line st.rows ++ totals_line st.totals

-- the sheet of a feed of which the reads have given all
pub record Printed (turn : Turn) (sheet : List ℕ) : Type 0 where
  pub feed : List ℕ
  pub all : AllCame feed turn
  pub is : sheet ≡ sheet_of (wear_of feed)
