-- What the functions inside the crate give each other: a ledger that keeps the rules, the place of a key, entries whose rows are known.
use Rattle.std.specs.Prelude.{true, Option, Some, None, IsSome, List, ◌≡◌, ℕ, ◌+◌, ◌*◌, ◌≤◌, ◌<◌, ◌^◌, length, get_or}
use Rattle.blocks.specs.Statistics.{latest_time, report_entry}
use Rattle.blocks.specs.Steps.{entry_group_of}
use Rattle.blocks.specs.declared.record.Record.{Record}
use Rattle.blocks.specs.declared.statistics.Statistics.{Statistics}
use Rattle.rows.specs.Rows.{Row, Entry}
use Rattle.rows.specs.Posting.{Each, Good}
use Rattle.ledger.specs.Ledgers.{row_in, count_of, rows_of, cells_of, time_keeps}
use Rattle.ledger.specs.Reports.{first_key}

-- a row's key and reading have 32 bits, and its time is a time of day or unknown
abbrev pub Narrow : Row → Type 0
Narrow r = (r.key < 2 ^ 32) × (r.reading < 2 ^ 32) × (time_keeps r.time ≡ true)

-- rows that keep the rules, these with the others
abbrev pub Ruled : List Row → Type 0
Ruled rows = Good rows × Each Narrow rows

-- a ledger that keeps the rules: its cells are those of its rows, and these keep them
pub record Kept (cells : List ℕ) : Type 0 where
  pub few : count_of cells ≤ 256
  pub rest : cells ≡ cells_of (rows_of cells)
  pub good : Good (rows_of cells)
  pub narrow : Each Narrow (rows_of cells)

-- an entry's key and count have 32 bits, and its time is a time of day
abbrev pub Few : Entry → Type 0
Few e = (e.key < 2 ^ 32) × (e.count < 2 ^ 32) × (e.time ≤ latest_time)

-- a report's entries of 23/120 lie in the octets, and its time is a time of day
pub record Reported (s : List ℕ) (r : Statistics) : Type 0 where
  pub entries : r.at + r.count * (entry_group_of 23).wide ≤ length s
  pub day : r.time ≤ latest_time

-- what holds of every record that a step hands out: its entries lie in the octets, SAC and SIC are octets, SID and STYP have four bits, and its
-- time is a time of day
pub record Lies (s : List ℕ) (t : Record) : Type 0 where
  pub room : t.entries.at + t.entries.count * (entry_group_of t.category).wide ≤ length s
  pub sac : t.source.sac < 256
  pub sic : t.source.sic < 256
  pub sid : t.service.sid < 16
  pub styp : t.service.styp < 16
  pub day : t.time.0 ≤ latest_time

-- a key has its row at a place
pub record RowAt (cells : List ℕ) (k i : ℕ) : Type 0 where
  pub inside : i < count_of cells
  pub same : (row_in cells i).key ≡ k

-- a key has no row, and the place where one would stand: every key before it is smaller, and every one from there on is greater
pub record GapAt (cells : List ℕ) (k i : ℕ) : Type 0 where
  pub within : i ≤ count_of cells
  pub below : (j : ℕ) → j < i → (row_in cells j).key < k
  pub above : (j : ℕ) → i ≤ j → j < count_of cells → k < (row_in cells j).key

-- what is noted of a report's counters, by TYPE: a place is that of the key's row, and no report brings its life count to the end
pub record Noted (cells : List ℕ) (first : ℕ) (places : List (Option ℕ)) : Type 0 where
  pub long : length places ≡ 256
  pub rows : (u i : ℕ) → u < 256 → get_or places u None ≡ Some i → RowAt cells (first + u) i
  pub far : (u i : ℕ) → u < 256 → get_or places u None ≡ Some i → (row_in cells i).life + 2 ^ 40 ≤ 2 ^ 64

-- each of a report's entries has a place noted
pub record Known (cells s : List ℕ) (r : Statistics) (places : List (Option ℕ)) : Type 0 where
  pub few : r.count < 256
  pub noted : Noted cells (first_key r) places
  pub each : (i : ℕ) → i < r.count → IsSome (get_or places (report_entry s r.at i).typ None)
