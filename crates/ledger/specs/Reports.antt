-- The report that octets and a record number are (01 "Ledger", refusals 1 to 11, 17 and 13).
use Rattle.std.specs.Prelude.{List, [], ◌∷◌, ℕ, zero, suc, ◌+◌}
use Rattle.octets.specs.Choice.{pick}
use Rattle.octets.specs.Refusals.{not_statistics}
use Rattle.blocks.specs.Statistics.{is_statistics, statistics_of, report_entry}
use Rattle.blocks.specs.Steps.{step_by, step_of}
use Rattle.blocks.specs.Walks.{read_of}
use Rattle.blocks.specs.declared.record.Record.{Record}
use Rattle.blocks.specs.Statistics.{Entry as Counter}
use Rattle.blocks.specs.declared.statistics.Statistics.{Statistics}
use Rattle.blocks.specs.Step.{Step}
use Rattle.blocks.specs.Step as step
use Rattle.blocks.specs.Reading.{Reading}
use Rattle.blocks.specs.Reading as reading
use Rattle.rows.specs.Rows.{Entry, key_of}
use Rattle.rows.specs.Posting.{Report, refused, counts}
use Rattle.ledger.specs.declared.entries.Entry.{Entry as CodeEntry}

-- the keys of a report's counters begin here: that of TYPE 0
abbrev pub first_key : Statistics → ℕ
first_key r = key_of r.sac r.sic r.service 0

-- An entry of 23/120 as it is added up: with its counter's key and its report's time
abbrev pub entry_of : Statistics → Counter → Entry
entry_of r c = record { key = first_key r + c.typ; time = r.time; reference = c.reference; count = c.count }

-- a report's entries: n from the k-th on, and all of them; those of a record
unfoldable pub entries_from : List ℕ → Statistics → ℕ → ℕ → List Entry
entries_from s r zero k = []
entries_from s r (suc n) k = entry_of r (report_entry s r.at k) ∷ entries_from s r n (suc k)

abbrev pub entries_at : List ℕ → Statistics → List Entry
entries_at s r = entries_from s r r.count 0

abbrev pub entries_of : List ℕ → Record → List Entry
entries_of s t = entries_at s (statistics_of t)

-- an entry that is handed on
abbrev pub as_entry : CodeEntry → Entry
as_entry e = record { key = e.key; time = e.time; reference = e.reference; count = e.count }

-- the report that a typed record is
unfoldable pub report_in : List ℕ → Record → Report
report_in s t = pick (is_statistics t) (counts (entries_of s t)) (refused not_statistics)

-- record k of a block: k steps from a start, and one that hands it out; 17 at LEN
unfoldable pub step_at : List ℕ → ℕ → ℕ → Step
step_at s zero start = step_of s start
step_at s (suc k) start = step_by Step.Refused (λ t next. step_at s k next) s start

abbrev pub report_at : List ℕ → Step → Report
report_at s (step.Refused n at) = refused n
report_at s (step.Taken t next) = report_in s t

-- the reader's refusals of the whole block first
abbrev pub report_by : List ℕ → ℕ → Reading → Report
report_by s k (reading.Refused n at) = refused n
report_by s k (reading.Accepted len count) = report_at s (step_at s k 3)

unfoldable pub report_of : List ℕ → ℕ → Report
report_of s k = report_by s k (read_of s)
