-- What the ledger asks of a record, in plain numbers.
use Rattle.std.specs.Prelude.{Bool, ◌&&◌, List, ℕ, ◌+◌, ◌*◌, eqb}
use Rattle.octets.specs.Choice.{pick}
use Rattle.octets.specs.Refusals.{not_statistics}
use Rattle.layouts.specs.Categories.{cat23}
use Rattle.layouts.specs.Tables.{latest}
use Rattle.items.specs.Typed.{counter_of}
use Rattle.items.specs.declared.typed.Place.{Place}
use Rattle.items.specs.declared.typed.Service.{Service}
use Rattle.items.specs.declared.typed.Source.{Source}
use Rattle.items.specs.declared.typed.TimeOfDay.{TimeOfDay}
use Rattle.blocks.specs.Marks.{marked}
use Rattle.blocks.specs.Typed.{absent}
use Rattle.blocks.specs.Steps.{entry_group_of, entry_values}
use Rattle.blocks.specs.declared.record.Record.{Record}
use Rattle.blocks.specs.declared.statistics.Statistics.{Statistics}
use Rattle.items.specs.declared.typed.Counter.{Counter}
use Rattle.blocks.specs.Seen.{Seen}
use Rattle.blocks.specs.Seen as seen

-- a statistics report (01 "Refusal numbers", 13): category 23 type 3, with 010 (field 1), 015 (field 3) and 120 (field 9)
abbrev pub is_report : ℕ → ℕ → ℕ → Bool
is_report cat type marks = eqb cat cat23.cat && eqb type 3 && marked marks 1 && marked marks 3 && marked marks 9

abbrev pub is_statistics : Record → Bool
is_statistics t = is_report t.category t.message_type t.marks

-- its numbers: the octet of 015 has SID in bits 8/5 and STYP in bits 4/1
abbrev pub numbers_of : Source → Service → TimeOfDay → Place → Statistics
numbers_of source service time entries = record {
  sac = source.sac;
  sic = source.sic;
  service = service.sid * 16 + service.styp;
  time = time.0;
  at = entries.at;
  count = entries.count;
}

-- the greatest time that a report may have, for the ledger, which does not see the tables
abbrev pub latest_time : ℕ
latest_time = latest

abbrev pub statistics_of : Record → Statistics
statistics_of t = numbers_of t.source t.service t.time t.entries

-- an entry: TYPE, REF, count, for the ledger, which does not see the items
abbrev pub Entry : Type 0
Entry = Counter

-- entry k of 23/120, of those that lie from an offset
abbrev pub report_entry : List ℕ → ℕ → ℕ → Entry
report_entry s at k = counter_of (entry_values s (entry_group_of cat23.cat) at k)

-- of a record and the next start: a statistics report and its numbers, or another record
abbrev pub seen_of : Record → ℕ → Seen
seen_of t next = pick (is_statistics t) (Seen.Report (statistics_of t) next) (Seen.Other next)

-- The answer's cases, with document 01's number and values: 13 and no numbers for another record

pub record SeenListed : Type 0 where
  pub refusal : ℕ
  pub report : Statistics
  pub next : ℕ

abbrev pub seen_report : Statistics → ℕ → SeenListed
seen_report r next = record { refusal = 0; report = r; next = next }

abbrev pub seen_other : ℕ → SeenListed
seen_other next = record { refusal = not_statistics; report = statistics_of absent; next = next }

abbrev pub listed_seen : Seen → SeenListed
listed_seen (seen.Report r next) = seen_report r next
listed_seen (seen.Other next) = seen_other next

abbrev pub seen_listed : Record → ℕ → SeenListed
seen_listed t next = pick (is_statistics t) (seen_report (statistics_of t) next) (seen_other next)
