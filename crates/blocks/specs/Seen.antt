-- A record of category 23 as the ledger sees it, with the next start: a statistics report's numbers, or another record.
use Rattle.std.specs.Prelude.{ℕ, Option, Some, None}
use Rattle.blocks.specs.declared.statistics.Statistics.{Statistics}
use Rattle.blocks.specs.declared.statistics.Seen.{Seen as CodeSeen}

pub data Seen : Type 0 where
  Report : Statistics → ℕ → Seen
  Other : ℕ → Seen

abbrev seen_by : ℕ → Option Statistics → Seen
seen_by next (Some report) = Report report next
seen_by next None = Other next

-- the code's answer
abbrev pub as_seen : CodeSeen → Seen
as_seen s = seen_by s.next s.report
