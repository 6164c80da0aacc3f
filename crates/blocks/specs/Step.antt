-- One record and the cursor behind it, or the refusal and the offset of the faulty record's first octet.
use Rattle.std.specs.Prelude.{ℕ, Result, Ok, Err}
use Rattle.octets.specs.Refusals.{number_of}
use Rattle.blocks.specs.declared.fault.Fault.{Fault}
use Rattle.blocks.specs.declared.record.Record.{Record}
use Rattle.blocks.specs.declared.cursor.Cursor.{Cursor}
use Rattle.blocks.specs.declared.cursor.Taken.{Taken as CodeTaken}

pub data Step : Type 0 where
  Taken : Record → Cursor → Step
  Refused : ℕ → ℕ → Step

-- the code's answer
abbrev pub as_step : Result CodeTaken Fault → Step
as_step (Ok t) = Taken t.taken t.next
as_step (Err f) = Refused (number_of f.refusal) f.at
