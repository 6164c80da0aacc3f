-- LEN and the count of records, or the number that refuses the block and the offset of the faulty record's first octet.
use Rattle.std.specs.Prelude.{ℕ, Result, Ok, Err}
use Rattle.octets.specs.Refusals.{number_of}
use Rattle.blocks.specs.declared.fault.Fault.{Fault}
use Rattle.blocks.specs.declared.walk.Reading.{Reading as CodeReading}

pub data Reading : Type 0 where
  Accepted : ℕ → ℕ → Reading
  Refused : ℕ → ℕ → Reading

-- the code's answer
abbrev pub as_reading : Result CodeReading Fault → Reading
as_reading (Ok r) = Accepted r.len r.count
as_reading (Err f) = Refused (number_of f.refusal) f.at
