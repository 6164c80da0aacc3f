-- Where a run of records stands and how many it has passed, or the number that refuses one and the offset of its first octet.
use Rattle.std.specs.Prelude.{ℕ, Result, Ok, Err}
use Rattle.octets.specs.Refusals.{number_of}
use Rattle.blocks.specs.declared.fault.Fault.{Fault}
use Rattle.blocks.specs.declared.walk.Walked.{Walked as CodeWalked}

pub data Walked : Type 0 where
  To : ℕ → ℕ → Walked
  Refused : ℕ → ℕ → Walked

-- the code's answer
abbrev pub as_walked : Result CodeWalked Fault → Walked
as_walked (Ok w) = To w.at w.count
as_walked (Err f) = Refused (number_of f.refusal) f.at
