-- Where an item ends: the octet after its last one, or the number that refuses it.
use Rattle.std.specs.Prelude.{ℕ, Result, Ok, Err}
use Rattle.octets.specs.Refusals.{number_of}
use Rattle.octets.specs.declared.refusal.Refusal.{Refusal}

pub data End : Type 0 where
  At : ℕ → End
  Refused : ℕ → End

-- the code's answer
abbrev pub as_end : Result ℕ Refusal → End
as_end (Ok at) = At at
as_end (Err r) = Refused (number_of r)
