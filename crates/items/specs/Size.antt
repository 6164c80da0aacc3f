-- How many octets a written item or record has, or the number that refuses it.
use Rattle.std.specs.Prelude.{ℕ, Result, Ok, Err}
use Rattle.octets.specs.Refusals.{number_of}
use Rattle.octets.specs.declared.refusal.Refusal.{Refusal}

pub data Size : Type 0 where
  Octets : ℕ → Size
  Refused : ℕ → Size

-- the code's answer
abbrev pub as_size : Result ℕ Refusal → Size
as_size (Ok n) = Octets n
as_size (Err r) = Refused (number_of r)
