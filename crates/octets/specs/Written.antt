-- What a writer into a lent output answers: how many octets were written, or the number that refused.
use Rattle.std.specs.Prelude.{ℕ, Result, Ok, Err}
use Rattle.octets.specs.Refusals.{number_of}
use Rattle.octets.specs.declared.refusal.Refusal.{Refusal}

pub data Written : Type 0 where
  Octets : ℕ → Written
  Refused : ℕ → Written

-- the code's answer
abbrev pub as_written : Result ℕ Refusal → Written
as_written (Ok k) = Octets k
as_written (Err r) = Refused (number_of r)
