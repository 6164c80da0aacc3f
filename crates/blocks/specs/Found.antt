-- One entry of 23/120 or of 242/550, or the refusal and its offset.
use Rattle.std.specs.Prelude.{ℕ, Result, Ok, Err}
use Rattle.octets.specs.Refusals.{number_of}
use Rattle.blocks.specs.declared.fault.Fault.{Fault}
use Rattle.items.specs.declared.typed.Counter.{Counter as CodeCounter}
use Rattle.items.specs.declared.typed.Version.{Version as CodeVersion}
use Rattle.blocks.specs.declared.cursor.Found.{Found as CodeFound}
use Rattle.blocks.specs.declared.cursor.Found.TheVariants as code

pub data Found : Type 0 where
  Counter : CodeCounter → Found
  Version : CodeVersion → Found
  Refused : ℕ → ℕ → Found

-- the code's answer
abbrev pub as_found : Result CodeFound Fault → Found
as_found (Ok (code.Counter c)) = Counter c
as_found (Ok (code.Version v)) = Version v
as_found (Err f) = Refused (number_of f.refusal) f.at
