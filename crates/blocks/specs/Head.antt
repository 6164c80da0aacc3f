-- The category and LEN of a block, or the number that refuses it before its records.
use Rattle.std.specs.Prelude.{ℕ, Result, Ok, Err}
use Rattle.octets.specs.Refusals.{number_of}
use Rattle.octets.specs.declared.refusal.Refusal.{Refusal}
use Rattle.blocks.specs.declared.block.Block.{Block}

pub data Head : Type 0 where
  Good : ℕ → ℕ → Head
  Refused : ℕ → Head

-- the code's answer
abbrev pub as_head : Result Block Refusal → Head
as_head (Ok b) = Good b.cat b.window.len
as_head (Err r) = Refused (number_of r)
