-- A refusal number, 0 for none, and the ledger that goes with it.
use Rattle.std.specs.Prelude.{ℕ}
use Rattle.octets.specs.Refusals.{refusal_in}
use Rattle.ledger.specs.declared.Ledger.{Ledger}
use Rattle.ledger.specs.declared.Answer.{Answer as CodeAnswer}

pub record Answer : Type 0 where
  pub refusal : ℕ
  pub ledger : Ledger

-- the code's answer
abbrev pub as_answer : CodeAnswer → Answer
as_answer a = record { refusal = refusal_in a.answer; ledger = a.ledger }
