-- What a contract says of an answer tells the answer: different answers are different in the definitions' words. Assumes nothing.
use mathlib.Core.Path.{◌≡◌, refl, ap}
use Rattle.std.specs.Prelude.{Result, Ok, Err}
use Rattle.octets.specs.Refusals.{refusal_in}
use Rattle.octets.specs.declared.refusal.Refusal.{Refusal}
use Rattle.octets.proofs.Refusals.{number-same, number-some}
use Rattle.ledger.specs.Answer.{Answer, as_answer}
use Rattle.ledger.specs.declared.Answer.{Answer as CodeAnswer}

pub refused-same : (r q : Result (Unit {0}) Refusal) → refusal_in r ≡ refusal_in q → r ≡ q
refused-same (Ok a) (Ok b) e = refl
refused-same (Ok a) (Err q) e = absurd (number-some q cc)
refused-same (Err r) (Ok b) e = absurd (number-some r e)
refused-same (Err r) (Err q) e = ap Err (number-same r q e)

pub answer-same : (a b : CodeAnswer) → as_answer a ≡ as_answer b → a ≡ b
answer-same a b e =
    let refused = refused-same a.answer b.answer (ap (λ (x : Answer). x.refusal) e) in
    (λ p. record { answer = refused p; ledger = (e p).ledger })
