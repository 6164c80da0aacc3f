-- What the contract of a feed at its door says of an answer tells the answer: different answers are different in the definitions' words. Assumes nothing.
use mathlib.Core.Path.{◌≡◌}
use Rattle.std.specs.Prelude.{Result, Ok, Err}
use Rattle.octets.specs.declared.refusal.Refusal.{Refusal}
use Rattle.octets.proofs.Refusals.{number-same}
use Rattle.doors.specs.Fed.{as_fed}
use Rattle.doors.specs.declared.feeds.Fed.{Fed}

pub fed-same : (r q : Result Fed Refusal) → as_fed r ≡ as_fed q → r ≡ q
fed-same (Ok a) (Ok b) e =
    let n : a.size ≡ b.size = cc in
    let d : a.done ≡ b.done = cc in
    λ i. Ok (record { size = n i; done = d i })
fed-same (Ok a) (Err q) e = cc
fed-same (Err r) (Ok b) e = cc
fed-same (Err r) (Err q) e = let n = number-same r q (cc) in λ i. Err (n i)
