-- What a contract says of an answer tells the answer: different answers are different in the definitions' words. Assumes nothing.
use mathlib.Core.Path.{◌≡◌, ap}
use Prim.Native.Nat.{ℕ}
use Rattle.std.specs.Prelude.{Result, Ok, Err}
use Rattle.octets.specs.Refusals.{number_of}
use Rattle.octets.specs.Written.{as_written}
use Rattle.octets.specs.declared.refusal.Refusal.{Refusal}
use Rattle.octets.proofs.Refusals.{number-same}

pub written-same : (r q : Result ℕ Refusal) → as_written r ≡ as_written q → r ≡ q
written-same (Ok a) (Ok b) e = cc
written-same (Ok a) (Err q) e = cc
written-same (Err r) (Ok b) e = cc
written-same (Err r) (Err q) e =
    let n : number_of r ≡ number_of q = cc in
    ap Err (number-same r q n)
