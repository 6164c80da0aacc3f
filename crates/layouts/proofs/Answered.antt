-- What a contract says of an end tells the code's answer. Assumes nothing.
use mathlib.Core.Path.{◌≡◌, ap}
use Prim.Native.Nat.{ℕ}
use Rattle.std.specs.Prelude.{Result, Ok, Err}
use Rattle.octets.specs.Refusals.{number_of}
use Rattle.octets.specs.declared.refusal.Refusal.{Refusal}
use Rattle.octets.proofs.Refusals.{number-same}
use Rattle.layouts.specs.End.{as_end}

pub end-same : (r q : Result ℕ Refusal) → as_end r ≡ as_end q → r ≡ q
end-same (Ok a) (Ok b) e = cc
end-same (Ok a) (Err q) e = cc
end-same (Err r) (Ok b) e = cc
end-same (Err r) (Err q) e =
    let n : number_of r ≡ number_of q = cc in
    ap Err (number-same r q n)
