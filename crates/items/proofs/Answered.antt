-- What a contract says of a size tells the code's answer. Assumes nothing.
use mathlib.Core.Path.{◌≡◌, ap}
use Prim.Native.Nat.{ℕ}
use Rattle.std.specs.Prelude.{Result, Ok, Err}
use Rattle.octets.specs.Refusals.{number_of}
use Rattle.octets.specs.declared.refusal.Refusal.{Refusal}
use Rattle.octets.proofs.Refusals.{number-same}
use Rattle.items.specs.Size.{as_size}

pub size-same : (r q : Result ℕ Refusal) → as_size r ≡ as_size q → r ≡ q
size-same (Ok a) (Ok b) e = cc
size-same (Ok a) (Err q) e = cc
size-same (Err r) (Ok b) e = cc
size-same (Err r) (Err q) e =
    let n : number_of r ≡ number_of q = cc in
    ap Err (number-same r q n)
