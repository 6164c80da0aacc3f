-- The digits that io gives a number, no more than hold it, are the number in decimal; how many they are. Assumes nothing.
use mathlib.Core.Path.{◌≡◌, ap}
use mathlib.Core.List.{List, [], ◌∷◌, ◌++◌}
use Prim.Native.Nat.{ℕ, zero, suc, ◌+◌, ◌/◌, ◌%◌, ◌^◌, ◌≤◌, ◌<◌}
use native.Mathlib.Numerals.{sub-one}
use native.Mathlib.Omega.{arith}
use lib.Dec.{ltb}
use lib.ListN.{length, length-append}
use borrow.Author.Tests.{lt-ltb, le-ltb}
use Rattle.octets.proofs.Cases.{test}
use Rattle.io.specs.Digits.{hex_digit_ascii, last_digits, IsDigitCount}
use Rattle.text.specs.Digits.{decimal_within, decimal}

-- a digit alone
one_digit : (m n : ℕ) → n < 10 → hex_digit_ascii (n % 10) ∷ [] ≡ decimal_within (suc m) n
unfolding decimal_within
one_digit m n l = rw (lt-ltb (n % 10) 10 (omega arith), lt-ltb n 10 l) (ap (λ (x : ℕ). (48 + x) ∷ []) (omega arith))

-- the digits of the tenth, and one behind them
last_digit : (m n : ℕ) (xs : List ℕ) → 10 ≤ n → xs ≡ decimal_within m (n / 10) → xs ++ (hex_digit_ascii (n % 10) ∷ []) ≡ decimal_within (suc m) n
unfolding decimal_within
last_digit m n xs l e = rw (lt-ltb (n % 10) 10 (omega arith), le-ltb n 10 l, e)

-- by as many digits as io has of them
digits_within : (m n k : ℕ) → n < m → IsDigitCount 10 1 n k → last_digits 10 k n ≡ decimal_within m n
digits_within zero n k l h = absurd (omega arith)
digits_within (suc m) n zero l h = absurd (omega arith)
digits_within (suc m) n (suc zero) l h = one_digit m n h.1
digits_within (suc m) n (suc (suc j)) l h =
    let least : 10 ^ suc j ≤ n = rw (sub-one (suc (suc j))) at (h.2 (omega arith)) in
    let tenth : IsDigitCount 10 1 (n / 10) (suc j) = (omega arith, omega arith, λ o. rw (sub-one (suc j)) (omega arith)) in
    last_digit m n (last_digits 10 (suc j) (n / 10)) (omega arith) (digits_within m (n / 10) (suc j) (omega arith) tenth)

pub decimal_digits : (n k : ℕ) → IsDigitCount 10 1 n k → last_digits 10 k n ≡ decimal n
decimal_digits n k h = digits_within (suc n) n k (omega arith) h

-- a number below 10^k has k digits at the most
within-short : (m n k : ℕ) → 1 ≤ k → n < 10 ^ k → length (decimal_within m n) ≤ k
unfolding decimal_within
within-short zero n k l h = omega arith
within-short (suc m) n zero l h = absurd (omega arith)
within-short (suc m) n (suc zero) l h = rw (lt-ltb n 10 (omega arith)) (omega arith)
within-short (suc m) n (suc (suc j)) l h =
    test (ltb n 10) (λ t. rw t (omega arith))
    (λ f. rw (f, length-append) (omega (arith, within-short m (n / 10) (suc j) (omega arith) (omega arith))))

pub decimal-most : (n k : ℕ) → 1 ≤ k → n < 10 ^ k → length (decimal n) ≤ k
decimal-most n k l h = within-short (suc n) n k l h

-- one of 64 bits has 20
pub decimal-short : (n : ℕ) → n < 2 ^ 64 → length (decimal n) ≤ 20
decimal-short n h = decimal-most n 20 (omega arith) (omega arith)
