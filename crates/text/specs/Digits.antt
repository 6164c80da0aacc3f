-- Digits and their values; numbers and octets as text.
use Rattle.std.specs.Prelude.{◌&&◌, Option, Some, None, List, [], ◌∷◌, ◌++◌, ℕ, zero, suc, ◌+◌, ◌*◌, ◌-◌, ◌/◌, ◌%◌, leb, ltb}
use Rattle.octets.specs.Choice.{pick}

-- 0 to 9 are the octets 48 to 57, A to F 65 to 70, a to f 97 to 102; 16 for any other
unfoldable pub hex_value : ℕ → ℕ
hex_value c =
    pick (leb 48 c && leb c 57) (c - 48)
    (pick (leb 65 c && leb c 70) (c - 55)
    (pick (leb 97 c && leb c 102) (c - 87)
    16))

-- a digit's value, and none where what was read is no digit
abbrev pub digit_of : ℕ → Option ℕ
digit_of d = pick (ltb d 16) (Some d) None

-- a decimal digit at the low end, where the number stays below 2^64
unfoldable pub with_digit : ℕ → ℕ → Option ℕ
with_digit n c =
    pick (ltb 9 (hex_value c)) None
    (pick (ltb 18446744073709551615 (n * 10 + hex_value c)) None
    (Some (n * 10 + hex_value c)))

-- the digit of the low half of an octet, in upper case
unfoldable pub hex_digit : ℕ → ℕ
hex_digit x = pick (ltb (x % 16) 10) (48 + x % 16) (55 + x % 16)

-- an octet in two digits, the high half first
abbrev pub hex_pair : ℕ → List ℕ
hex_pair x = hex_digit (x / 16) ∷ hex_digit x ∷ []

-- a number in decimal, k digits at the most: those of its tenth, then its last
unfoldable pub decimal_within : ℕ → ℕ → List ℕ
decimal_within zero n = []
decimal_within (suc k) n =
    let longer = decimal_within k (n / 10) ++ ((48 + n % 10) ∷ []) in
    pick (ltb n 10) ((48 + n) ∷ []) longer

-- a number in decimal: as many digits as it needs, which are never more than n + 1
abbrev pub decimal : ℕ → List ℕ
decimal n = decimal_within (suc n) n

-- a blank, then a number in decimal
abbrev pub blank_number : ℕ → List ℕ
blank_number n = 32 ∷ decimal n
