-- Worked examples, computed. Assumes nothing.
use mathlib.Core.Path.{◌≡◌, refl}
use mathlib.Core.List.{[], ◌∷◌, flat_map}
use Rattle.text.specs.Digits.{hex_digit, hex_pair, decimal_within, decimal, blank_number}
use Rattle.text.specs.Gathered.{gathered, put_one, put_all}

-- nought, and the largest life count
nought : decimal 0 ≡ 48 ∷ []
unfolding decimal_within
nought = refl

largest : decimal 18446744073709551615
    ≡ 49 ∷ 56 ∷ 52 ∷ 52 ∷ 54 ∷ 55 ∷ 52 ∷ 52 ∷ 48 ∷ 55 ∷ 51 ∷ 55 ∷ 48 ∷ 57 ∷ 53 ∷ 53 ∷ 49 ∷ 54 ∷ 49 ∷ 53 ∷ []
unfolding decimal_within
largest = refl

-- the row of the README: 01021204 185 30
row-key : flat_map hex_pair (0x01 ∷ 0x02 ∷ 0x12 ∷ 0x04 ∷ []) ≡ 48 ∷ 49 ∷ 48 ∷ 50 ∷ 49 ∷ 50 ∷ 48 ∷ 52 ∷ []
unfolding flat_map hex_digit
row-key = refl

row-values : flat_map blank_number (185 ∷ 30 ∷ []) ≡ 32 ∷ 49 ∷ 56 ∷ 53 ∷ 32 ∷ 51 ∷ 48 ∷ []
unfolding flat_map decimal_within
row-values = refl

-- A to F in upper case
upper_case : hex_pair 0xAF ≡ 65 ∷ 70 ∷ []
unfolding hex_digit
upper_case = refl

-- the third octet finds a buffer of three full
full : put_all (gathered (1 ∷ 2 ∷ 3 ∷ []) 1) (65 ∷ 66 ∷ 67 ∷ []) ≡ gathered (67 ∷ 65 ∷ 66 ∷ []) 1
unfolding put_one put_all
full = refl

-- a buffer of no octets holds none
none : put_all (gathered [] 0) (65 ∷ 66 ∷ []) ≡ gathered [] 0
unfolding put_one put_all
none = refl
