-- Marks as a number: bit f - 1 for field f, as the typed record has them.
use Rattle.std.specs.Prelude.{Bool, true, false, ◌&&◌, List, [], ◌∷◌, ℕ, zero, suc, ◌+◌, ◌-◌, ◌*◌, ◌/◌, get_or, drop}
use Rattle.octets.specs.Choice.{pick, odd}

-- marks as a number, field 1 in its low bit
unfoldable pub marks_of : List Bool → ℕ
marks_of [] = 0
marks_of (b ∷ bs) = pick b 1 0 + marks_of bs * 2

-- the marks of n fields in a number
unfoldable pub flags_of : ℕ → ℕ → List Bool
flags_of zero m = []
flags_of (suc n) m = odd m ∷ flags_of n (m / 2)

-- whether a field is marked; there is no field 0
abbrev pub marked : ℕ → ℕ → Bool
marked m f = get_or (false ∷ flags_of 32 m) f false

-- the marks in n specification octets from an offset, seven to a number
unfoldable pub groups_of : ℕ → List ℕ → ℕ → List ℕ
groups_of zero s at = []
groups_of (suc n) s at = get_or s at 0 / 2 ∷ groups_of n s (at + 1)

-- of fields with these marks, the first of number f, the first that is marked; the number behind them where none is
unfoldable pub next_marked : List Bool → ℕ → ℕ
next_marked [] f = f
next_marked (b ∷ bs) f = pick b f (next_marked bs (suc f))

-- of the fields from one on, the first that these marks mark; 33 where they mark none
abbrev pub next_from : ℕ → ℕ → ℕ
next_from marks from = next_marked (drop (from - 1) (flags_of 32 marks)) from

-- of n fields, each that the first number marks is marked in the second
unfoldable pub has_all : ℕ → ℕ → ℕ → Bool
has_all zero m k = true
has_all (suc n) m k = pick (odd m) (odd k) true && has_all n (m / 2) (k / 2)
