-- The field specification (01 "Block and field specification"): each octet marks seven fields from the high bit, FX says that another follows.
use Rattle.std.specs.Prelude.{Bool, true, ◌&&◌, List, [], ◌∷◌, ℕ, ◌*◌, ◌+◌, ◌/◌, eqb}
use Rattle.octets.specs.Choice.{pick, odd}

-- nothing is marked
unfoldable pub zeros : List ℕ → Bool
zeros [] = true
zeros (g ∷ gs) = eqb g 0 && zeros gs

-- the octets of marks, up to the last that marks something
unfoldable pub put_marks : List ℕ → List ℕ
put_marks [] = []
put_marks (g ∷ gs) = pick (zeros gs) (g * 2 ∷ []) ((g * 2 + 1) ∷ put_marks gs)

-- field by field whether it is marked
unfoldable pub flags : List ℕ → List Bool
flags [] = []
flags (g ∷ gs) =
    odd (g / 64) ∷ odd (g / 32) ∷ odd (g / 16) ∷ odd (g / 8) ∷ odd (g / 4) ∷ odd (g / 2) ∷ odd g ∷ flags gs
