-- Text gathered in a buffer, which is written to standard output when one octet more finds it full. Of what is written nothing is said.
use Rattle.std.specs.Prelude.{Bool, List, [], ◌∷◌, ℕ, ◌+◌, ltb, length, set}
use Rattle.octets.specs.Choice.{pick}

-- the buffer, and how many octets of it are held
pub record Gathered : Type 0 where
  pub octets : List ℕ
  pub held : ℕ

abbrev pub gathered : List ℕ → ℕ → Gathered
gathered l n = record { octets = l; held = n }

-- there is room behind the octets held
abbrev pub has_room : Gathered → Bool
has_room g = ltb g.held (length g.octets)

-- a full buffer begins anew: it is written first
abbrev pub made_room : Gathered → Gathered
made_room g = pick (has_room g) g (gathered g.octets 0)

-- an octet behind those held; a buffer without room stays
abbrev pub put_behind : Gathered → ℕ → Gathered
put_behind g x = pick (has_room g) (gathered (set g.octets g.held x) (g.held + 1)) g

-- one octet more
unfoldable pub put_one : Gathered → ℕ → Gathered
put_one g x = put_behind (made_room g) x

-- octets more, in turn
unfoldable pub put_all : Gathered → List ℕ → Gathered
put_all g [] = g
put_all g (x ∷ xs) = put_all (put_one g x) xs
