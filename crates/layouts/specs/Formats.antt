-- Formats: which group comes next, by the values before it. What fits in a format, and writing by it; reading by it is in Offsets.antt.
use Rattle.std.specs.Prelude.{Bool, true, false, ◌&&◌, List, [], ◌∷◌, ◌++◌, ℕ, get_or, drop}
use Rattle.octets.specs.Numbers.{octets}
use Rattle.layouts.specs.Groups.{merge, fits, Group}

-- what reading gives: a refusal; or what was read, and what is behind it (its offset)
pub data Parsed (R A : Type 0) : Type 0 where
  refused : ℕ → Parsed R A
  got : A → R → Parsed R A

abbrev pub and_then : {R A B : Type 0} → Parsed R A → (A → R → Parsed R B) → Parsed R B
and_then (refused n) f = refused n
and_then (got a r) f = f a r

-- the end; a refusal; or a group, and what follows by its values
pub data Format : Type 0 where
  done : Format
  stop : ℕ → Format
  ask : Group → (List ℕ → Format) → Format

-- the values of a format's groups, one after the other
abbrev pub Trace : Type 0
Trace = List (List ℕ)

-- values that lead the format to its end, each in range
unfoldable pub fits_in : Format → Trace → Bool
fits_in done [] = true
fits_in done (v ∷ tr) = false
fits_in (stop n) tr = false
fits_in (ask g k) [] = false
fits_in (ask g k) (v ∷ tr) = fits g.parts v && fits_in (k v) tr

-- the octets of an item, with the spare bits of the numbers xs, one for each group; without xs they are zero
unfoldable pub put : Format → Trace → List ℕ → List ℕ
put done tr xs = []
put (stop n) tr xs = []
put (ask g k) [] xs = []
put (ask g k) (v ∷ tr) xs = octets g.wide (merge g.parts v (get_or xs 0 0)) ++ put (k v) tr (drop 1 xs)
