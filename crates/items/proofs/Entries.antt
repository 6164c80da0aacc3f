-- Entries and content, which are so many groups of one kind: how many octets they have, and when they fit. Assumes nothing.
use mathlib.Core.Path.{◌≡◌, refl, sym}
use mathlib.Core.Bool.{Bool, true, ◌&&◌}
use mathlib.Core.List.{List, [], ◌∷◌}
use Prim.Native.Nat.{ℕ, zero, suc, ◌+◌, ◌*◌, ◌/◌, ◌%◌, ◌^◌}
use native.Mathlib.Nat.{suc-mul, zero-mul, mod-lt}
use native.Mathlib.Omega.{arith}
use lib.ListN.{length, length-append}
use lib.Pow.{pow_pos}
use borrow.Author.Tests.{lt-ltb}
use Rattle.octets.specs.Numbers.{number}
use Rattle.octets.proofs.Numbers.{length-octets}
use Rattle.layouts.specs.Groups.{Part, spare, value, bits, values, fits, Group}
use Rattle.layouts.specs.Formats.{fits_in, put}
use Rattle.layouts.specs.Layouts.{octet, times}
use Rattle.layouts.specs.Tables.{counter}
use Rattle.layouts.specs.Offsets.{groups_at}

-- the values in a number are in range
abbrev pub ranged : List Part → ℕ → Bool
ranged [] x = true
ranged (spare k ∷ ps) x = ranged ps x
ranged (value k ok ∷ ps) x = ok (x / 2 ^ bits ps % 2 ^ k) && ranged ps x

-- the bits hold what was read from them, so only the ranges are left to test
pub fits-ranged : (ps : List Part) (x : ℕ) → fits ps (values ps x) ≡ ranged ps x
unfolding fits values
fits-ranged [] x = refl
fits-ranged (spare k ∷ ps) x = fits-ranged ps x
fits-ranged (value k ok ∷ ps) x =
    let y = x / 2 ^ bits ps in
    rw (lt-ltb (y % 2 ^ k) (2 ^ k) (mod-lt y (pow_pos k)), fits-ranged ps x)

-- n groups from an offset: their octets, spare bits zero; and whether they fit
abbrev pub entries : ℕ → Group → List ℕ → ℕ → List ℕ
entries n g s at = put (times n g) (groups_at n g s at) []

abbrev pub entries_fit_lem : ℕ → Group → List ℕ → ℕ → Bool
entries_fit_lem n g s at = fits_in (times n g) (groups_at n g s at)

pub entries-long : (n : ℕ) (g : Group) (s : List ℕ) (at : ℕ) → length (entries n g s at) ≡ n * g.wide
unfolding times groups_at put
entries-long zero g s at = sym (zero-mul g.wide)
entries-long (suc n) g s at = rw (length-append, length-octets, entries-long n g s (at + g.wide)) (omega (arith, suc-mul n g.wide))

-- groups that every number fits
pub entries-free : (n : ℕ) (g : Group) (s : List ℕ) (at : ℕ) → ((x : ℕ) → fits g.parts (values g.parts x) ≡ true)
    → entries_fit_lem n g s at ≡ true
unfolding times groups_at fits_in
entries-free zero g s at h = refl
entries-free (suc n) g s at h = rw (h (number g.wide s at), entries-free n g s (at + g.wide) h)

pub counter-free : (x : ℕ) → fits counter.parts (values counter.parts x) ≡ true
counter-free = fits-ranged counter.parts

pub octet-free : (x : ℕ) → fits octet.parts (values octet.parts x) ≡ true
octet-free = fits-ranged octet.parts
