-- Octets that differ only in the spare bits of an item, and octets that differ only behind an offset.
use Rattle.std.specs.Prelude.{◌≡◌, List, ℕ, ◌+◌, ◌<◌, get_or}
use Rattle.octets.specs.Numbers.{number}
use Rattle.layouts.specs.Groups.{values}
use Rattle.layouts.specs.Formats.{Format, done, stop, ask}

-- the same values in each group that the format asks for on its way from an offset
abbrev pub AlikeAt : Format → List ℕ → List ℕ → ℕ → Type 0
AlikeAt done s t at = Unit {0}
AlikeAt (stop n) s t at = Unit {0}
AlikeAt (ask g k) s t at =
    (values g.parts (number g.wide s at) ≡ values g.parts (number g.wide t at))
    × AlikeAt (k (values g.parts (number g.wide s at))) s t (at + g.wide)

-- the octets before an offset are the same
abbrev pub SameBefore : ℕ → List ℕ → List ℕ → Type 0
SameBefore len s t = (i : ℕ) → i < len → get_or s i 0 ≡ get_or t i 0
