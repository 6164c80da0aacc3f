-- A quoted text as octets: an ASCII character is its code.
use Rattle.std.specs.Prelude.{List, ℕ}
use mathlib.Core.List as list
use Prim.Native.Char.{code}
use Prim.Native.String.{String, [], ◌∷◌}

unfoldable pub quoted : String → List ℕ
quoted [] = list.[]
quoted (c ∷ text) = list.◌∷◌ (code c) (quoted text)
