-- No sentence is long. Assumes nothing.
use mathlib.Core.Bool.{Bool, true, ◌&&◌}
use mathlib.Core.List.{List, [], ◌∷◌}
use mathlib.Core.Path.{◌≡◌, refl}
use Prim.Native.Nat.{ℕ, zero, suc, ◌≤◌}
use Prim.Native.String.{String}
use native.Mathlib.Omega.{arith}
use borrow.Author.Tests.{leb-true}
use lib.Dec.{leb}
use lib.ListN.{length, get_or}
use Rattle.octets.proofs.Cases.{both}
use Rattle.text.specs.Quotes.{quoted}
use Rattle.text.specs.Sentences.{sentences, sentence}

abbrev short : List String → Bool
short [] = true
short (s ∷ l) = leb (length (quoted s)) 80 && short l

short-at : (l : List String) (d : String) → length (quoted d) ≤ 80 → short l ≡ true → (n : ℕ) → length (quoted (get_or l n d)) ≤ 80
short-at [] d h k n = h
short-at (s ∷ l) d h k zero = leb-true _ 80 (both (leb (length (quoted s)) 80) (short l) k).0
short-at (s ∷ l) d h k (suc n) = short-at l d h (both (leb (length (quoted s)) 80) (short l) k).1 n

pub sentence-short : (n : ℕ) → length (sentence n) ≤ 80
unfolding sentence quoted
sentence-short n = short-at sentences "no refusal has this number" (omega arith) refl n
