-- The same reading by the octets left: where the theorems are proved, since octets are joined there. proofs/Windows.antt has the law that it
-- is reading at an offset. Assumes nothing.
use mathlib.Core.List.{List, [], ◌∷◌}
use Prim.Native.Nat.{ℕ}
use lib.Dec.{ltb}
use lib.ListN.{length, drop}
use Rattle.octets.specs.Choice.{pick}
use Rattle.octets.specs.Numbers.{number}
use Rattle.octets.specs.Refusals.{passes_end, out_of_range}
use Rattle.layouts.specs.Groups.{values}
use Rattle.layouts.specs.Formats.{Parsed, refused, got, and_then, Format, done, stop, ask, Trace, fits_in}

unfoldable pub run : Format → List ℕ → Parsed (List ℕ) Trace
run done s = got [] s
run (stop n) s = refused n
run (ask g k) s =
    let v = values g.parts (number g.wide s 0) in
    let next = run (k v) (drop g.wide s) in
    pick (ltb (length s) g.wide) (refused passes_end) (and_then next (λ tr r. got (v ∷ tr) r))

unfoldable pub item : Format → List ℕ → Parsed (List ℕ) Trace
item f s = and_then (run f s) (λ tr r. pick (fits_in f tr) (got tr r) (refused out_of_range))
