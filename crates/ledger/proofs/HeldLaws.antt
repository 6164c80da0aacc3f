-- What the types say of a ledger that is passed by value: owning it tells how many cells there are, and their range. Assumes nothing.
use mathlib.Core.List.{List, [], ◌∷◌}
use mathlib.Core.Path.{◌≡◌}
use Prim.Native.Nat.{ℕ, zero, suc, ◌<◌, ◌^◌}
use lib.ListN.{length, get_or}
use lib.Pow.{pow_pos}
use mir.Syntax.{Width, w64}
use mir.Val.{Val, bits}
use denote.Array.{Array, each}
use denote.Laws.{Is}
use denote.Plain.{UInt}
use denote.Shadow.{shadow}
use denote.Struct.Declared.{row}
use Rattle.ledger.specs.Ledgers.{ledger_cells, Held}
use Rattle.ledger.specs.declared.Ledger.{Ledger}
use Rattle.ledger.specs.contracts.Ledger.{the_type}

-- each element of an array of numbers fits its width; past the end stands 0
each_fits : (w : Width) (xs : List ℕ) (us : List Val) → shadow (each ℕ (UInt w).own_val xs us) → (i : ℕ) → get_or xs i 0 < 2 ^ bits w
each_fits w [] us h i = pow_pos (bits w)
each_fits w (x ∷ xs) [] h i = absurd h
each_fits w (x ∷ xs) (u ∷ us) h zero = h.0.1
each_fits w (x ∷ xs) (u ∷ us) h (suc i) = each_fits w xs us h.1 i

-- a field that is an array of numbers: it is owned as the list of its elements' values, which are the elements
field-long : (w : Width) (n : ℕ) (xs : List ℕ) (vs : List Val) → Is (Array (UInt w) n) xs vs → length xs ≡ n
field-long w n xs vs h = h.1.0.1

field_fits : (w : Width) (n : ℕ) (xs : List ℕ) (vs : List Val) → Is (Array (UInt w) n) xs vs → (i : ℕ) → get_or xs i 0 < 2 ^ bits w
field_fits w n xs vs h i = each_fits w xs h.0 h.1.1 i

-- for a parameter that is a ledger by value: `held _ _ z.good.0`, with z the record at the function's entry
pub held : (l : Ledger) (vs : List Val) → Is (row the_type) l vs → Held l.cells
held l vs h = record {
  long = field-long w64 ledger_cells l.cells _ h.1.1.0;
  small = field_fits w64 ledger_cells l.cells _ h.1.1.0;
}
