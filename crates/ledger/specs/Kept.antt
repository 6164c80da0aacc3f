-- That a ledger keeps the rules is told in one way alone: what a type that says so needs.
use Rattle.std.specs.Prelude.{List, [], ◌∷◌, ℕ}
use Rattle.std.specs.Coded.{×_prop, Unit-prop, le_prop}
use Rattle.std.proofs.Props.{props}
use Rattle.rows.specs.Rows.{Row}
use Rattle.rows.specs.Posting.{Above, Sorted, Each}
use Rattle.ledger.specs.Steps.{Kept}

Above-prop : (k : ℕ) (rows : List Row) → IsProp (Above k rows)
Above-prop k [] = Unit-prop
Above-prop k (r ∷ rows) = ×_prop le_prop (Above-prop k rows)

pub Sorted-prop : (rows : List Row) → IsProp (Sorted rows)
Sorted-prop [] = Unit-prop
Sorted-prop (r ∷ rows) = ×_prop (Above-prop r.key rows) (Sorted-prop rows)

pub Each-prop : (P : Row → Type 0) → ((r : Row) → IsProp (P r)) → (rows : List Row) → IsProp (Each P rows)
Each-prop P p [] = Unit-prop
Each-prop P p (r ∷ rows) = ×_prop (p r) (Each-prop P p rows)

ruleset ruled = (Sorted-prop, Each-prop, props)

pub Kept-prop : (cells : List ℕ) → IsProp (Kept cells)
Kept-prop cells = Prim.hlevel ruled
