-- Another order of a run, in which any two reports that share a counter keep their order.
use Rattle.std.specs.Prelude.{true, List, [], ◌∷◌, map, ◌≡◌, ℕ, zero, suc, ◌<◌, ltb, eqb, length, get_or}
use Rattle.octets.specs.Choice.{pick}
use Rattle.rows.specs.Posting.{Report, refused, entries, names}

-- Two reports share a counter: both have an entry of it. A report that is refused for its octets alone has none; one that is refused
-- with 14 or 15 has.
abbrev pub Shares : Report → Report → Type 0
Shares x y = (k : ℕ) × (names k (entries x) ≡ true) × (names k (entries y) ≡ true)

-- how often a number stands in a list, and its first place
unfoldable pub times : ℕ → List ℕ → ℕ
times i [] = 0
times i (s ∷ l) = pick (eqb s i) (suc (times i l)) (times i l)

unfoldable pub place : ℕ → List ℕ → ℕ
place i [] = 0
place i (s ∷ l) = pick (eqb s i) 0 (suc (place i l))

-- the numbers 0 1 2 .. below n
unfoldable pub upto : ℕ → List ℕ
upto zero = []
upto (suc n) = 0 ∷ map suc (upto n)

-- the i-th report of a run
abbrev pub report : List Report → ℕ → Report
report rs i = get_or rs i (refused 0)

-- An order of a run lists the places of its reports, each once and nothing else; and where two reports share a counter, the one that
-- comes first in the run comes first in the order.
pub record Order (rs : List Report) (order : List ℕ) : Type 0 where
  pub once : (i : ℕ) → times i order ≡ pick (ltb i (length rs)) 1 0
  pub keeps : (i j : ℕ) → i < j → j < length rs → Shares (report rs i) (report rs j) → place i order < place j order

-- a run's reports in an order, and its answers in an order
abbrev pub in_order : List ℕ → List Report → List Report
in_order order rs = map (report rs) order

abbrev pub answers_in_order : List ℕ → List ℕ → List ℕ
answers_in_order order ns = map (λ i. get_or ns i 0) order
