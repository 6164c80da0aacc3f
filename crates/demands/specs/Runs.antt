-- Demand 3 in words: a run of posts, the counters that a report names, room for them, and another order of a run.
use Rattle.std.specs.Prelude.{true, List, [], ◌∷◌, map, ◌≡◌, ℕ, get_or}
use Rattle.std.proofs.Math.Nat.{zero-lt-suc}
use Rattle.octets.specs.Numbers.{Octets}
use Rattle.rows.specs.Posting.{Report, entries, names, Room as RowsRoom}
use Rattle.rows.specs.Order.{upto, Order as ReportsOrder}
use Rattle.ledger.specs.Ledgers.{answer, rows_of}
use Rattle.ledger.specs.Reports.{report_of}
use Rattle.ledger.specs.declared.Ledger.{Ledger}
use Rattle.demands.specs.Operations.{Posts}

-- what comes in: octets, and which record of them, from 0
pub record Sent : Type 0 where
  pub octets : List ℕ
  -- every slice that is lent is octets; the rules ask for keys of 32 bits
  pub are : Octets octets
  pub k : ℕ

abbrev pub nothing : Sent
nothing = record { octets = []; are = λ i. zero-lt-suc 255; k = 0 }

-- the first n records of octets, by number
abbrev pub numbered : (s : List ℕ) → Octets s → ℕ → List Sent
numbered s o n = map (λ k. record { octets = s; are = o; k = k }) (upto n)

-- A run: each is posted to the ledger that the one before left. The answers in turn, and the ledger at the end.
abbrev pub Run : Ledger → List Sent → List ℕ → Ledger → Type 0
Run l [] [] end = end ≡ l
Run l [] (n ∷ ns) end = ⊥
Run l (x ∷ xs) [] end = ⊥
Run l (x ∷ xs) (n ∷ ns) end = (m : Ledger) × Posts l x.octets x.k (answer n m.cells) × Run m xs ns end

-- The counters that it names are those of the entries of its report: of one that is refused with 1 to 11, 17 or 13 none; a report that
-- is refused with 14 or 15 has them all the same.
abbrev pub report : Sent → Report
report x = report_of x.octets x.k

abbrev pub Names : Sent → ℕ → Type 0
Names x k = names k (entries (report x)) ≡ true

-- Room in a ledger for every counter that a run names, whatever is refused.
abbrev pub Room : Ledger → List Sent → Type 0
Room l xs = RowsRoom (rows_of l.cells) (map report xs)

-- Another order of a run lists the places of its reports, each once and nothing else; of any two that share a counter, the one that comes
-- first in the run comes first in the order.
abbrev pub Order : List Sent → List ℕ → Type 0
Order xs order = ReportsOrder (map report xs) order

-- a run in that order
abbrev pub in_order : List ℕ → List Sent → List Sent
in_order order xs = map (λ i. get_or xs i nothing) order
