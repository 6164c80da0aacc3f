-- When a page is refused, and when storing or turning one is, in the words of document 01's table "Refusal numbers". The laws are in proofs/GivenPages.antt: a
-- number is given when this holds, and only then.
use Rattle.std.specs.Prelude.{true, false, List, ◌⊎◌, ◌≡◌, ℕ, ◌+◌, ◌*◌, ◌≤◌, length}
use Rattle.octets.specs.Numbers.{number}
use Rattle.octets.specs.Refusals.{rules_broken}
use Rattle.ledger.specs.Ledgers.{rows_of, keeps_rules}
use Rattle.pages.specs.Pages.{new, page_of, count_in, rows_in, cells_in, head_keeps}
use Rattle.pages.specs.declared.forms.Table.{Table}
use Rattle.ledger.specs.declared.Ledger.{Ledger}
use Rattle.demands.specs.Given.{OutputFault}

-- a page's head: 256 rows at most, the offsets and the length that their number gives, and exactly so many octets. Of an old page (01)
pub record OldHead (s : List ℕ) : Type 0 where
  pub few : count_in s ≤ 256
  pub keys : number 2 s 2 ≡ 8
  pub readings : number 2 s 4 ≡ 8 + 4 * count_in s
  pub size : number 2 s 6 ≡ 8 + 16 * count_in s
  pub long : length s ≡ 8 + 16 * count_in s

-- and of a new one (02 §5)
pub record NewHead (s : List ℕ) : Type 0 where
  pub few : count_in s ≤ 256
  pub keys : number 2 s 2 ≡ 10
  pub readings : number 2 s 4 ≡ 10 + 4 * count_in s
  pub times : number 2 s 6 ≡ 10 + 16 * count_in s
  pub size : number 2 s 8 ≡ 10 + 20 * count_in s
  pub long : length s ≡ 10 + 20 * count_in s

-- a page of these tables, with a ledger that keeps the rules; and octets that are none: "16: ledger or page breaks its rules"
abbrev pub Page : List Table → List ℕ → Type 0
Page ts s = (head_keeps ts s ≡ true) × (keeps_rules (cells_in ts s) ≡ true)

abbrev pub NoPage : List Table → List ℕ → Type 0
NoPage ts s = (head_keeps ts s ≡ false) ⊎ ((head_keeps ts s ≡ true) × (keeps_rules (cells_in ts s) ≡ false))

-- storing: 16, then 12
abbrev pub StoreFault : Ledger → List ℕ → ℕ → Type 0
StoreFault l o n =
    OutputFault (λ m. (keeps_rules l.cells ≡ false) × (m ≡ rules_broken)) (keeps_rules l.cells ≡ true) (page_of new (rows_of l.cells)) o n

-- turning: 16 for any fault of the page given, then 12
abbrev pub TurnFault : List Table → List Table → List ℕ → List ℕ → ℕ → Type 0
TurnFault from to s o n = OutputFault (λ m. NoPage from s × (m ≡ rules_broken)) (Page from s) (page_of to (rows_in from s)) o n
