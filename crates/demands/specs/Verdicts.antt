-- What a post is answered, and when: document 01's checks in their order, 16, the reader's 1 to 11, 17, 13, 14, 15. No two of the cases can hold
-- together, and each implies its number: proofs/GivenPosts.antt.
use Rattle.std.specs.Prelude.{true, false, List, ◌≡◌, ℕ, ◌≤◌, ◌<◌}
use Rattle.octets.specs.Refusals.{not_statistics, no_room, life_passes, rules_broken, no_such}
use Rattle.blocks.specs.Walks.{read_of}
use Rattle.blocks.specs.Step.{Step}
use Rattle.blocks.specs.declared.record.Record.{Record}
use Rattle.blocks.specs.Reading.{Reading}
use Rattle.rows.specs.Rows.{add_up}
use Rattle.rows.specs.Posting.{rows_for, passes}
use Rattle.ledger.specs.Ledgers.{rows_of, keeps_rules}
use Rattle.blocks.specs.Statistics.{is_statistics}
use Rattle.ledger.specs.Reports.{entries_of, step_at}
use Rattle.ledger.specs.declared.Ledger.{Ledger}

-- the ledger keeps the rules, the block is accepted and has a record of this number, and that is t
pub record Chosen (l : Ledger) (s : List ℕ) (k : ℕ) (t : Record) : Type 0 where
  pub keeps : keeps_rules l.cells ≡ true
  pub len : ℕ
  pub count : ℕ
  pub reading : read_of s ≡ Reading.Accepted len count
  pub within : k < count
  pub next : ℕ
  pub taken : step_at s k 3 ≡ Step.Taken t (record { at = next })

pub data Verdict (l : Ledger) (s : List ℕ) (k n : ℕ) : Type 0 where
  broken : keeps_rules l.cells ≡ false → n ≡ rules_broken → Verdict l s k n
  unread : keeps_rules l.cells ≡ true → (at : ℕ) → read_of s ≡ Reading.Refused n at → Verdict l s k n
  missing : keeps_rules l.cells ≡ true → (len count : ℕ) → read_of s ≡ Reading.Accepted len count → count ≤ k → n ≡ no_such → Verdict l s k n
  other : (t : Record) → Chosen l s k t → is_statistics t ≡ false → n ≡ not_statistics → Verdict l s k n
  full : (t : Record) → Chosen l s k t → is_statistics t ≡ true → 256 < rows_for (rows_of l.cells) (entries_of s t) → n ≡ no_room → Verdict l s k n
  past : (t : Record) → Chosen l s k t → is_statistics t ≡ true → rows_for (rows_of l.cells) (entries_of s t) ≤ 256
      → passes add_up (rows_of l.cells) (entries_of s t) ≡ true → n ≡ life_passes → Verdict l s k n
  added : (t : Record) → Chosen l s k t → is_statistics t ≡ true → rows_for (rows_of l.cells) (entries_of s t) ≤ 256
      → passes add_up (rows_of l.cells) (entries_of s t) ≡ false → n ≡ 0 → Verdict l s k n

-- the cases, counted in this order
abbrev pub case : {l : Ledger} {s : List ℕ} {k n : ℕ} → Verdict l s k n → ℕ
case (broken f e) = 1
case (unread y at e) = 2
case (missing y len count r m e) = 3
case (other t c f e) = 4
case (full t c y m e) = 5
case (past t c y m p e) = 6
case (added t c y m p e) = 7
