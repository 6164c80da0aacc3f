-- When two slices hand out the same records, step by step: places aside, and values of absent items and extensions zero.
use Rattle.std.specs.Prelude.{◌≡◌, List, ℕ, zero, suc}
use Rattle.blocks.specs.declared.record.Record.{Record}
use Rattle.blocks.specs.Step.{Step}
use Rattle.blocks.specs.Found.{Found}
use Rattle.writing.specs.Same.{Same}
use Rattle.demands.specs.Operations.{Steps, Entries}

-- a step from a start hands out this record and this next start
abbrev pub Hands : List ℕ → ℕ → Record → ℕ → Type 0
Hands s at t next = (r : Step) → Steps s at r → r ≡ Step.Taken t (record { at = next })

-- so many records of two slices, each from where the one before it ended, of which something holds
abbrev pub InTurnBy : (ℕ → ℕ → ℕ → ℕ → Type 0) → ℕ → ℕ → ℕ → ℕ → ℕ → Type 0
InTurnBy Holds zero at at' end end' = (at ≡ end) × (at' ≡ end')
InTurnBy Holds (suc n) at at' end end' = (next : ℕ) × (next' : ℕ) × Holds at next at' next' × InTurnBy Holds n next next' end end'

module _ (s x : List ℕ) where
  -- the record at a start of each, up to the next: the same either way, content octet by octet, and each entry that is asked for
  pub record Twins (at next at' next' : ℕ) : Type 0 where
    pub one : Record
    pub other : Record
    pub first : Hands s at one next
    pub second : Hands x at' other next'
    pub same : Same s one x other
    pub back : Same x other s one
    pub entries : (k : ℕ) (r q : Found) → Entries s at k r → Entries x at' k q → r ≡ q

  abbrev pub InTurn : ℕ → ℕ → ℕ → ℕ → ℕ → Type 0
  InTurn = InTurnBy Twins
