-- Records one after the other from an offset, as reading and as stepping find them.
use Rattle.std.specs.Prelude.{◌≡◌, List, [], ◌∷◌, ◌⊎◌, ℕ, ◌≤◌, ◌<◌, length}
use Rattle.layouts.specs.Formats.{refused, got}
use Rattle.layouts.specs.Categories.{Category, category}
use Rattle.blocks.specs.Headers.{header_of}
use Rattle.blocks.specs.Records.{Rec}
use Rattle.blocks.specs.Blocks.{all, block_of}
use Rattle.blocks.specs.Offsets.{record_at}
use Rattle.blocks.specs.Steps.{step_of}
use Rattle.blocks.specs.Head.{Head}
use Rattle.blocks.specs.declared.record.Record.{Record}
use Rattle.blocks.specs.Step.{Step}

-- from one offset to another: each record starts where the one before it ended
module _ (s : List ℕ) (len : ℕ) (c : Category) where
  abbrev pub Joined : ℕ → List Rec → ℕ → Type 0
  Joined at [] end = at ≡ end
  Joined at (r ∷ rs) end = (q : ℕ) × (record_at s len c at ≡ got r q) × (at < q) × (q ≤ len) × Joined q rs end

-- what an accepted block is: records that fill LEN exactly
abbrev pub Full : List ℕ → ℕ → ℕ → Type 0
Full s len n =
    (cat : ℕ) × (rs : List Rec) × (header_of s ≡ Head.Good cat len) × Joined s len (category cat) 3 rs len
    × (length rs ≡ n) × (block_of s ≡ all cat rs)

-- what a refused block is: its header is; or a record is, the first one that is, and at its offset
abbrev pub Stopped : List ℕ → ℕ → ℕ → Type 0
Stopped s n at =
    ((header_of s ≡ Head.Refused n) × (at ≡ 0))
    ⊎ ((cat : ℕ) × (len : ℕ) × (rs : List Rec) × (header_of s ≡ Head.Good cat len) × Joined s len (category cat) 3 rs at
    × (record_at s len (category cat) at ≡ refused n) × (at < len))

-- the typed records that steps hand out, each from where the one before it ended
module _ (s : List ℕ) where
  abbrev pub Visited : ℕ → List Record → ℕ → Type 0
  Visited at [] end = at ≡ end
  Visited at (t ∷ ts) end = (q : ℕ) × (step_of s at ≡ Step.Taken t (record { at = q })) × Visited q ts end
