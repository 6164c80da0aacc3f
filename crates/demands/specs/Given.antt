-- When each refusal number of reading is given, in the words of document 01's table "Refusal numbers" and in its order; and 12. The laws, a number is
-- given when this holds and only then, are in proofs/GivenBlocks.antt and proofs/GivenOutputs.antt. The other operations:
-- writing and rewriting: specs/GivenWriting.antt, proofs/GivenWriting.antt; a post: specs/Verdicts.antt, proofs/GivenPosts.antt;
-- loading, storing and turning: specs/GivenPages.antt, proofs/GivenPages.antt; a feed: specs/GivenFeeds.antt, proofs/GivenFeeds.antt.
use Rattle.std.specs.Prelude.{List, ◌⊎◌, ◌≡◌, ℕ, ◌≤◌, ◌<◌, length}
use Rattle.octets.specs.Refusals.{too_short, unknown_category, len_too_small, long_specification, spare_marked, none_marked, passes_end, no_count, past_last, presence_broken, out_of_range, output_too_short, no_such}
use Rattle.layouts.specs.Layouts.{kind_of}
use Rattle.layouts.specs.Tables.{layout}
use Rattle.layouts.specs.Categories.{Category, category}
use Rattle.blocks.specs.Boundaries.{Joined}
use Rattle.blocks.specs.Faults.{TooShort, Unknown, LenLow, Passes, NoCount, PastLast, OutOfRange, NoneMarked, SpareMarked, Long, Cut, Read, Faulty, Broken}
use Rattle.blocks.specs.Headers.{header_of}
use Rattle.blocks.specs.Records.{Rec}
use Rattle.blocks.specs.Steps.{step_of}
use Rattle.blocks.specs.Step.{Step}
use Rattle.blocks.specs.Head.{Head}
use Rattle.blocks.specs.declared.record.Record.{Record}

-- a header: 1, 2, 3
pub data HeaderFault (s : List ℕ) (n : ℕ) : Type 0 where
  short : TooShort s → n ≡ too_short → HeaderFault s n
  unknown : Unknown s → n ≡ unknown_category → HeaderFault s n
  low : LenLow s → n ≡ len_too_small → HeaderFault s n

-- a record of a category at an offset: 7 and 4 of its specification; 6, 5; of an item, those before it being good, 7, 8, 9 and 11; 10
pub data RecordFault (s : List ℕ) (len : ℕ) (c : Category) (at n : ℕ) : Type 0 where
  cut : Cut s len c at → n ≡ passes_end → RecordFault s len c at n
  long : Long s len c at → n ≡ long_specification → RecordFault s len c at n
  none : (gs : List ℕ) (p : ℕ) → Read s len c at gs p → NoneMarked gs → n ≡ none_marked → RecordFault s len c at n
  spare : (gs : List ℕ) (p : ℕ) → Read s len c at gs p → SpareMarked c gs → n ≡ spare_marked → RecordFault s len c at n
  passes : Faulty s len c at (λ f. Passes s len (kind_of (layout f))) → n ≡ passes_end → RecordFault s len c at n
  empty : Faulty s len c at (λ f. NoCount s len (kind_of (layout f))) → n ≡ no_count → RecordFault s len c at n
  past : Faulty s len c at (λ f. PastLast s len (kind_of (layout f))) → n ≡ past_last → RecordFault s len c at n
  range : Faulty s len c at (OutOfRange s len) → n ≡ out_of_range → RecordFault s len c at n
  absent : Broken s len c at → n ≡ presence_broken → RecordFault s len c at n

-- a block, with the offset that is answered: the header's, with 0; or that of its first faulty record, with its first octet's
pub data BlockFault (s : List ℕ) (n at : ℕ) : Type 0 where
  header : HeaderFault s n → at ≡ 0 → BlockFault s n at
  first : (cat len : ℕ) → header_of s ≡ Head.Good cat len → (rs : List Rec) → Joined s len (category cat) 3 rs at → at < len
      → RecordFault s len (category cat) at n → BlockFault s n at

-- "17: no record .. of this number": the header is good, and the start is below 3, or at or past LEN
abbrev pub NoRecord : List ℕ → ℕ → Type 0
NoRecord s start = (cat : ℕ) × (len : ℕ) × (header_of s ≡ Head.Good cat len) × ((start < 3) ⊎ (len ≤ start))

-- a step: the header's, with offset 0; 17, with 0; or that of the record at the start, any start in the block being read as if one began there
pub data StepFault (s : List ℕ) (start n at : ℕ) : Type 0 where
  header : HeaderFault s n → at ≡ 0 → StepFault s start n at
  outside : NoRecord s start → n ≡ no_such → at ≡ 0 → StepFault s start n at
  here : (cat len : ℕ) → header_of s ≡ Head.Good cat len → 3 ≤ start → start < len → RecordFault s len (category cat) start n → at ≡ start
      → StepFault s start n at

-- "17: no .. entry of this number": a step takes a record there, and the number is at or past its count of entries
abbrev pub NoEntry : List ℕ → ℕ → ℕ → Type 0
NoEntry s start k = (t : Record) × (next : ℕ) × (step_of s start ≡ Step.Taken t (record { at = next })) × (t.entries.count ≤ k)

-- an entry: a step's refusals, then 17
pub data EntryFault (s : List ℕ) (start k n at : ℕ) : Type 0 where
  step : StepFault s start n at → EntryFault s start k n at
  missing : NoEntry s start k → n ≡ no_such → at ≡ 0 → EntryFault s start k n at

-- What goes into a lent output l: its own refusals; then, where it is fine, "12: output too short" for the octets xs that are to go out
pub data OutputFault (Fault : ℕ → Type 0) (Fine : Type 0) (xs l : List ℕ) (n : ℕ) : Type 0 where
  own : Fault n → OutputFault Fault Fine xs l n
  output_short : Fine → length l < length xs → n ≡ output_too_short → OutputFault Fault Fine xs l n
