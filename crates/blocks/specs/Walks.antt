-- A run of records, so many at most, and the answer of reading a block.
use Rattle.std.specs.Prelude.{Bool, List, ℕ, zero, suc, ◌+◌, ◌-◌, leb, length, drop}
use Rattle.octets.specs.Choice.{pick}
use Rattle.octets.specs.Numbers.{number}
use Rattle.octets.specs.Refusals.{presence_broken}
use Rattle.layouts.specs.Formats.{Parsed, refused, got, Trace}
use Rattle.layouts.specs.Categories.{Category}
use Rattle.layouts.specs.declared.form.Form.{Form}
use Rattle.layouts.specs.Presence.{needs_of, meets}
use Rattle.blocks.specs.Records.{Rec, formats, type_in}
use Rattle.blocks.specs.Blocks.{Block, wrong, all, block_of}
use Rattle.blocks.specs.Offsets.{items_at, record_at}
use Rattle.blocks.specs.Walked.{Walked}
use Rattle.blocks.specs.Reading.{Reading}
use Rattle.blocks.specs.Reading as reading

module _ (s : List ℕ) (len : ℕ) (c : Category) where
  abbrev pub onward : ℕ → Parsed ℕ Rec → (ℕ → Walked) → Walked
  onward at (refused n) next = Walked.Refused n at
  onward at (got r q) next = next q

  -- at most so many records from an offset: where it stands then and how many have been passed, or the first refusal and its record's start
  unfoldable pub run_of : ℕ → ℕ → ℕ → Walked
  run_of zero at count = Walked.To at count
  run_of (suc budget) at count =
      let next = onward at (record_at s len c at) (λ q. run_of budget q (count + 1)) in
      pick (leb len at) (Walked.To at count) next

  -- the items of the fields fs have been read, of a record with these marks and the type so far: presence, and then the run's next records
  abbrev pub after_items : List Bool → List Form → ℕ → ℕ → ℕ → ℕ → Parsed ℕ (List Trace) → Walked
  after_items marks fs typ start budget count (refused n) = Walked.Refused n start
  after_items marks fs typ start budget count (got trs q) =
      pick (meets (needs_of c.cat) (type_in typ fs trs) marks) (run_of budget q (count + 1)) (Walked.Refused presence_broken start)

  -- the rest of a record from a field on, whose item starts at an offset, and then the run's next records
  unfoldable pub rest_of : List Bool → ℕ → ℕ → ℕ → ℕ → ℕ → ℕ → Walked
  rest_of marks f at typ start budget count =
      let fs = drop (f - 1) c.fields in
      after_items marks fs typ start budget count (items_at s len (formats (drop (f - 1) marks) fs) at)

-- LEN and the count of records, or the refusal with the offset of the faulty record's first octet
abbrev pub answer_of : ℕ → Block → Reading
answer_of len (wrong n at) = Reading.Refused n at
answer_of len (all cat rs) = Reading.Accepted len (length rs)

-- of the block's records; LEN stands behind CAT
unfoldable pub read_of : List ℕ → Reading
read_of s = answer_of (number 2 s 1) (block_of s)

-- The answer's cases, with document 01's number and values: LEN 0 and count 0 where it is refused

pub record ReadListed : Type 0 where
  pub refusal : ℕ
  pub offset : ℕ
  pub len : ℕ
  pub count : ℕ

abbrev pub read_refused : ℕ → ℕ → ReadListed
read_refused n at = record { refusal = n; offset = at; len = 0; count = 0 }

abbrev pub read_accepted : ℕ → ℕ → ReadListed
read_accepted len count = record { refusal = 0; offset = 0; len = len; count = count }

abbrev pub listed_reading : Reading → ReadListed
listed_reading (reading.Refused n at) = read_refused n at
listed_reading (reading.Accepted len count) = read_accepted len count

abbrev pub block_listed : ℕ → Block → ReadListed
block_listed len (wrong n at) = read_refused n at
block_listed len (all cat rs) = read_accepted len (length rs)

unfoldable pub read_listed : List ℕ → ReadListed
read_listed s = block_listed (number 2 s 1) (block_of s)
