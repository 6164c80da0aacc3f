-- The definitions over a block whose header is good: over its octets, LEN and category.
use Rattle.std.specs.Prelude.{List, ℕ}
use Rattle.layouts.specs.Formats.{Parsed}
use Rattle.layouts.specs.Categories.{category}
use Rattle.blocks.specs.Records.{Rec}
use Rattle.blocks.specs.Marks.{flags_of}
use Rattle.blocks.specs.Offsets.{record_at}
use Rattle.blocks.specs.Blocks.{Block as Records, records_at}
use Rattle.blocks.specs.Typed.{typed_by, typed_rec}
use Rattle.blocks.specs.Steps.{items_from, take_of}
use Rattle.blocks.specs.Step.{Step}
use Rattle.blocks.specs.Walks.{run_of, rest_of}
use Rattle.blocks.specs.Walked.{Walked}
use Rattle.blocks.specs.declared.block.Block.{Block}
use Rattle.blocks.specs.declared.record.Record.{Record}
use Rattle.blocks.specs.declared.record.Starts.{Starts}
use Rattle.blocks.specs.declared.walk.Walked.{Walked as CodeWalked}

module _ (b : Block) where
  abbrev pub octets_in : List ℕ
  octets_in = b.window.octets.now

  -- its records
  abbrev pub records_in : Records
  records_in = records_at octets_in b.window.len (category b.cat) b.window.len 3

  -- the record at an offset, and where its items start
  abbrev pub record_in : ℕ → Parsed ℕ Rec
  record_in at = record_at octets_in b.window.len (category b.cat) at

  abbrev pub items_in : ℕ → ℕ
  items_in at = items_from octets_in b.window.len (category b.cat) at

  -- the typed record of one at an offset, and the one that is made of items that start at these offsets
  abbrev pub typed_in : ℕ → Rec → Record
  typed_in at r = typed_rec octets_in b.window.len (category b.cat) r (items_in at)

  abbrev pub made_in : Starts → Record
  made_in starts = typed_by octets_in b.cat starts.marks starts.items

  -- a step to an offset
  abbrev pub take_in : ℕ → Step
  take_in at = take_of octets_in b.window.len b.cat at

  -- a run of records, so many at most, from where one stands
  abbrev pub run_in : ℕ → CodeWalked → Walked
  run_in budget w = run_of octets_in b.window.len (category b.cat) budget w.at w.count

  -- the rest of a record with these marks, from a field on whose item starts at an offset, and then the run's next records
  abbrev pub rest_in : ℕ → ℕ → ℕ → ℕ → ℕ → CodeWalked → Walked
  rest_in marks field at typ budget w = rest_of octets_in b.window.len (category b.cat) (flags_of 32 marks) field at typ w.at budget w.count
