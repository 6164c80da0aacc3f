-- One step of the cursor, and one entry of a record (01 "Reading order", "Items").
use Rattle.std.specs.Prelude.{◌||◌, List, [], ℕ, ◌+◌, ◌*◌, ◌-◌, leb, ltb, eqb}
use Rattle.octets.specs.Choice.{pick}
use Rattle.octets.specs.Numbers.{number}
use Rattle.octets.specs.Refusals.{no_such}
use Rattle.layouts.specs.Groups.{values, Group}
use Rattle.layouts.specs.Formats.{Parsed, refused, got}
use Rattle.layouts.specs.Tables.{counter, version}
use Rattle.layouts.specs.Categories.{Category, category}
use Rattle.items.specs.Typed.{counter_of, version_of}
use Rattle.items.specs.declared.typed.Counter.{Counter}
use Rattle.items.specs.declared.typed.Version.{Version}
use Rattle.blocks.specs.Headers.{header_of}
use Rattle.blocks.specs.Records.{Rec}
use Rattle.blocks.specs.Offsets.{specification_at, record_at}
use Rattle.blocks.specs.Typed.{absent, stop_of, typed_rec}
use Rattle.blocks.specs.Head.{Head}
use Rattle.blocks.specs.Head as head
use Rattle.blocks.specs.declared.record.Record.{Record}
use Rattle.blocks.specs.Step.{Step}
use Rattle.blocks.specs.Step as step
use Rattle.blocks.specs.Found.{Found}
use Rattle.blocks.specs.Found as found

-- where the items of a record at an offset start: behind its specification
abbrev pub items_from : List ℕ → ℕ → Category → ℕ → ℕ
items_from s len c at = stop_of at (specification_at s len (c.most - 1) at)

-- by what is made of a refusal, its number and offset, and of a typed record with the next start
module _ {A : Type 0} (no : ℕ → ℕ → A) (yes : Record → ℕ → A) where
  abbrev pub taken_by : List ℕ → ℕ → Category → ℕ → Parsed ℕ Rec → A
  taken_by s len c at (refused n) = no n at
  taken_by s len c at (got r q) = yes (typed_rec s len c r (items_from s len c at)) q

  -- a record of a block from an offset
  unfoldable pub take_by : List ℕ → ℕ → ℕ → ℕ → A
  take_by s len cat at = taken_by s len (category cat) at (record_at s len (category cat) at)

  -- the header first; a start below 3, or at or past LEN, gets 17; any other is read as if a record began there
  abbrev pub step_from : List ℕ → ℕ → Head → A
  step_from s start (head.Refused n) = no n 0
  step_from s start (head.Good cat len) = pick (ltb start 3 || leb len start) (no no_such 0) (take_by s len cat start)

  unfoldable pub step_by : List ℕ → ℕ → A
  step_by s start = step_from s start (header_of s)

-- an entry's group, by the category: of 23/120 or of 242/550
abbrev pub entry_group_of : ℕ → Group
entry_group_of cat = pick (eqb cat 242) version counter

-- the values of entry k of those from an offset
abbrev pub entry_values : List ℕ → Group → ℕ → ℕ → List ℕ
entry_values s g at k = values g.parts (number g.wide s (at + k * g.wide))

-- by what is made of a refusal, and of a category with an entry's values
module _ {A : Type 0} (no : ℕ → ℕ → A) (yes : ℕ → List ℕ → A) where
  -- 17 for a number that the record does not have
  abbrev pub entry_from : List ℕ → ℕ → ℕ → ℕ → ℕ → A
  entry_from s cat at count k = pick (leb count k) (no no_such 0) (yes cat (entry_values s (entry_group_of cat) at k))

  -- a step's refusals, then 17
  unfoldable pub entry_by : List ℕ → ℕ → ℕ → A
  entry_by s start k = step_by no (λ t q. entry_from s t.category t.entries.at t.entries.count k) s start

-- The answers themselves, and for each of their cases document 01's number and values

unfoldable pub take_of : List ℕ → ℕ → ℕ → ℕ → Step
take_of = take_by Step.Refused (λ t q. Step.Taken t (record { at = q }))

unfoldable pub step_of : List ℕ → ℕ → Step
step_of = step_by Step.Refused (λ t q. Step.Taken t (record { at = q }))

pub record StepListed : Type 0 where
  pub refusal : ℕ
  pub offset : ℕ
  pub taken : Record
  pub next : ℕ

-- refused: an all-absent record and next start 0
abbrev pub step_refused : ℕ → ℕ → StepListed
step_refused n at = record { refusal = n; offset = at; taken = absent; next = 0 }

abbrev pub step_taken : Record → ℕ → StepListed
step_taken t q = record { refusal = 0; offset = 0; taken = t; next = q }

abbrev pub listed_step : Step → StepListed
listed_step (step.Refused n at) = step_refused n at
listed_step (step.Taken t c) = step_taken t c.at

unfoldable pub step_listed : List ℕ → ℕ → StepListed
step_listed = step_by step_refused step_taken

abbrev pub found_of : ℕ → List ℕ → Found
found_of cat v = pick (eqb cat 242) (Found.Version (version_of v)) (Found.Counter (counter_of v))

unfoldable pub entry_in : List ℕ → ℕ → ℕ → ℕ → ℕ → Found
entry_in = entry_from Found.Refused found_of

unfoldable pub entry_of : List ℕ → ℕ → ℕ → Found
entry_of = entry_by Found.Refused found_of

-- an entry of 23/120 or of 242/550; the other is all zero
pub record EntryListed : Type 0 where
  pub refusal : ℕ
  pub offset : ℕ
  pub counter : Counter
  pub version : Version

-- refused: all zero
abbrev pub entry_refused : ℕ → ℕ → EntryListed
entry_refused n at = record { refusal = n; offset = at; counter = counter_of []; version = version_of [] }

abbrev pub counter_found : Counter → EntryListed
counter_found c = record { refusal = 0; offset = 0; counter = c; version = version_of [] }

abbrev pub version_found : Version → EntryListed
version_found v = record { refusal = 0; offset = 0; counter = counter_of []; version = v }

abbrev pub entry_found : ℕ → List ℕ → EntryListed
entry_found cat v = pick (eqb cat 242) (version_found (version_of v)) (counter_found (counter_of v))

abbrev pub listed_entry : Found → EntryListed
listed_entry (found.Refused n at) = entry_refused n at
listed_entry (found.Counter c) = counter_found c
listed_entry (found.Version v) = version_found v

unfoldable pub entry_listed : List ℕ → ℕ → ℕ → EntryListed
entry_listed = entry_by entry_refused entry_found
