-- When each refusal number of writing and of rewriting is given, in the words of document 01's table "Refusal numbers" and of 01 "Writing one record as a
-- block": 2, 6, 5, then by item 7, 8, 11; then 10, 12. The laws are in proofs/GivenWriting.antt: a number is given when this holds, and only then.
use Rattle.std.specs.Prelude.{true, false, List, [], ◌∷◌, ◌⊎◌, ◌≡◌, ℕ, ◌+◌, ◌*◌, ◌≤◌, ◌<◌, length}
use Rattle.octets.specs.Refusals.{unknown_category, spare_marked, none_marked, passes_end, no_count, presence_broken, out_of_range}
use Rattle.layouts.specs.Groups.{fits, Group}
use Rattle.layouts.specs.Formats.{Format, fits_in}
use Rattle.layouts.specs.Layouts.{is_unused}
use Rattle.layouts.specs.Categories.{known, category, form_at, layout_at}
use Rattle.items.specs.Typed.{Supply, exact, placed, given, item_format}
use Rattle.items.specs.declared.typed.Item.{Item}
use Rattle.items.specs.declared.typed.Place.{Place}
use Rattle.blocks.specs.Blocks.{Block, wrong, all, block_of, put_block}
use Rattle.blocks.specs.Boundaries.{Full}
use Rattle.blocks.specs.Marks.{flags_of, marked}
use Rattle.blocks.specs.Meaning.{item_in, rec_of}
use Rattle.layouts.specs.Presence.{needs_of, meets}
use Rattle.blocks.specs.Steps.{entry_values}
use Rattle.blocks.specs.declared.record.Record.{Record}
use Rattle.writing.specs.Judged.{marked_type}
use Rattle.demands.specs.Given.{BlockFault, OutputFault}

-- An item is given by its values; or it is entries or content, so many groups at a place of the source, which an octet counts that has e more

-- the place lies in the source
abbrev pub Inside : List ℕ → Group → Place → Type 0
Inside s g p = p.at + p.count * g.wide ≤ length s

-- "7: .. when writing, a place outside the lent source": offset and octets pass its end
abbrev pub PlaceOutside : List ℕ → Supply → Type 0
PlaceOutside s (exact vs) = ⊥
PlaceOutside s (placed e g p) = length s < p.at + p.count * g.wide

-- "8 for none"
abbrev pub NoneGiven : List ℕ → Supply → Type 0
NoneGiven s (exact vs) = ⊥
NoneGiven s (placed e g p) = Inside s g p × (p.count ≡ 0)

-- an entry has a value that is out of range
abbrev pub EntryOut : List ℕ → Group → Place → Type 0
EntryOut s g p = (j : ℕ) × (j < p.count) × (fits g.parts (entry_values s g p.at j) ≡ false)

-- "11: a value out of range, or too wide for its bits when writing"; "11 for over 255 entries or 254 octets, or an entry's value"
abbrev pub DoesNotFit : List ℕ → Format → Supply → Type 0
DoesNotFit s f (exact vs) = fits_in f vs ≡ false
DoesNotFit s f (placed e g p) = Inside s g p × (0 < p.count) × ((255 < p.count + e) ⊎ EntryOut s g p)

pub data ItemFault (s : List ℕ) (i : Item) (n : ℕ) : Type 0 where
  outside : PlaceOutside s (given i) → n ≡ passes_end → ItemFault s i n
  empty : NoneGiven s (given i) → n ≡ no_count → ItemFault s i n
  wide : DoesNotFit s (item_format i) (given i) → n ≡ out_of_range → ItemFault s i n

-- A typed record t, whose entries and content lie in the source s
module _ (s : List ℕ) (t : Record) where
  -- a field is marked, the first is field 1; and its item
  abbrev pub Marked : ℕ → Type 0
  Marked f = marked t.marks f ≡ true

  abbrev pub item_on : ℕ → Item
  item_on f = item_in t (form_at (category t.category) f)

  -- "6: no field marked"
  abbrev pub NothingMarked : Type 0
  NothingMarked = (f : ℕ) → Marked f → ⊥

  -- "5: a spare field marked"; a field past the category's last is spare
  abbrev pub SpareOnMark : Type 0
  SpareOnMark = (f : ℕ) × Marked f × (is_unused (layout_at (category t.category) f) ≡ true)

  -- none of 2, 6, 5
  abbrev pub GoodMarks : Type 0
  GoodMarks = (known t.category ≡ true) × (NothingMarked → ⊥) × (SpareOnMark → ⊥)

  -- the first marked item in field order that is faulty
  pub record FirstFaulty (n : ℕ) : Type 0 where
    pub field : ℕ
    pub marked : Marked field
    pub before : (g : ℕ) → g < field → Marked g → (m : ℕ) → ItemFault s (item_on g) m → ⊥
    pub fault : ItemFault s (item_on field) n

  abbrev pub GoodItems : Type 0
  GoodItems = (f : ℕ) → Marked f → (m : ℕ) → ItemFault s (item_on f) m → ⊥

  -- "10: presence broken": the needs of 01 "Presence" are not all met by the record's type and marks
  abbrev pub PresenceBroken : Type 0
  PresenceBroken = meets (needs_of t.category) (marked_type t.category t.marks t.message_type) (flags_of 32 t.marks) ≡ false

  -- the record as a block
  abbrev pub its_block : List ℕ
  its_block = put_block t.category (rec_of s t ∷ [])

pub data TypedFault (s : List ℕ) (t : Record) (n : ℕ) : Type 0 where
  unknown : known t.category ≡ false → n ≡ unknown_category → TypedFault s t n
  none : known t.category ≡ true → NothingMarked s t → n ≡ none_marked → TypedFault s t n
  spare : known t.category ≡ true → SpareOnMark s t → n ≡ spare_marked → TypedFault s t n
  item : GoodMarks s t → FirstFaulty s t n → TypedFault s t n
  absent : GoodMarks s t → GoodItems s t → PresenceBroken s t → n ≡ presence_broken → TypedFault s t n

-- none of these
abbrev pub Writable : List ℕ → Record → Type 0
Writable s t = (m : ℕ) → TypedFault s t m → ⊥

-- then 12, for the record as a block
abbrev pub WriteFault : List ℕ → Record → List ℕ → ℕ → Type 0
WriteFault s t l n = OutputFault (TypedFault s t) (Writable s t) (its_block s t) l n

-- Rewriting: reader's refusals, then 12

-- a block's records in normal form, in their order
abbrev pub normal_of : Block → List ℕ
normal_of (wrong n at) = []
normal_of (all cat rs) = put_block cat rs

-- the reader refuses the block; or accepts it
abbrev pub Unread : List ℕ → ℕ → Type 0
Unread s n = (at : ℕ) × BlockFault s n at

abbrev pub Accepted : List ℕ → Type 0
Accepted s = (len : ℕ) × (count : ℕ) × Full s len count

abbrev pub RewriteFault : List ℕ → List ℕ → ℕ → Type 0
RewriteFault s l n = OutputFault (Unread s) (Accepted s) (normal_of (block_of s)) l n
