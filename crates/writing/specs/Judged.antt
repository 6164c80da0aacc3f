-- What refuses a typed record for writing (01 "Writing one record as a block"): 2, 6, 5, then by item 7, 8, 11; then 10.
use Rattle.std.specs.Prelude.{Bool, List, [], ◌∷◌, ℕ, ◌*◌, eqb, length, get_or}
use Rattle.octets.specs.Choice.{pick}
use Rattle.octets.specs.Refusals.{unknown_category, presence_broken}
use Rattle.layouts.specs.Categories.{known, category}
use Rattle.layouts.specs.declared.form.Form.{Form}
use Rattle.items.specs.Typed.{item_refusal}
use Rattle.items.specs.Size.{Size}
use Rattle.blocks.specs.Marks.{flags_of, marked}
use Rattle.blocks.specs.Records.{formats, marks_refusal, present, put_items, put_rec}
use Rattle.blocks.specs.Meaning.{item_in, sevens, values_of, rec_of}
use Rattle.blocks.specs.declared.record.Record.{Record}

-- where one is refused that, else the next
abbrev pub or_else : ℕ → ℕ → ℕ
or_else n m = pick (eqb n 0) m n

-- the record's type: the value of item 000, field 2, where it is marked; category 242 has none
abbrev pub marked_type : ℕ → ℕ → ℕ → ℕ
marked_type cat marks type = pick (eqb cat 242) 0 (pick (marked marks 2) type 0)

-- a specification octet of the low seven marks, FX not set
abbrev pub specification_octet : ℕ → ℕ
specification_octet low = get_or (sevens 1 low) 0 0 * 2

module _ (s : List ℕ) (t : Record) where
  -- of marked items in field order the first refusal; entries and content lie in the source s
  unfoldable pub items_refusal : List Bool → List Form → ℕ
  items_refusal [] fs = 0
  items_refusal (b ∷ bs) [] = 0
  items_refusal (b ∷ bs) (f ∷ fs) = or_else (pick b (item_refusal s (item_in t f)) 0) (items_refusal bs fs)

  -- the octets of marked items, spare bits zero
  abbrev pub octets_of : List Bool → List Form → List ℕ
  octets_of bs fs = put_items (formats bs fs) (values_of s t bs fs) []

  -- how many octets the items have, or the refusal
  unfoldable pub items_size : List Bool → List Form → Size
  items_size bs fs =
      let n = items_refusal bs fs in
      pick (eqb n 0) (Size.Octets (length (octets_of bs fs))) (Size.Refused n)

  abbrev pub flags : List Bool
  flags = flags_of 32 t.marks

  abbrev pub fields : List Form
  fields = (category t.category).fields

  abbrev pub items_octets : List ℕ
  items_octets = octets_of flags fields

  -- 6 for no mark, 5 for one of a spare field or of one past the category's last
  abbrev pub marked_refusal : ℕ
  marked_refusal = marks_refusal (category t.category) t.marks

  -- 10: presence broken
  abbrev pub presence_refusal : ℕ
  presence_refusal = pick (present (category t.category) (rec_of s t).marks (rec_of s t).items) 0 presence_broken

  unfoldable pub record_refusal : ℕ
  record_refusal = pick (known t.category) (or_else marked_refusal (or_else (items_refusal flags fields) presence_refusal)) unknown_category

  -- the record in normal form
  unfoldable pub record_octets : List ℕ
  record_octets = put_rec (category t.category) (rec_of s t)

  unfoldable pub record_size : Size
  record_size = pick (eqb record_refusal 0) (Size.Octets (length record_octets)) (Size.Refused record_refusal)
