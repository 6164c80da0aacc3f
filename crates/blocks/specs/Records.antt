-- A record: a field specification, and then the marked items in field order.
use Rattle.std.specs.Prelude.{Bool, true, false, ◌&&◌, ◌||◌, not, List, [], ◌∷◌, ◌++◌, ℕ, eqb, get_or, drop}
use Rattle.octets.specs.Choice.{pick}
use Rattle.octets.specs.Refusals.{spare_marked, none_marked}
use Rattle.layouts.specs.Formats.{Format, done, Trace, put}
use Rattle.layouts.specs.Layouts.{is_unused, format}
use Rattle.layouts.specs.Tables.{layout}
use Rattle.layouts.specs.Categories.{Category}
use Rattle.layouts.specs.declared.form.Form.{Form}
use Rattle.blocks.specs.Forms.{form_number}
use Rattle.blocks.specs.Specification.{put_marks, flags}
use Rattle.blocks.specs.Marks.{flags_of}
use Rattle.layouts.specs.Presence.{needs_of, meets}

-- the marks, seven to a number, and for each field its values: none where it is not marked
pub record Rec : Type 0 where
  pub marks : List ℕ
  pub items : List Trace

-- a field that is not marked has no octets
unfoldable pub formats : List Bool → List Form → List Format
formats [] fs = []
formats (b ∷ bs) [] = []
formats (b ∷ bs) (f ∷ fs) = pick b (format (layout f)) done ∷ formats bs fs

-- a spare field, or one past the last, is marked
unfoldable pub marks_spare : List Bool → List Form → Bool
marks_spare [] fs = false
marks_spare (b ∷ bs) [] = b || marks_spare bs []
marks_spare (b ∷ bs) (f ∷ fs) = (b && is_unused (layout f)) || marks_spare bs fs

-- the items of a record with these marks
unfoldable pub layout_of : Category → List ℕ → List Format
layout_of c gs = formats (flags gs) c.fields

-- no field is marked
unfoldable pub unmarked : List Bool → Bool
unmarked [] = true
unmarked (b ∷ bs) = not b && unmarked bs

-- 6 for no mark, 5 for one of a spare field, else 0
abbrev pub flags_refusal : Category → List Bool → ℕ
flags_refusal c bs = pick (unmarked bs) none_marked (pick (marks_spare bs c.fields) spare_marked 0)

-- of the marks of a specification, seven to a number, and of marks as a number
unfoldable pub specification_refusal : Category → List ℕ → ℕ
specification_refusal c gs = flags_refusal c (flags gs)

abbrev pub marks_refusal : Category → ℕ → ℕ
marks_refusal c m = flags_refusal c (flags_of 32 m)

-- item 000
abbrev pub is_type : Form → Bool
is_type f = eqb (form_number f) (form_number Form.MessageType)

-- the first value of an item, and t where it has none
abbrev pub value_or : ℕ → Trace → ℕ
value_or t [] = t
value_or t (v ∷ tr) = get_or v 0 0

-- the type that the items of fields give: the value of item 000, and t where it is not there
abbrev pub type_in : ℕ → List Form → List Trace → ℕ
type_in t [] trs = t
type_in t (f ∷ fs) [] = t
type_in t (f ∷ fs) (tr ∷ trs) = type_in (pick (is_type f) (value_or t tr) t) fs trs

-- the record's type; category 242 has no item 000
abbrev pub type_of : Category → List Trace → ℕ
type_of c trs = type_in 0 c.fields trs

unfoldable pub present : Category → List ℕ → List Trace → Bool
present c gs trs = meets (needs_of c.cat) (type_of c trs) (flags gs)

unfoldable pub put_items : List Format → List Trace → List (List ℕ) → List ℕ
put_items [] trs xs = []
put_items (f ∷ fs) [] xs = []
put_items (f ∷ fs) (tr ∷ trs) xs = put f tr (get_or xs 0 []) ++ put_items fs trs (drop 1 xs)

-- a record in normal form: no last specification octet that marks nothing, spare bits zero
unfoldable pub put_rec : Category → Rec → List ℕ
put_rec c r = put_marks r.marks ++ put_items (layout_of c r.marks) r.items []
