-- The typed record: of each item its values, by its form; an item that is not there has none, and is all zero.
use Rattle.std.specs.Prelude.{Bool, List, [], ◌∷◌, ℕ, zero, suc, ◌+◌, ◌-◌, eqb, get_or}
use Rattle.octets.specs.Choice.{pick}
use Rattle.layouts.specs.Formats.{Parsed, refused, got, Format, Trace}
use Rattle.layouts.specs.Offsets.{run_at, trace_at}
use Rattle.layouts.specs.Layouts.{format}
use Rattle.layouts.specs.Tables.{layout}
use Rattle.layouts.specs.Categories.{Category, category, entries_form}
use Rattle.layouts.specs.declared.form.Form.{Form}
use Rattle.items.specs.Typed.{val, source_of, service_of, time_of, sdps_of, station_of, configuration_of, place_at}
use Rattle.items.specs.declared.typed.Place.{Place}
use Rattle.blocks.specs.Forms.{form_number}
use Rattle.blocks.specs.Specification.{flags}
use Rattle.blocks.specs.Marks.{marks_of, marked}
use Rattle.blocks.specs.Records.{Rec, layout_of}
use Rattle.blocks.specs.declared.record.Record.{Record}

abbrev pub nowhere : Place
nowhere = record { at = 0; count = 0 }

-- the record of a category with these marks, of each item's values and of the places of entries and content: `place` is given an item's
-- form and how many more than these its count octet has
abbrev pub typed : ℕ → ℕ → (Form → Trace) → (Form → ℕ → Place) → Record
typed cat marks values place = record {
  category = cat;
  marks = marks;
  source = source_of (values Form.Source);
  message_type = val (values Form.MessageType) 0 0;
  service = service_of (values Form.Service);
  identification = val (values Form.Identification) 0 0;
  time = time_of (values Form.Time);
  batch = val (values Form.Batch) 0 0;
  sdps = sdps_of (values Form.Sdps);
  report = val (values Form.Report) 0 0;
  station = station_of (values Form.Station);
  configuration = configuration_of (values Form.Configuration);
  range = val (values Form.Range) 0 0;
  status = val (values Form.Status) 0 0;
  entries = place (entries_form cat) 0;
  expansion = place Form.Expansion 1;
  purpose = place Form.Purpose 1;
}

-- no record: no category, no mark and no item
abbrev pub absent : Record
absent = typed 0 0 (λ f. []) (λ f e. nowhere)

-- the field after one; after none there is none
abbrev pub field_after : ℕ → ℕ
field_after zero = 0
field_after (suc f) = suc (suc f)

-- the number of the field of a form, from 1; 0 where there is none
abbrev pub field_for : List Form → Form → ℕ
field_for [] f = 0
field_for (g ∷ gs) f = pick (eqb (form_number g) (form_number f)) 1 (field_after (field_for gs f))

-- the item of a form is marked
abbrev pub has : Record → Form → Bool
has t f = marked t.marks (field_for (category t.category).fields f)

-- Of a record that was read, its items behind an offset

-- the place of an item's entries or content, whose first octet, that counts e more, stands at an offset
abbrev pub place_in : ℕ → ℕ → Trace → Place
place_in at e [] = nowhere
place_in at e (v ∷ tr) = record { at = at + 1; count = get_or v 0 0 - e }

-- where what was read ends; at the start where it was refused
abbrev pub stop_of : {A : Type 0} → ℕ → Parsed ℕ A → ℕ
stop_of at (refused n) = at
stop_of at (got a q) = q

-- of items one after the other, where the one starts that has n before it: where these end
unfoldable pub start_in : List ℕ → ℕ → List Format → ℕ → ℕ → ℕ
start_in s len fs at zero = at
start_in s len [] at (suc n) = at
start_in s len (f ∷ fs) at (suc n) = start_in s len fs (stop_of at (run_at s len f at)) n

-- the values of the item of a form
abbrev pub values_for : Category → Rec → Form → Trace
values_for c r f = get_or ([] ∷ r.items) (field_for c.fields f) []

module _ (s : List ℕ) (len : ℕ) (c : Category) (r : Rec) (at : ℕ) where
  -- where it starts: behind the items of the fields before it
  abbrev pub start_for : Form → ℕ
  start_for f = start_in s len (layout_of c r.marks) at (field_for c.fields f - 1)

  unfoldable pub typed_rec : Record
  typed_rec = typed c.cat (marks_of (flags r.marks)) (values_for c r) (λ f e. place_in (start_for f) e (values_for c r f))

-- Of octets, the items that start at these offsets, by the numbers of their forms; one that is not there starts at the end of the octets, where
-- everything is zero
abbrev pub typed_by : List ℕ → ℕ → ℕ → List ℕ → Record
typed_by s cat marks starts =
    let start : Form → ℕ = λ f. get_or starts (form_number f) 0 in
    typed cat marks (λ f. trace_at (format (layout f)) s (start f)) (λ f e. place_at s (start f) e)
