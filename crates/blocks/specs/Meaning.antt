-- The record that a typed record means: its marks, and of each marked item the values; entries and content lie in the octets lent.
use Rattle.std.specs.Prelude.{Bool, List, [], ◌∷◌, ℕ, zero, suc, ◌+◌, ◌*◌, ◌/◌, ◌%◌}
use Rattle.octets.specs.Choice.{pick}
use Rattle.layouts.specs.Formats.{Trace}
use Rattle.layouts.specs.Categories.{category}
use Rattle.layouts.specs.declared.form.Form.{Form}
use Rattle.layouts.specs.declared.form.Form.TheVariants as form
use Rattle.items.specs.Typed.{trace_of}
use Rattle.items.specs.declared.typed.Item.{Item}
use Rattle.blocks.specs.Marks.{flags_of}
use Rattle.blocks.specs.Records.{Rec}
use Rattle.blocks.specs.declared.record.Record.{Record}

-- the item of a form
abbrev pub item_in : Record → Form → Item
item_in t form.Spare = Item.Absent
item_in t form.Source = Item.Source t.source
item_in t form.MessageType = Item.MessageType t.message_type
item_in t form.Service = Item.Service t.service
item_in t form.Identification = Item.Identification t.identification
item_in t form.Time = Item.Time t.time
item_in t form.Batch = Item.Batch t.batch
item_in t form.Sdps = Item.Sdps t.sdps
item_in t form.Report = Item.Report t.report
item_in t form.Station = Item.Station t.station
item_in t form.Configuration = Item.Configuration t.configuration
item_in t form.Range = Item.Range t.range
item_in t form.Status = Item.Status t.status
item_in t form.Statistics = Item.Statistics t.entries
item_in t form.Versions = Item.Versions t.entries
item_in t form.Expansion = Item.Expansion t.expansion
item_in t form.Purpose = Item.Purpose t.purpose

-- seven marks to a number: the first field's, the low bit here, is the high bit of a specification octet
unfoldable pub sevens : ℕ → ℕ → List ℕ
sevens zero m = []
sevens (suc n) m =
    (m % 2 * 64 + m / 2 % 2 * 32 + m / 4 % 2 * 16 + m / 8 % 2 * 8 + m / 16 % 2 * 4 + m / 32 % 2 * 2 + m / 64 % 2)
    ∷ sevens n (m / 128)

-- for each field its item's values; none where it is not marked
unfoldable pub values_of : List ℕ → Record → List Bool → List Form → List Trace
values_of s t [] fs = []
values_of s t (b ∷ bs) [] = []
values_of s t (b ∷ bs) (f ∷ fs) = pick b (trace_of s (item_in t f)) [] ∷ values_of s t bs fs

unfoldable pub rec_of : List ℕ → Record → Rec
rec_of s t =
    let c = category t.category in
    record { marks = sevens c.most t.marks; items = values_of s t (flags_of 32 t.marks) c.fields }
