-- Typed items: of the values read, and the values of a typed item; and what refuses a typed item (01 "Writing one record").
use Rattle.std.specs.Prelude.{Bool, true, List, [], ◌∷◌, ◌++◌, ℕ, ◌+◌, ◌*◌, ◌-◌, ◌%◌, leb, ltb, eqb, length, get_or}
use Rattle.octets.specs.Choice.{pick, when}
use Rattle.octets.specs.Numbers.{octets}
use Rattle.octets.specs.Outcomes.{WrittenListed}
use Rattle.octets.specs.Refusals.{passes_end, no_count, out_of_range}
use Rattle.layouts.specs.Groups.{merge, Group}
use Rattle.layouts.specs.Formats.{Format, Trace, fits_in, put}
use Rattle.layouts.specs.Offsets.{groups_at}
use Rattle.layouts.specs.Layouts.{octet, times, format, kind_of}
use Rattle.layouts.specs.Tables.{period, counter, version, layout}
use Rattle.layouts.specs.declared.category.Field.{Field}
use Rattle.items.specs.Size.{Size}
use Rattle.items.specs.Size as size
use Rattle.layouts.specs.declared.form.Form.{Form}
use Rattle.layouts.specs.declared.form.Form.TheVariants as form
use Rattle.items.specs.declared.typed.Item.{Item}
use Rattle.items.specs.declared.typed.Item.TheVariants as item
use Rattle.items.specs.declared.typed.Configuration.{Configuration}
use Rattle.items.specs.declared.typed.Place.{Place}
use Rattle.items.specs.declared.typed.Sdps.{Sdps}
use Rattle.items.specs.declared.typed.Service.{Service}
use Rattle.items.specs.declared.typed.Source.{Source}
use Rattle.items.specs.declared.typed.Station.{Station}
use Rattle.items.specs.declared.typed.TimeOfDay.{TimeOfDay}
use Rattle.items.specs.declared.typed.Counter.{Counter}
use Rattle.items.specs.declared.typed.Version.{Version}

-- value i of group j; 0 where there is none
abbrev pub val : Trace → ℕ → ℕ → ℕ
val tr j i = get_or (get_or tr j []) i 0

-- the typed forms of an item's values; of an item that is not there, zeros
abbrev pub source_of : Trace → Source
source_of tr = record { sac = val tr 0 0; sic = val tr 0 1 }

abbrev pub service_of : Trace → Service
service_of tr = record { sid = val tr 0 0; styp = val tr 0 1 }

abbrev pub time_of : Trace → TimeOfDay
time_of tr = record { 0 = val tr 0 0 }

abbrev pub sdps_of : Trace → Sdps
sdps_of tr = record { nogo = val tr 0 0; ovl = val tr 0 1; tsv = val tr 0 2; pss = val tr 0 3; sttn = val tr 0 4 }

abbrev pub station_of : Trace → Station
station_of tr = record {
  nogo = val tr 0 0;
  odp = val tr 0 1;
  oxt = val tr 0 2;
  msc = val tr 0 3;
  tsv = val tr 0 4;
  spo = val tr 0 5;
  rn = val tr 0 6;
  extended = val tr 0 7;
  gssp = record { 0 = val tr 1 0 };
}

abbrev pub configuration_of : Trace → Configuration
configuration_of tr = record {
  rp = record { 0 = val tr 0 0 };
  sc = val tr 0 1;
  extended = val tr 0 2;
  ssrp = record { 0 = val tr 1 0 };
}

abbrev pub form_of : Item → Form
form_of item.Absent = form.Spare
form_of (item.Source x) = form.Source
form_of (item.MessageType x) = form.MessageType
form_of (item.Service x) = form.Service
form_of (item.Identification x) = form.Identification
form_of (item.Time x) = form.Time
form_of (item.Batch x) = form.Batch
form_of (item.Sdps x) = form.Sdps
form_of (item.Report x) = form.Report
form_of (item.Station x) = form.Station
form_of (item.Configuration x) = form.Configuration
form_of (item.Range x) = form.Range
form_of (item.Status x) = form.Status
form_of (item.Statistics p) = form.Statistics
form_of (item.Versions p) = form.Versions
form_of (item.Expansion p) = form.Expansion
form_of (item.Purpose p) = form.Purpose

-- the item as it is read back, its entries or content at an offset: values of an absent extension are zero
abbrev pub settled : ℕ → Item → Item
settled at item.Absent = item.Absent
settled at (item.Source x) = item.Source x
settled at (item.MessageType x) = item.MessageType x
settled at (item.Service x) = item.Service x
settled at (item.Identification x) = item.Identification x
settled at (item.Time x) = item.Time x
settled at (item.Batch x) = item.Batch x
settled at (item.Sdps x) = item.Sdps x
settled at (item.Report x) = item.Report x
settled at (item.Station x) = item.Station (record {
  nogo = x.nogo;
  odp = x.odp;
  oxt = x.oxt;
  msc = x.msc;
  tsv = x.tsv;
  spo = x.spo;
  rn = x.rn;
  extended = x.extended;
  gssp = record { 0 = pick (eqb x.extended 1) x.gssp.0 0 };
})
settled at (item.Configuration x) = item.Configuration (record {
  rp = x.rp;
  sc = x.sc;
  extended = x.extended;
  ssrp = record { 0 = pick (eqb x.extended 1) x.ssrp.0 0 };
})
settled at (item.Range x) = item.Range x
settled at (item.Status x) = item.Status x
settled at (item.Statistics p) = item.Statistics (record { at = at; count = p.count })
settled at (item.Versions p) = item.Versions (record { at = at; count = p.count })
settled at (item.Expansion p) = item.Expansion (record { at = at; count = p.count })
settled at (item.Purpose p) = item.Purpose (record { at = at; count = p.count })

-- where the entries or content of an item at an offset lie, whose count octet has e more; nowhere from the end on
abbrev pub place_at : List ℕ → ℕ → ℕ → Place
place_at s at e = pick (leb (length s) at) (record { at = 0; count = 0 }) (record { at = at + 1; count = get_or s at 0 % 256 - e })

-- what a typed item supplies: values; or groups at a place of the source, counted by an octet that has e more
pub data Supply : Type 0 where
  exact : Trace → Supply
  placed : (e : ℕ) → Group → Place → Supply

-- FX is set where an extension follows, and is 0 in a last part
abbrev pub given : Item → Supply
given item.Absent = exact []
given (item.Source x) = exact ((x.sac ∷ x.sic ∷ []) ∷ [])
given (item.MessageType x) = exact ((x ∷ []) ∷ [])
given (item.Service x) = exact ((x.sid ∷ x.styp ∷ []) ∷ [])
given (item.Identification x) = exact ((x ∷ []) ∷ [])
given (item.Time x) = exact ((x.0 ∷ []) ∷ [])
given (item.Batch x) = exact ((x ∷ []) ∷ [])
given (item.Sdps x) = exact ((x.nogo ∷ x.ovl ∷ x.tsv ∷ x.pss ∷ x.sttn ∷ []) ∷ [])
given (item.Report x) = exact ((x ∷ []) ∷ [])
given (item.Station x) =
    exact
    ((x.nogo ∷ x.odp ∷ x.oxt ∷ x.msc ∷ x.tsv ∷ x.spo ∷ x.rn ∷ x.extended ∷ [])
    ∷ when (eqb x.extended 1) ((x.gssp.0 ∷ 0 ∷ []) ∷ []))
given (item.Configuration x) =
    exact
    ((x.rp.0 ∷ x.sc ∷ x.extended ∷ [])
    ∷ when (eqb x.extended 1) ((x.ssrp.0 ∷ 0 ∷ []) ∷ []))
given (item.Range x) = exact ((x ∷ []) ∷ [])
given (item.Status x) = exact ((x ∷ 0 ∷ []) ∷ [])
given (item.Statistics p) = placed 0 counter p
given (item.Versions p) = placed 0 version p
given (item.Expansion p) = placed 1 octet p
given (item.Purpose p) = placed 1 octet p

abbrev pub given_trace : List ℕ → Supply → Trace
given_trace s (exact tr) = tr
given_trace s (placed e g p) = ((p.count + e) ∷ []) ∷ groups_at p.count g s p.at

-- the values of a typed item; entries and content lie in the source s
abbrev pub trace_of : List ℕ → Item → Trace
trace_of s i = given_trace s (given i)

-- by item 7, 8, 11: offset and octets pass the source's end, none, a value that does not fit
abbrev pub given_refusal : List ℕ → Format → Supply → ℕ
given_refusal s f (exact tr) = pick (fits_in f tr) 0 out_of_range
given_refusal s f (placed e g p) =
    pick (ltb (length s) (p.at + p.count * g.wide)) passes_end
    (pick (eqb p.count 0) no_count
    (pick (fits_in f (given_trace s (placed e g p))) 0 out_of_range))

abbrev pub item_format : Item → Format
item_format i = format (layout (form_of i))

abbrev pub item_refusal : List ℕ → Item → ℕ
item_refusal s i = given_refusal s (item_format i) (given i)

-- the number of the first group, and of the extension; of entries and content, their place
abbrev pub first_number : Group → Supply → ℕ
first_number g (exact tr) = merge g.parts (get_or tr 0 []) 0
first_number g (placed e h p) = 0

abbrev pub second_number : Supply → ℕ
second_number (exact tr) = merge period.parts (get_or tr 1 []) 0
second_number (placed e h p) = 0

abbrev pub place_of : Supply → Place
place_of (exact tr) = record { at = 0; count = 0 }
place_of (placed e h p) = p

-- values that are given as such fit
abbrev pub exact_fits : Format → Supply → Bool
exact_fits f (exact tr) = fits_in f tr
exact_fits f (placed e h p) = true

-- a count octet that has e more, and the groups at a place of the source, spare bits zero
abbrev pub counted_octets : List ℕ → ℕ → Group → Place → List ℕ
counted_octets s e g p = octets 1 (p.count + e) ++ put (times p.count g) (groups_at p.count g s p.at) []

-- what stands at the item's field
abbrev pub field_of : Item → Field
field_of i = record { 0 = form_of i; 1 = kind_of (layout (form_of i)) }

-- the octets of an item, spare bits zero
abbrev pub item_octets : List ℕ → Item → List ℕ
item_octets s i = put (item_format i) (trace_of s i) []

-- what the writer is told of an item: how many octets it has, or its refusal
abbrev pub size_of : List ℕ → Item → Size
size_of s i = pick (eqb (item_refusal s i) 0) (Size.Octets (length (item_octets s i))) (Size.Refused (item_refusal s i))

-- The answer's cases, with document 01's number and values

abbrev pub listed_size : Size → WrittenListed
listed_size (size.Refused n) = record { refusal = n; length = 0 }
listed_size (size.Octets k) = record { refusal = 0; length = k }

abbrev pub size_listed : List ℕ → Item → WrittenListed
size_listed s i = record { refusal = item_refusal s i; length = pick (eqb (item_refusal s i) 0) (length (item_octets s i)) 0 }

-- an entry of 23/120, of its values
abbrev pub counter_of : List ℕ → Counter
counter_of v = record { typ = get_or v 0 0; reference = get_or v 1 0; count = get_or v 2 0 }

-- an entry of 242/550, of its values
abbrev pub version_of : List ℕ → Version
version_of v = record { category = get_or v 0 0; main = get_or v 1 0; sub = get_or v 2 0 }
