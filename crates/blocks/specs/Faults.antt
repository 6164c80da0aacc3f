-- What each refusal number of reading is given for, in the words of document 01's table "Refusal numbers". The laws are in
-- proofs/Faults.antt and proofs/RecordFaults.antt: a number is given when this holds, and only then.
use Rattle.std.specs.Prelude.{◌≡◌, true, false, List, ◌∷◌, ◌⊎◌, ℕ, suc, ◌+◌, ◌*◌, ◌-◌, ◌≤◌, ◌<◌, length, get_or, take}
use Rattle.octets.specs.Choice.{odd}
use Rattle.octets.specs.Numbers.{number}
use Rattle.layouts.specs.Formats.{got, Trace, fits_in}
use Rattle.layouts.specs.Offsets.{trace_at}
use Rattle.layouts.specs.Layouts.{is_unused, format, kind_of}
use Rattle.layouts.specs.Ends.{kind_end}
use Rattle.layouts.specs.Tables.{layout}
use Rattle.layouts.specs.Categories.{Category, known, form_at, layout_at}
use Rattle.layouts.specs.End.{End}
use Rattle.layouts.specs.declared.ends.Kind.{Kind}
use Rattle.layouts.specs.declared.ends.Kind.TheVariants.{Spare, Fixed, Extended, Repeated, Explicit}
use Rattle.layouts.specs.declared.form.Form.{Form}
use Rattle.blocks.specs.Specification.{flags}
use Rattle.blocks.specs.Records.{layout_of, present}
use Rattle.blocks.specs.Offsets.{specification_at, items_at}

-- The header; CAT is the first octet, LEN the next two

-- "1: fewer than 3 octets, or LEN beyond the octets lent" (where 2 and 3 are not given before it)
abbrev pub TooShort : List ℕ → Type 0
TooShort s = (length s < 3) ⊎ ((3 ≤ length s) × (known (get_or s 0 0) ≡ true) × (4 ≤ number 2 s 1) × (length s < number 2 s 1))

-- "2: category other than 23, 65, 242"
abbrev pub Unknown : List ℕ → Type 0
Unknown s = (3 ≤ length s) × (known (get_or s 0 0) ≡ false)

-- "3: LEN below 4"
abbrev pub LenLow : List ℕ → Type 0
LenLow s = (3 ≤ length s) × (known (get_or s 0 0) ≡ true) × (number 2 s 1 < 4)

-- An item at an offset, by its kind
module _ (s : List ℕ) (len : ℕ) where
  -- so many octets from an offset stand before LEN, each with its low bit, FX, set
  abbrev pub FxSet : ℕ → ℕ → Type 0
  FxSet n at = (j : ℕ) → j < n → (at + j < len) × (odd (get_or s (at + j) 0) ≡ true)

  -- "7: a specification or item passes LEN": the item; an octet that counts passes it, or what it counts does. Of an extendable item the
  -- first part passes it, or the extension that FX in the octet before it asks for
  abbrev pub Passes : Kind → ℕ → Type 0
  Passes Spare at = ⊥
  Passes (Fixed size) at = len < at + size
  Passes (Extended size more) at =
      (len < at + size) ⊎ ((n : ℕ) × (n < more) × FxSet (suc n) (at + (size - 1)) × (len ≤ at + size + n))
  Passes (Repeated size) at = (len ≤ at) ⊎ ((at < len) × (0 < get_or s at 0) × (len < at + 1 + get_or s at 0 * size))
  Passes Explicit at = (len ≤ at) ⊎ ((at < len) × (1 < get_or s at 0) × (len < at + get_or s at 0))

  -- "8: REP 0, or RE/SP length below 2"
  abbrev pub NoCount : Kind → ℕ → Type 0
  NoCount Spare at = ⊥
  NoCount (Fixed size) at = ⊥
  NoCount (Extended size more) at = ⊥
  NoCount (Repeated size) at = (at < len) × (get_or s at 0 ≡ 0)
  NoCount Explicit at = (at < len) × (get_or s at 0 < 2)

  -- "9: FX set beyond the last extension above": in the first part's last octet and in each extension
  abbrev pub PastLast : Kind → ℕ → Type 0
  PastLast Spare at = ⊥
  PastLast (Fixed size) at = ⊥
  PastLast (Extended size more) at = (at + size ≤ len) × FxSet (suc more) (at + (size - 1))
  PastLast (Repeated size) at = ⊥
  PastLast Explicit at = ⊥

  -- "11: a value out of range": the item ends, and its values do not all fit
  abbrev pub OutOfRange : Form → ℕ → Type 0
  OutOfRange f at =
      (q : ℕ) × (kind_end s len (kind_of (layout f)) at ≡ End.At q) × (fits_in (format (layout f)) (trace_at (format (layout f)) s at) ≡ false)

-- Marks, seven to a number

-- a field is marked; the first is field 1
abbrev pub Marks : List ℕ → ℕ → Type 0
Marks gs f = get_or (false ∷ flags gs) f false ≡ true

-- "6: no field marked"
abbrev pub NoneMarked : List ℕ → Type 0
NoneMarked gs = (f : ℕ) → Marks gs f → ⊥

-- "5: a spare field marked" (one past the category's last is spare)
abbrev pub SpareMarked : Category → List ℕ → Type 0
SpareMarked c gs = (f : ℕ) × Marks gs f × (is_unused (layout_at c f) ≡ true)

-- A record of a category at an offset
module _ (s : List ℕ) (len : ℕ) (c : Category) (at : ℕ) where
  -- "4: FX set in the last specification octet allowed"
  abbrev pub Long : Type 0
  Long = FxSet s len c.most at

  -- "7: a specification or item passes LEN": the specification; FX in the octets before asks for one that is not there
  abbrev pub Cut : Type 0
  Cut = (n : ℕ) × (n < c.most) × FxSet s len n at × (len ≤ at + n)

  -- the specification is read, and the items start behind it
  abbrev pub Read : List ℕ → ℕ → Type 0
  Read gs p = specification_at s len (c.most - 1) at ≡ got gs p

  -- and neither 6 nor 5 is given
  abbrev pub GoodMarks : List ℕ → ℕ → Type 0
  GoodMarks gs p = Read gs p × (NoneMarked gs → ⊥) × (SpareMarked c gs → ⊥)

  -- a marked item is faulty: those of the fields before it are good, and end where it starts
  pub record Faulty (Fault : Form → ℕ → Type 0) : Type 0 where
    pub marks : List ℕ
    pub first : ℕ
    pub good : GoodMarks marks first
    pub field : ℕ
    pub marked : Marks marks field
    pub before : List Trace
    pub start : ℕ
    pub reached : items_at s len (take (field - 1) (layout_of c marks)) first ≡ got before start
    pub fault : Fault (form_at c field) start

  -- "10: presence broken": all items are good
  pub record Broken : Type 0 where
    pub marks : List ℕ
    pub first : ℕ
    pub good : GoodMarks marks first
    pub values : List Trace
    pub next : ℕ
    pub items : items_at s len (layout_of c marks) first ≡ got values next
    pub absent : present c marks values ≡ false
