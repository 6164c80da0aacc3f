-- The categories (01 "Block and field specification"; 003 §5.3, 000 §5.3, 002 §5.3): field 1 is the first of a list.
use Rattle.std.specs.Prelude.{Bool, ◌||◌, List, [], ◌∷◌, ℕ, zero, suc, ◌+◌, ◌-◌, ◌*◌, ◌^◌, eqb, get_or}
use Rattle.octets.specs.Choice.{pick}
use Rattle.layouts.specs.Layouts.{Layout, is_unused, kind_of}
use Rattle.layouts.specs.Tables.{layout}
use Rattle.layouts.specs.declared.category.Field.{Field}
use Rattle.layouts.specs.declared.form.Form.{Form}
use Rattle.layouts.specs.declared.form.Form.TheVariants.{Spare, Source, MessageType, Service, Identification, Time, Batch, Sdps, Report, Station, Configuration, Range, Status, Statistics, Versions, Expansion, Purpose}

pub record Category : Type 0 where
  -- CAT, the first octet of its blocks
  pub cat : ℕ
  -- the most specification octets
  pub most : ℕ
  pub fields : List Form

abbrev pub cat23 : Category
cat23 = record {
  cat = 23;
  most = 2;
  fields =
      Source  -- 1, 010
      ∷ MessageType  -- 2, 000
      ∷ Service  -- 3, 015
      ∷ Time  -- 4, 070
      ∷ Station  -- 5, 100
      ∷ Configuration  -- 6, 101
      ∷ Range  -- 7, 200
      ∷ Status  -- 8, 110
      ∷ Statistics  -- 9, 120
      ∷ Spare  -- 10
      ∷ Spare  -- 11
      ∷ Spare  -- 12
      ∷ Expansion  -- 13, RE
      ∷ Purpose  -- 14, SP
      ∷ [];
}

abbrev pub cat65 : Category
cat65 = record {
  cat = 65;
  most = 2;
  fields =
      Source  -- 1, 010
      ∷ MessageType  -- 2, 000
      ∷ Identification  -- 3, 015
      ∷ Time  -- 4, 030
      ∷ Batch  -- 5, 020
      ∷ Sdps  -- 6, 040
      ∷ Report  -- 7, 050
      ∷ Spare  -- 8
      ∷ Spare  -- 9
      ∷ Spare  -- 10
      ∷ Spare  -- 11
      ∷ Spare  -- 12
      ∷ Expansion  -- 13, RE
      ∷ Purpose  -- 14, SP
      ∷ [];
}

abbrev pub cat242 : Category
cat242 = record {
  cat = 242;
  most = 1;
  fields =
      Source  -- 1, 010
      ∷ Time  -- 2, 140
      ∷ Versions  -- 3, 550
      ∷ Spare  -- 4
      ∷ Spare  -- 5
      ∷ Purpose  -- 6, SP
      ∷ Expansion  -- 7, RE
      ∷ [];
}

-- the categories that the box reads
abbrev pub known : ℕ → Bool
known n = eqb n 23 || (eqb n 65 || eqb n 242)

-- a category by its CAT; one that the box does not read has no field
abbrev pub category : ℕ → Category
category n =
    pick (eqb n 23) cat23
    (pick (eqb n 65) cat65
    (pick (eqb n 242) cat242 (record { cat = n; most = 0; fields = [] })))

-- what stands at a field; a field past the last is spare (01 "Refusal numbers")
abbrev pub form_at : Category → ℕ → Form
form_at c f = get_or (Spare ∷ c.fields) f Spare

abbrev pub layout_at : Category → ℕ → Layout
layout_at c f = layout (form_at c f)

-- with the kind and its sizes
abbrev pub field_at : Category → ℕ → Field
field_at c f = record { 0 = form_at c f; 1 = kind_of (layout_at c f) }

-- entries have one form in a category
abbrev pub entries_form : ℕ → Form
entries_form cat = pick (eqb cat 242) Versions Statistics

-- marks of fields as a number: bit f - 1 for field f
abbrev pub field_marks : List ℕ → ℕ
field_marks [] = 0
field_marks (f ∷ fs) = 2 ^ (f - 1) + field_marks fs

-- of n fields the marks of those that are spare, or past the list's last
unfoldable pub unused_marks : ℕ → List Form → ℕ
unused_marks zero fs = 0
unused_marks (suc n) [] = 1 + unused_marks n [] * 2
unused_marks (suc n) (f ∷ fs) = pick (is_unused (layout f)) 1 0 + unused_marks n fs * 2
