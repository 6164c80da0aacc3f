-- Which items a record has, by its type (01 "Presence").
use Rattle.std.specs.Prelude.{Bool, true, false, ◌&&◌, not, List, [], ◌∷◌, ℕ, ◌-◌, eqb, get_or}
use Rattle.octets.specs.Choice.{pick}
use Rattle.layouts.specs.Layouts.{kind_of}
use Rattle.layouts.specs.Categories.{Category, category, layout_at}
use Rattle.layouts.specs.declared.presence.Need.{Need}
use Rattle.layouts.specs.declared.presence.Need.TheVariants.{M, O, X}
use Rattle.layouts.specs.declared.presence.Rule.{Rule}

-- a field, and its need by the record's type: M mandatory, O optional, X never present (000 §5.2.1)
pub record FieldNeed : Type 0 where
  pub field : ℕ
  pub need : ℕ → Need

abbrev pub is_m : Need → Bool
is_m M = true
is_m O = false
is_m X = false

-- M in each type
abbrev pub in_each : List Need → Bool
in_each [] = true
in_each (n ∷ ns) = is_m n && in_each ns

-- the need below the heading t, and d where no heading is t; a row has as many letters as there are headings
abbrev pub below : List ℕ → List Need → Need → ℕ → Need
below [] ns d t = d
below (k ∷ ks) [] d t = d
below (k ∷ ks) (n ∷ ns) d t = pick (eqb t k) n (below ks ns d t)

-- the need in a record without 000, which has no type (0): what is M in each type has to be there, and nothing else of the table
abbrev pub untyped : List Need → Need
untyped ns = pick (in_each ns) M X

-- a row of a table: an item, by its field, and a letter for each type
pub record Row : Type 0 where
  pub field : ℕ
  pub letters : List Need

abbrev pub row : ℕ → List Need → Row
row f ns = record { field = f; letters = ns }

-- a table with types as headings
abbrev pub by_type : List ℕ → List Row → List FieldNeed
by_type types [] = []
by_type types (r ∷ rs) = record { field = r.field; need = below types r.letters (untyped r.letters) } ∷ by_type types rs

-- mandatory in every record
abbrev pub always : ℕ → FieldNeed
always f = record { field = f; need = λ t. M }

-- category 65: the table of 000 §5.2.1. Its NOTE 2 names the types: 001 SDPS Status, 002 End of Batch, 003 Service Status Report (the heading
-- prints "003 Broadcast Service..."). The fields are those of 000 §5.3
abbrev pub types65 : List ℕ
types65 = 1 ∷ 2 ∷ 3 ∷ []

abbrev pub rows65 : List Row
rows65 =
    --     001 002 003
    row 2 (M ∷ M ∷ M ∷ []) ∷  -- I065/000 Message Type
    row 1 (M ∷ M ∷ M ∷ []) ∷  -- I065/010 Data Source Identifier
    row 3 (M ∷ M ∷ M ∷ []) ∷  -- I065/015 Service Identification
    row 5 (X ∷ M ∷ X ∷ []) ∷  -- I065/020 Batch Number
    row 4 (M ∷ M ∷ M ∷ []) ∷  -- I065/030 Time of Message
    row 6 (M ∷ X ∷ X ∷ []) ∷  -- I065/040 SDPS configuration and status
    row 7 (X ∷ X ∷ M ∷ []) ∷  -- I065/050 Service Status Report
    []

abbrev pub needs65 : List FieldNeed
needs65 = by_type types65 rows65

-- category 23: 000 and 070
abbrev pub needs23 : List FieldNeed
needs23 =
    always 2 ∷  -- I023/000 Report Type
    always 4 ∷  -- I023/070 Time of Day
    []

-- category 242: its three items
abbrev pub needs242 : List FieldNeed
needs242 =
    always 1 ∷  -- I242/010 Data Source Identifier
    always 2 ∷  -- I242/140 Time of Day
    always 3 ∷  -- I242/550 Version number(s) of CAT used
    []

abbrev pub needs_of : ℕ → List FieldNeed
needs_of n = pick (eqb n 23) needs23 (pick (eqb n 65) needs65 (pick (eqb n 242) needs242 []))

-- the need of a field in a type; one without a row is free: RE and SP, what else category 23 has (01 "Presence"), and a spare field, whose mark got
-- 5 before
abbrev pub need_at : List FieldNeed → ℕ → ℕ → Need
need_at [] t f = O
need_at (r ∷ rs) t f = pick (eqb f r.field) (r.need t) (need_at rs t f)

-- what a record of a type has at a field: its need, and its length as the category's table of fields has it
abbrev pub rule_in : List FieldNeed → Category → ℕ → ℕ → Rule
rule_in rs c t f = record { 0 = need_at rs t f; 1 = kind_of (layout_at c f) }

unfoldable pub rule_at : ℕ → ℕ → ℕ → Rule
rule_at cat t f = rule_in (needs_of cat) (category cat) t f

-- the fields that every record has: those that even one without a type needs
abbrev pub mandatory : List FieldNeed → List ℕ
mandatory [] = []
mandatory (r ∷ rs) = pick (is_m (r.need 0)) (r.field ∷ mandatory rs) (mandatory rs)

-- a field that is marked or not, against its need
abbrev pub met : Need → Bool → Bool
met M b = b
met O b = true
met X b = not b

-- all needs are met by a record of a type with these marks
unfoldable pub meets : List FieldNeed → ℕ → List Bool → Bool
meets [] t bs = true
meets (r ∷ rs) t bs = met (r.need t) (get_or bs (r.field - 1) false) && meets rs t bs
