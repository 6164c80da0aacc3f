-- The kinds of items (01 "Items") as formats.
use Rattle.std.specs.Prelude.{refl, Bool, true, false, List, [], ◌∷◌, ℕ, zero, suc, ◌-◌, leb, eqb, length, get_or}
use Rattle.octets.specs.Choice.{pick}
use Rattle.octets.specs.Refusals.{spare_marked, no_count, past_last}
use Rattle.layouts.specs.Groups.{any, Group, group}
use Rattle.layouts.specs.Formats.{Format, done, stop, ask}
use Rattle.layouts.specs.declared.ends.Kind.{Kind}
use Rattle.layouts.specs.declared.ends.Kind.TheVariants.{Spare, Fixed, Extended, Repeated, Explicit}

pub data Layout : Type 0 where
  unused : Layout
  fixed : Group → Layout
  -- the first part, and the extensions
  extended : Group → List Group → Layout
  -- REP, and so many entries
  repeated : Group → Layout
  -- a length that counts itself, and opaque content
  explicit : Layout

abbrev pub is_unused : Layout → Bool
is_unused unused = true
is_unused (fixed g) = false
is_unused (extended g hs) = false
is_unused (repeated g) = false
is_unused explicit = false

-- one octet, any value
abbrev pub octet : Group
octet = group 1 (any 8 ∷ []) refl

-- FX is the last value of a group
abbrev pub last_of : List ℕ → ℕ
last_of [] = 0
last_of (v ∷ []) = v
last_of (v ∷ w ∷ vs) = last_of (w ∷ vs)

abbrev pub fx : List ℕ → Bool
fx v = eqb (last_of v) 1

unfoldable pub times : ℕ → Group → Format
times zero g = done
times (suc n) g = ask g (λ v. times n g)

-- groups of which each one's FX says that another follows; n refuses FX in the last
unfoldable pub chain : ℕ → Group → List Group → Format
chain n g [] = ask g (λ v. pick (fx v) (stop n) done)
chain n g (h ∷ hs) = ask g (λ v. pick (fx v) (chain n h hs) done)

-- an octet that counts e more than the groups behind it
unfoldable pub counted : ℕ → Group → Format
counted e g = ask octet (λ v. pick (leb (get_or v 0 0) e) (stop no_count) (times (get_or v 0 0 - e) g))

unfoldable pub format : Layout → Format
format unused = stop spare_marked
format (fixed g) = ask g (λ v. done)
format (extended g hs) = chain past_last g hs
format (repeated g) = counted 0 g
format explicit = counted 1 octet

-- the kind with its sizes
abbrev pub kind_of : Layout → Kind
kind_of unused = Kind.Spare
kind_of (fixed g) = Kind.Fixed g.wide
kind_of (extended g hs) = Kind.Extended g.wide (length hs)
kind_of (repeated g) = Kind.Repeated g.wide
kind_of explicit = Kind.Explicit

-- the group that an item begins with
abbrev pub first_group : Layout → Group
first_group unused = octet
first_group (fixed g) = g
first_group (extended g hs) = g
first_group (repeated g) = octet
first_group explicit = octet

-- the group of an entry, or of an octet of content
abbrev pub entry_group : Layout → Group
entry_group unused = octet
entry_group (fixed g) = octet
entry_group (extended g hs) = octet
entry_group (repeated g) = g
entry_group explicit = octet

-- how many octets the first group has, and an entry, by the kind
abbrev pub first_octets : Kind → ℕ
first_octets Spare = 1
first_octets (Fixed size) = size
first_octets (Extended size more) = size
first_octets (Repeated size) = 1
first_octets Explicit = 1

abbrev pub entry_octets : Kind → ℕ
entry_octets Spare = 1
entry_octets (Fixed size) = 1
entry_octets (Extended size more) = 1
entry_octets (Repeated size) = size
entry_octets Explicit = 1
