-- What a refusal says, by its number (01 "Refusal numbers").
use Rattle.std.specs.Prelude.{List, [], ◌∷◌, ℕ, get_or}
use Prim.Native.String.{String}
use Rattle.text.specs.Quotes.{quoted}

abbrev pub sentences : List String
sentences =
    "accepted"  -- 0
    ∷ "fewer than 3 octets, or LEN beyond the octets"
    ∷ "a category other than 23, 65 and 242"
    ∷ "LEN below 4"
    ∷ "a field specification longer than the category allows"
    ∷ "a spare field is marked"  -- 5
    ∷ "no field is marked"
    ∷ "a specification or an item passes LEN; when writing, a place outside the source"
    ∷ "a repetition of 0, or an opaque item shorter than its own length octet"
    ∷ "an item is extended beyond its last extension"
    ∷ "an item is missing, or there where it must not be"  -- 10
    ∷ "a value is out of its range"
    ∷ "the output is too short"
    ∷ "not a statistics report: not category 23 type 3, or without 010, 015 or 120"
    ∷ "the ledger has no room for all new counters"
    ∷ "a life count would pass 2^64 - 1"  -- 15
    ∷ "the ledger or the page breaks its rules"
    ∷ "there is no record or entry of this number"
    ∷ []

unfoldable pub sentence : ℕ → List ℕ
sentence n = quoted (get_or sentences n "no refusal has this number")
