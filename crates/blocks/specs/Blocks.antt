-- A block: CAT, LEN, and records that fill it (01 "Block and field specification").
use Rattle.std.specs.Prelude.{List, [], ◌∷◌, ◌++◌, ℕ, zero, suc, ◌+◌, leb, length}
use Rattle.octets.specs.Choice.{pick}
use Rattle.octets.specs.Numbers.{octets}
use Rattle.layouts.specs.Formats.{Parsed, refused, got}
use Rattle.layouts.specs.Categories.{Category, category}
use Rattle.blocks.specs.Headers.{header_of}
use Rattle.blocks.specs.Head.{Head}
use Rattle.blocks.specs.Head.{Good, Refused}
use Rattle.blocks.specs.Records.{Rec, put_rec}
use Rattle.blocks.specs.Offsets.{record_at}

-- a refusal number and the offset of the faulty record's first octet; or CAT and the records
pub data Block : Type 0 where
  wrong : ℕ → ℕ → Block
  all : ℕ → List Rec → Block

abbrev pub with : Rec → Block → Block
with r (wrong n at) = wrong n at
with r (all cat rs) = all cat (r ∷ rs)

-- what was read of the first record, where it starts and, where it is good, the others'
abbrev pub first_at : ℕ → Parsed ℕ Rec → (ℕ → Block) → Block
first_at at (refused m) others = wrong m at
first_at at (got r q) others = with r (others q)

-- the records from an offset on, at most n of them, which fill LEN exactly
module _ (s : List ℕ) (len : ℕ) (c : Category) where
  unfoldable pub records_at : ℕ → ℕ → Block
  -- with octets left: never met where n is LEN, since a record has an octet at least (proofs/ReadSteps.antt `record_within`), and so no reader's answer
  records_at zero at = pick (leb len at) (all c.cat []) (wrong 0 0)
  records_at (suc n) at =
      let next = first_at at (record_at s len c at) (λ q. records_at n q) in
      pick (leb len at) (all c.cat []) next

-- the header, and then record by record; octets after LEN are not read
abbrev pub block_from : List ℕ → Head → Block
block_from s (Refused n) = wrong n 0
block_from s (Good cat len) = records_at s len (category cat) len 3

unfoldable pub block_of : List ℕ → Block
block_of s = block_from s (header_of s)

unfoldable pub put_recs : Category → List Rec → List ℕ
put_recs c [] = []
put_recs c (r ∷ rs) = put_rec c r ++ put_recs c rs

-- CAT, and LEN as it is with these octets behind it
abbrev pub headed : ℕ → List ℕ → List ℕ
headed cat body = cat ∷ (octets 2 (3 + length body) ++ body)

-- records as a block, in normal form
unfoldable pub put_block : ℕ → List Rec → List ℕ
put_block cat rs = headed cat (put_recs (category cat) rs)
