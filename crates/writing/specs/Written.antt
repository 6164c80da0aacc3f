-- What is to be put out for a record written as a block, and for a block rewritten (01 "Writing one record as a block", "Rewriting").
use Rattle.std.specs.Prelude.{List, [], ◌∷◌, ℕ, zero, suc, leb, eqb}
use Rattle.octets.specs.Choice.{pick}
use Rattle.octets.specs.Numbers.{octets}
use Rattle.octets.specs.Outcomes.{Outcome, no, puts}
use Rattle.layouts.specs.Formats.{Parsed, refused, got}
use Rattle.layouts.specs.Categories.{Category, category}
use Rattle.blocks.specs.Records.{Rec}
use Rattle.blocks.specs.Blocks.{Block, wrong, all, block_of, put_recs, put_block}
use Rattle.blocks.specs.Offsets.{record_at}
use Rattle.blocks.specs.Meaning.{rec_of}
use Rattle.blocks.specs.declared.record.Record.{Record}
use Rattle.writing.specs.Judged.{record_refusal}

-- a typed record and its source
unfoldable pub write_of : List ℕ → Record → Outcome
write_of s t = pick (eqb (record_refusal s t) 0) (puts (put_block t.category (rec_of s t ∷ []))) (no (record_refusal s t))

-- a block read: each record in normal form, in their order
abbrev pub rewrite_from : Block → Outcome
rewrite_from (wrong n at) = no n
rewrite_from (all cat rs) = puts (put_block cat rs)

unfoldable pub rewrite_of : List ℕ → Outcome
rewrite_of s = rewrite_from (block_of s)

-- CAT and LEN
abbrev pub header_octets : ℕ → ℕ → List ℕ
header_octets cat len = cat ∷ octets 2 len

-- The records of a block up to the first that is refused, by offsets
module _ (s : List ℕ) (len : ℕ) (c : Category) where
  abbrev pub good_from : Parsed ℕ Rec → (ℕ → List Rec) → List Rec
  good_from (refused n) others = []
  good_from (got r q) others = r ∷ others q

  unfoldable pub good_at : ℕ → ℕ → List Rec
  good_at zero at = []
  good_at (suc n) at =
      let next = good_from (record_at s len c at) (λ q. good_at n q) in
      pick (leb len at) [] next

-- and their octets in normal form, from an offset of a block on
abbrev pub normal_at : List ℕ → ℕ → ℕ → ℕ → List ℕ
normal_at s len cat at = put_recs (category cat) (good_at s len (category cat) len at)
