-- A record written as a block: the header laid, and then the record. Assumes nothing.
use mathlib.Core.Path.{◌≡◌, sym, ap, ◌∙◌}
use mathlib.Core.List.{List, [], ◌∷◌}
use Prim.Native.Nat.{ℕ, ◌+◌, ◌≤◌, ◌<◌}
use native.Mathlib.Omega.{arith}
use lib.ListN.{length}
use Rattle.octets.specs.Numbers.{laid}
use Rattle.layouts.specs.Categories.{category}
use Rattle.blocks.specs.Records.{Rec}
use Rattle.blocks.specs.Blocks.{put_recs, put_block}
use Rattle.blocks.specs.Meaning.{rec_of}
use Rattle.blocks.specs.declared.record.Record.{Record}
use Rattle.writing.specs.Judged.{record_octets}
use Rattle.writing.specs.Written.{header_octets}
use Rattle.writing.proofs.RecordWritten.{Good}
use Rattle.writing.proofs.BlockSteps.{block-long, body-room, body-laid}
use Rattle.writing.proofs.WriteTheorems.{written-short}

module _ (s : List ℕ) (t : Record) (n : ℕ) (g : Good s t n) where
  abbrev whole : List ℕ
  whole = put_block t.category (rec_of s t ∷ [])

  -- the body is as long as the record
  body : n ≡ length (put_recs (category t.category) (rec_of s t ∷ []))
  body = g.long ∙ sym (ap length g.same)

  pub whole_long : length whole ≡ n + 3
  whole_long = block-long t.category (rec_of s t ∷ []) ∙ omega (arith, body)

  pub whole-low : t.marks < 4294967296 → n < 65000
  whole-low small = omega (arith, g.long, written-short s t small g.fine)

  abbrev rs : List Rec
  rs = rec_of s t ∷ []

  module _ (l l1 : List ℕ) (room : n + 3 ≤ length l) (a : l1 ≡ laid l 0 (header_octets t.category (n + 3))) where
    pub record_room : 3 + length (record_octets s t) ≤ length l1
    record_room = rw (← g.same) (body-room t.category rs n body l l1 room a)

    module _ (l2 : List ℕ) (b : l2 ≡ laid l1 3 (record_octets s t)) where
      laid-body : l2 ≡ laid l1 3 (put_recs (category t.category) rs)
      laid-body = b ∙ ap (laid l1 3) (sym g.same)

      pub whole-laid : l2 ≡ laid l 0 whole
      whole-laid = body-laid t.category rs n body l l1 room a l2 laid-body
