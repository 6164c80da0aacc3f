-- What is seen of a record of category 23 is seen of the typed record that a step takes. Assumes nothing.
use mathlib.Core.Path.{◌≡◌, sym, ap, ◌∙◌}
use mathlib.Core.Bool.{true, false}
use mathlib.Core.List.{List}
use Prim.Native.Nat.{ℕ}
use Rattle.layouts.specs.Formats.{got}
use Rattle.layouts.specs.Categories.{cat23}
use Rattle.layouts.proofs.Parsed.{of_pick}
use Rattle.blocks.specs.Records.{Rec}
use Rattle.blocks.specs.Offsets.{record_at}
use Rattle.blocks.specs.Typed.{typed_by, typed_rec}
use Rattle.blocks.specs.Steps.{items_from, take_of}
use Rattle.blocks.specs.Statistics.{is_report, is_statistics, statistics_of, seen_of, listed_seen, seen_listed}
use Rattle.blocks.specs.declared.cursor.Cursor.{Cursor}
use Rattle.blocks.specs.Step.{Step}
use Rattle.blocks.specs.declared.record.Record.{Record}
use Rattle.blocks.specs.Seen.{Seen}
use Rattle.blocks.specs.declared.statistics.Statistics.{Statistics}
use Rattle.blocks.proofs.StepLaws.{take-took}

-- whatever record a step takes, this is what is seen of it, with its number and values
abbrev pub Sees : List ℕ → ℕ → ℕ → Seen → Type 0
Sees s len at x =
    (t : Record) (c : Cursor) → take_of s len 23 at ≡ Step.Taken t c → (x ≡ seen_of t c.at) × (listed_seen x ≡ seen_listed t c.at)

-- the starts that make the typed record, the record's end, and its type
module _ (s : List ℕ) (len at marks end : ℕ) (starts : List ℕ)
    (made : (x : Rec) (q : ℕ) → record_at s len cat23 at ≡ got x q
    → (end ≡ q) × (typed_by s 23 marks starts ≡ typed_rec s len cat23 x (items_from s len cat23 at)))
    (type : ℕ) (is-type : type ≡ (typed_by s 23 marks starts).message_type) where
  abbrev whole : Record
  whole = typed_by s 23 marks starts

  sees : (r : Seen) → r ≡ seen_of whole end → Sees s len at r
  sees r is t c e =
      let w = take-took s len 23 at t c e in
      let (a, b) = made w.r c.at w.is in
      let seen : r ≡ seen_of t c.at = is ∙ ap (λ (u : Record). seen_of u end) (b ∙ sym w.same) ∙ ap (seen_of t) a in
      (seen, ap listed_seen seen ∙ of_pick listed_seen (is_statistics t) _ _)

  tested : is_statistics whole ≡ is_report 23 type marks
  tested = ap (λ (n : ℕ). is_report 23 n marks) (sym is-type)

  pub sees-other : is_report 23 type marks ≡ false → Sees s len at (Seen.Other end)
  sees-other e = sees (Seen.Other end) (rw (tested ∙ e))

  pub sees-report : is_report 23 type marks ≡ true → (r : Statistics) → r ≡ statistics_of whole → Sees s len at (Seen.Report r end)
  sees-report e r is = sees (Seen.Report r end) (rw (tested ∙ e, is))
