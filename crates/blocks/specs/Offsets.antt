-- Reading a record: at an offset of the octets lent, up to LEN (01 "Reading order").
use Rattle.std.specs.Prelude.{List, [], ◌∷◌, ℕ, zero, suc, ◌+◌, ◌-◌, ◌/◌, leb, eqb, get_or, replicate}
use Rattle.octets.specs.Choice.{pick, odd}
use Rattle.octets.specs.Refusals.{long_specification, passes_end, presence_broken}
use Rattle.layouts.specs.Formats.{Parsed, refused, got, and_then, Format, Trace}
use Rattle.layouts.specs.Offsets.{item_at}
use Rattle.layouts.specs.Categories.{Category}
use Rattle.blocks.specs.Records.{Rec, layout_of, specification_refusal, present}

module _ (s : List ℕ) (len : ℕ) where
  -- the marks of a specification octet and of `more` others at most, seven to a number; an octet that is not there marks nothing
  unfoldable pub specification_at : ℕ → ℕ → Parsed ℕ (List ℕ)
  specification_at zero at =
      let x = get_or s at 0 in
      pick (leb len at) (refused passes_end) (pick (odd x) (refused long_specification) (got (x / 2 ∷ []) (at + 1)))
  specification_at (suc more) at =
      let x = get_or s at 0 in
      let next = specification_at more (at + 1) in
      pick (leb len at) (refused passes_end)
      (pick (odd x) (and_then next (λ gs q. got (x / 2 ∷ gs) q)) (got (x / 2 ∷ replicate (suc more) 0) (at + 1)))

  -- items in field order, each to its end and then its values
  unfoldable pub items_at : List Format → ℕ → Parsed ℕ (List Trace)
  items_at [] at = got [] at
  items_at (f ∷ fs) at = and_then (item_at s len f at) (λ tr p. and_then (items_at fs p) (λ trs q. got (tr ∷ trs) q))

  -- 7 and 4 at each specification octet, 6, 5, the items, 10
  unfoldable pub record_at : Category → ℕ → Parsed ℕ Rec
  record_at c at =
      and_then (specification_at (c.most - 1) at)
      (λ gs p. pick (eqb (specification_refusal c gs) 0)
      (and_then (items_at (layout_of c gs) p)
      (λ trs q. pick (present c gs trs) (got (record { marks = gs; items = trs }) q) (refused presence_broken)))
      (refused (specification_refusal c gs)))
