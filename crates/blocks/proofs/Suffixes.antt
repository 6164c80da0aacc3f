-- The same reading by the octets left: where the theorems are proved, since octets are joined there. proofs/WindowLaws.antt has the laws that
-- it is reading at an offset. Assumes nothing.
use mathlib.Core.Path.{◌≡◌, refl}
use mathlib.Core.List.{List, [], ◌∷◌}
use Prim.Native.Nat.{ℕ, zero, suc, ◌-◌, ◌/◌, ◌<◌}
use native.Mathlib.Omega.{arith}
use lib.Dec.{eqb}
use lib.ListN.{length, replicate}
use Rattle.octets.specs.Choice.{pick, odd}
use Rattle.octets.specs.Refusals.{long_specification, passes_end, presence_broken}
use Rattle.layouts.specs.Formats.{Parsed, refused, got, and_then, Format, Trace}
use Rattle.layouts.specs.Categories.{Category}
use Rattle.layouts.proofs.Suffixes.{item}
use Rattle.blocks.specs.Records.{Rec, layout_of, specification_refusal, present}
use Rattle.blocks.specs.Blocks.{Block, wrong, all, with}

-- the marks of an octet and of `more` others at most
unfoldable pub specification : ℕ → List ℕ → Parsed (List ℕ) (List ℕ)
specification more [] = refused passes_end
specification zero (x ∷ s) = pick (odd x) (refused long_specification) (got (x / 2 ∷ []) s)
specification (suc more) (x ∷ s) =
    let next = specification more s in
    pick (odd x) (and_then next (λ gs r. got (x / 2 ∷ gs) r)) (got (x / 2 ∷ replicate (suc more) 0) s)

unfoldable pub items : List Format → List ℕ → Parsed (List ℕ) (List Trace)
items [] s = got [] s
items (f ∷ fs) s = and_then (item f s) (λ tr r. and_then (items fs r) (λ trs q. got (tr ∷ trs) q))

unfoldable pub record_of : Category → List ℕ → Parsed (List ℕ) Rec
record_of c s =
    and_then (specification (c.most - 1) s)
    (λ gs r. pick (eqb (specification_refusal c gs) 0)
    (and_then (items (layout_of c gs) r)
    (λ trs q. pick (present c gs trs) (got (record { marks = gs; items = trs }) q) (refused presence_broken)))
    (refused (specification_refusal c gs)))

-- what was read of the first record and, where it is good, the others'; len is where the block ends
abbrev pub first : ℕ → ℕ → Parsed (List ℕ) Rec → (List ℕ → Block) → Block
first len left (refused m) others = wrong m (len - left)
first len left (got r t) others = with r (others t)

-- the records that fill s, at most n of them
unfoldable pub records : ℕ → ℕ → Category → List ℕ → Block
records zero len c [] = all c.cat []
records zero len c (x ∷ s) = wrong 0 0
records (suc n) len c [] = all c.cat []
records (suc n) len c (x ∷ s) = first len (length (x ∷ s)) (record_of c (x ∷ s)) (λ t. records n len c t)

module _ (len : ℕ) (c : Category) where
  pub records-step : (n : ℕ) (s : List ℕ) → 0 < length s
      → records (suc n) len c s ≡ first len (length s) (record_of c s) (λ t. records n len c t)
  unfolding records
  records-step n [] h = absurd (omega arith)
  records-step n (x ∷ s) h = refl

  pub records-none : (n : ℕ) → records n len c [] ≡ all c.cat []
  unfolding records
  records-none zero = refl
  records-none (suc n) = refl
