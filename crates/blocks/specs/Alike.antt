-- Octets of a record that differ only in the spare bits of its items.
use Rattle.std.specs.Prelude.{◌≡◌, List, [], ◌∷◌, ℕ, zero, suc, ◌-◌}
use Rattle.layouts.specs.Formats.{Parsed, refused, got, Format}
use Rattle.layouts.specs.Alike.{AlikeAt}
use Rattle.layouts.specs.Offsets.{item_at}
use Rattle.layouts.specs.Categories.{Category}
use Rattle.blocks.specs.Records.{layout_of}
use Rattle.blocks.specs.Offsets.{specification_at, record_at}

-- of what was read, and of the offset behind it; of a refusal nothing
abbrev pub IfGot : {A : Type 0} → Parsed ℕ A → (A → ℕ → Type 0) → Type 0
IfGot (refused n) P = Unit {0}
IfGot (got a q) P = P a q

-- by offsets, up to the block's end
module _ (s t : List ℕ) (len : ℕ) where
  abbrev pub AllAlikeAt : List Format → ℕ → Type 0
  AllAlikeAt [] at = Unit {0}
  AllAlikeAt (f ∷ fs) at = AlikeAt f s t at × IfGot (item_at s len f at) (λ tr q. AllAlikeAt fs q)

  -- and the specification reads the same
  abbrev pub RecordAlikeAt : Category → ℕ → Type 0
  RecordAlikeAt c at =
      (specification_at s len (c.most - 1) at ≡ specification_at t len (c.most - 1) at)
      × IfGot (specification_at s len (c.most - 1) at) (λ gs p. AllAlikeAt (layout_of c gs) p)

  -- record after record, at most n of them
  abbrev pub RecordsAlikeAt : Category → ℕ → ℕ → Type 0
  RecordsAlikeAt c zero at = Unit {0}
  RecordsAlikeAt c (suc n) at = RecordAlikeAt c at × IfGot (record_at s len c at) (λ r q. RecordsAlikeAt c n q)
