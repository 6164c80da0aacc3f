-- Changing spare bits changes no answer on a record: neither a refusal nor the values. Assumes nothing.
use mathlib.Core.Path.{◌≡◌, refl}
use mathlib.Core.List.{List, [], ◌∷◌}
use Prim.Native.Nat.{ℕ, ◌-◌}
use Rattle.layouts.specs.Formats.{Parsed, refused, got, and_then, Format}
use Rattle.layouts.specs.Offsets.{item_at}
use Rattle.layouts.specs.Categories.{Category}
use Rattle.layouts.proofs.Alike.{item_alike_at}
use Rattle.blocks.specs.Records.{layout_of}
use Rattle.blocks.specs.Offsets.{specification_at, items_at, record_at}
use Rattle.blocks.specs.Alike.{IfGot, AllAlikeAt, RecordAlikeAt}

then_same : {A B : Type 0} (m : Parsed ℕ A) (P : A → ℕ → Type 0) (f g : A → ℕ → Parsed ℕ B) → IfGot m P
    → ((a : A) (q : ℕ) → P a q → f a q ≡ g a q) → and_then m f ≡ and_then m g
then_same (refused n) P f g h e = refl
then_same (got a q) P f g h e = e a q h

-- by offsets
module _ (s t : List ℕ) (len : ℕ) where
  pub items_alike_at : (fs : List Format) (at : ℕ) → AllAlikeAt s t len fs at → items_at s len fs at ≡ items_at t len fs at
  unfolding items_at
  items_alike_at [] at h = refl
  items_alike_at (f ∷ fs) at h =
      rw (← item_alike_at s t len f at h.0)
      (then_same (item_at s len f at) _ _ _ h.1 (λ tr p l. rw (items_alike_at fs p l)))

  pub record_alike_at : (c : Category) (at : ℕ) → RecordAlikeAt s t len c at → record_at s len c at ≡ record_at t len c at
  unfolding record_at
  record_alike_at c at h =
      rw (← h.0)
      (then_same (specification_at s len (c.most - 1) at) _ _ _ h.1 (λ gs p l. rw (items_alike_at (layout_of c gs) p l)))
