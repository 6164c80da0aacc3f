-- Only the octets before LEN are looked at: others change no answer. Assumes nothing.
use mathlib.Core.Path.{◌≡◌, refl, ap}
use mathlib.Core.Bool.{Bool, true, false}
use mathlib.Core.List.{List, [], ◌∷◌}
use Prim.Native.Nat.{ℕ, zero, suc, ◌+◌, ◌-◌}
use lib.Dec.{leb}
use borrow.Author.Tests.{leb-false}
use Rattle.layouts.specs.Formats.{Parsed, refused, got, Format}
use Rattle.layouts.specs.Categories.{Category}
use Rattle.layouts.specs.Alike.{SameBefore}
use Rattle.layouts.proofs.Before.{item-before}
use Rattle.blocks.specs.Records.{Rec}
use Rattle.blocks.specs.Blocks.{Block, with, first_at, records_at}
use Rattle.blocks.specs.Offsets.{specification_at, items_at, record_at}

module _ (len : ℕ) (s t : List ℕ) (same : SameBefore len s t) where
  pub specification-before : (n at : ℕ) → specification_at s len n at ≡ specification_at t len n at
  unfolding specification_at
  specification-before zero at = go (leb len at) refl
    where
      go : (b : Bool) → leb len at ≡ b → specification_at s len 0 at ≡ specification_at t len 0 at
      go true e = rw e
      go false e = rw (e, same at (leb-false len at e))
  specification-before (suc n) at = go (leb len at) refl (specification-before n (at + 1))
    where
      go : (b : Bool) → leb len at ≡ b → specification_at s len n (at + 1) ≡ specification_at t len n (at + 1)
          → specification_at s len (suc n) at ≡ specification_at t len (suc n) at
      go true e ih = rw e
      go false e ih = rw (e, same at (leb-false len at e), ih)

  pub items-before : (fs : List Format) (at : ℕ) → items_at s len fs at ≡ items_at t len fs at
  unfolding items_at
  items-before [] at = refl
  items-before (f ∷ fs) at = simp (item-before len s t same f at, items-before fs)

  pub record_before : (c : Category) (at : ℕ) → record_at s len c at ≡ record_at t len c at
  unfolding record_at
  record_before c at = simp (specification-before (c.most - 1) at, items-before)

  first-before : (at : ℕ) (m : Parsed ℕ Rec) (f g : ℕ → Block) → ((q : ℕ) → f q ≡ g q)
      → first_at at m f ≡ first_at at m g
  first-before at (refused n) f g h = refl
  first-before at (got r q) f g h = ap (with r) (h q)

  pub records-before : (c : Category) (n at : ℕ) → records_at s len c n at ≡ records_at t len c n at
  unfolding records_at
  records-before c zero at = refl
  records-before c (suc n) at =
      rw (record_before c at, first-before at (record_at t len c at) _ _ (records-before c n))
