-- Reading at an offset of the octets lent, up to LEN, is reading the octets from there to LEN. Assumes nothing.
use mathlib.Core.Path.{◌≡◌, refl, ap, ◌∙◌}
use mathlib.Core.Bool.{Bool, true, false}
use mathlib.Core.List.{List, [], ◌∷◌}
use Prim.Native.Nat.{ℕ, zero, suc, ◌+◌, ◌-◌, ◌≤◌}
use native.Mathlib.Omega.{arith}
use lib.Dec.{leb, eqb}
use lib.ListN.{length, get_or}
use lib.Seq.{take-length}
use borrow.Author.Tests.{leb-true, leb-false}
use Rattle.octets.specs.Choice.{pick, odd}
use Rattle.layouts.specs.Formats.{Parsed, refused, got, Format}
use Rattle.layouts.specs.Offsets.{item_at}
use Rattle.layouts.specs.Categories.{Category}
use Rattle.layouts.proofs.Windows.{window, behind, behind_then, behind-pick, window-none, window_cons, window-long, item-at}
use Rattle.blocks.specs.Records.{Rec, layout_of, specification_refusal, present}
use Rattle.blocks.specs.Blocks.{Block, wrong, all, with, first_at, records_at}
use Rattle.blocks.specs.Offsets.{specification_at, items_at, record_at}
use Rattle.blocks.proofs.Suffixes.{specification, items, record_of, first, records, records-step}

behind_choice : {A : Type 0} (s : List ℕ) (len : ℕ) (b : Bool) (k l : Parsed (List ℕ) A) (m n : Parsed ℕ A)
    → k ≡ behind s len m → l ≡ behind s len n → pick b k l ≡ behind s len (pick b m n)
behind_choice s len b k l m n e f = rw (e, f) (behind-pick s len b m n)

module _ (s : List ℕ) (len : ℕ) (fit : len ≤ length s) where
  pub specification-at : (n at : ℕ) → specification n (window s len at) ≡ behind s len (specification_at s len n at)
  unfolding specification specification_at
  specification-at zero at = go (leb len at) refl
    where
      go : (b : Bool) → leb len at ≡ b → specification 0 (window s len at) ≡ behind s len (specification_at s len 0 at)
      go true e = rw (window-none s len fit at (leb-true len at e), e)
      go false e = rw (window_cons s len fit at (leb-false len at e), e) (behind-pick s len (odd (get_or s at 0)) _ _)
  specification-at (suc n) at = go (leb len at) refl (specification-at n (at + 1))
    where
      go : (b : Bool) → leb len at ≡ b → specification n (window s len (at + 1)) ≡ behind s len (specification_at s len n (at + 1))
          → specification (suc n) (window s len at) ≡ behind s len (specification_at s len (suc n) at)
      go true e ih = rw (window-none s len fit at (leb-true len at e), e)
      go false e ih =
          rw (window_cons s len fit at (leb-false len at e), e)
          (behind_choice s len (odd (get_or s at 0)) _ _ _ _
          (rw ih (behind_then s len (specification_at s len n (at + 1)) _ _ (λ gs q. refl))) refl)

  pub items_at_lem : (fs : List Format) (at : ℕ) → items fs (window s len at) ≡ behind s len (items_at s len fs at)
  unfolding items items_at
  items_at_lem [] at = refl
  items_at_lem (f ∷ fs) at =
      rw (item-at s len fit f at)
      (behind_then s len (item_at s len f at) _ _
      (λ tr p. rw (items_at_lem fs p) (behind_then s len (items_at s len fs p) _ _ (λ trs q. refl))))

  pub record_at_lem : (c : Category) (at : ℕ) → record_of c (window s len at) ≡ behind s len (record_at s len c at)
  unfolding record_of record_at
  record_at_lem c at =
      rw (specification-at (c.most - 1) at)
      (behind_then s len (specification_at s len (c.most - 1) at) _ _ λ gs p.
      behind_choice s len (eqb (specification_refusal c gs) 0) _ _ _ _
      (rw (items_at_lem (layout_of c gs) p)
      (behind_then s len (items_at s len (layout_of c gs) p) _ _ (λ trs q. behind-pick s len (present c gs trs) _ _)))
      refl)

  first-at : (at left : ℕ) (m : Parsed ℕ Rec) (f : List ℕ → Block) (g : ℕ → Block) → len - left ≡ at
      → ((q : ℕ) → f (window s len q) ≡ g q) → first len left (behind s len m) f ≡ first_at at m g
  first-at at left (refused n) f g e h = ap (wrong n) e
  first-at at left (got r q) f g e h = ap (with r) (h q)

  pub records-at : (c : Category) (n at : ℕ) → records n len c (window s len at) ≡ records_at s len c n at
  unfolding records records_at
  records-at c zero at = go (leb len at) refl
    where
      go : (b : Bool) → leb len at ≡ b → records 0 len c (window s len at) ≡ pick b (all c.cat []) (wrong 0 0)
      go true e = rw (window-none s len fit at (leb-true len at e))
      go false e = rw (window_cons s len fit at (leb-false len at e))
  records-at c (suc n) at = go (leb len at) refl (records-at c n)
    where
      go : (b : Bool) → leb len at ≡ b → ((q : ℕ) → records n len c (window s len q) ≡ records_at s len c n q)
          → records (suc n) len c (window s len at)
          ≡ pick b (all c.cat []) (first_at at (record_at s len c at) (λ q. records_at s len c n q))
      go true e ih = rw (window-none s len fit at (leb-true len at e))
      go false e ih =
          let l = leb-false len at e in
          let long = window-long s len fit at in
          records-step len c n (window s len at) (omega arith)
          ∙ rw (record_at_lem c at) (first-at at (length (window s len at)) (record_at s len c at) _ _ (omega arith) ih)

-- Octets that are records and nothing else, from their first to their last
pub records-whole : (c : Category) (n : ℕ) (s : List ℕ) → records n (length s) c s ≡ records_at s (length s) c n 0
records-whole c n s = rw take-length at (records-at s (length s) (omega arith) c n 0)
