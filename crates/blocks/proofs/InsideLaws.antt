-- What was read was read from its own octets: others change nothing of it. Assumes nothing.
use mathlib.Core.Path.{◌≡◌, refl, sym, ap, subst}
use mathlib.Core.Bool.{Bool, true, false}
use mathlib.Core.List.{List, [], ◌∷◌}
use Prim.Native.Nat.{ℕ, zero, suc, ◌+◌, ◌-◌, ◌/◌, ◌<◌, ◌≤◌}
use native.Mathlib.Omega.{arith}
use borrow.Author.Tests.{ltb-false}
use lib.Dec.{leb, ltb}
use lib.ListN.{get_or, replicate}
use Rattle.octets.specs.Choice.{pick, odd}
use Rattle.octets.specs.Numbers.{Octets, number}
use Rattle.octets.proofs.Numbers.{number_same}
use Rattle.layouts.specs.Groups.{values}
use Rattle.layouts.specs.Formats.{Parsed, got, and_then, Format, done, stop, ask, Trace}
use Rattle.layouts.specs.Offsets.{run_at, item_at}
use Rattle.layouts.specs.Alike.{AlikeAt}
use Rattle.layouts.specs.Categories.{Category}
use Rattle.layouts.proofs.Parsed.{pick_no, through}
use Rattle.layouts.proofs.Windows.{run-within}
use Rattle.blocks.specs.Records.{Rec, layout_of}
use Rattle.blocks.specs.Offsets.{specification_at, items_at, record_at}
use Rattle.blocks.specs.Alike.{IfGot, AllAlikeAt, RecordAlikeAt}
use Rattle.blocks.proofs.MarksLaws.{specification-marked}
use Rattle.blocks.proofs.WalkSteps.{item-run, items-within}
use Rattle.blocks.proofs.ReadSteps.{record_parts}

-- octets from one offset to another are the same
abbrev SameIn : List ℕ → List ℕ → ℕ → ℕ → Type 0
SameIn s x from to = (j : ℕ) → from ≤ j → j < to → get_or s j 0 ≡ get_or x j 0

module _ (s x : List ℕ) (len : ℕ) where
  -- an item
  pub run_inside : (f : Format) (at q : ℕ) (tr : Trace) → at ≤ len → run_at s len f at ≡ got tr q → SameIn s x at q → AlikeAt f s x at
  unfolding run_at
  run_inside done at q tr l h same = tt
  run_inside (stop n) at q tr l h same = tt
  run_inside (ask g k) at q tr l h same =
      let v = values g.parts (number g.wide s at) in
      let (e, h') = pick_no (ltb (len - at) g.wide) _ _ h in
      let (tr', q', h'', last) = through (run_at s len (k v) (at + g.wide)) h' in
      let is : q' ≡ q = cc in
      let room : at + g.wide ≤ len = omega (arith, ltb-false (len - at) g.wide e) in
      let w = run-within s len (k v) (at + g.wide) tr' q' room h'' in (
        ap (values g.parts) (number_same g.wide s x at (λ j a b. same j a (omega (arith, w.0)))),
        run_inside (k v) (at + g.wide) q' tr' room h'' (λ j a b. same j (omega arith) (omega arith)),
      )

  -- items one after the other
  pub items-inside : (fs : List Format) (at q : ℕ) (trs : List Trace) → at ≤ len → items_at s len fs at ≡ got trs q → SameIn s x at q
      → AllAlikeAt s x len fs at
  unfolding items_at
  items-inside [] at q trs l h same = tt
  items-inside (f ∷ fs) at q trs l h same =
      let (tr, p, e, h') = through (item_at s len f at) h in
      let (trs', q', e', last) = through (items_at s len fs p) h' in
      let is : q' ≡ q = cc in
      let first = item-run s len f at p tr e in
      let w = run-within s len f at tr p l first in
      let w' = items-within s len fs p q' trs' w.1 e' in (
        run_inside f at p tr l first (λ j a b. same j a (omega (arith, w'.0))),
        subst (λ (m : Parsed ℕ Trace). IfGot m (λ tr q. AllAlikeAt s x len fs q)) (sym e)
            (items-inside fs p q' trs' w.1 e' (λ j a b. same j (omega (arith, w.0)) (omega arith))),
      )

  -- a specification: an octet of it, and the others by its FX
  abbrev marks_at : List ℕ → ℕ → ℕ → Bool → Parsed ℕ (List ℕ)
  marks_at u n at b =
      pick b (and_then (specification_at u len n (at + 1)) (λ gs q. got (get_or u at 0 / 2 ∷ gs) q)) (got (get_or u at 0 / 2 ∷ replicate (suc n) 0) (at + 1))

  pub specification-inside : Octets s → (n at p : ℕ) (gs : List ℕ) → specification_at s len n at ≡ got gs p → SameIn s x at p
      → specification_at s len n at ≡ specification_at x len n at
  unfolding specification_at
  specification-inside o zero at p gs h same =
      let (e, h') = pick_no (leb len at) _ _ h in
      let (e', h'') = pick_no (odd (get_or s at 0)) _ _ h' in
      let end : at + 1 ≡ p = cc in
      rw (same at (omega arith) (omega arith))
  specification-inside o (suc n) at p gs h same =
      let (e, h') = pick_no (leb len at) _ _ h in
      rw e (go (odd (get_or s at 0)) refl h' (specification-inside o n (at + 1)))
    where
      go : (b : Bool) → odd (get_or s at 0) ≡ b → marks_at s n at b ≡ got gs p
          → ((q : ℕ) (hs : List ℕ) → specification_at s len n (at + 1) ≡ got hs q → SameIn s x (at + 1) q
          → specification_at s len n (at + 1) ≡ specification_at x len n (at + 1))
          → marks_at s n at (odd (get_or s at 0)) ≡ marks_at x n at (odd (get_or x at 0))
      go true e k ih =
          let (hs, q, k', last) = through (specification_at s len n (at + 1)) k in
          let end : q ≡ p = cc in
          let w = specification-marked s len n (at + 1) hs q o k' in
          rw (← same at (omega arith) (omega arith), ih q hs k' (λ j a b. same j (omega arith) (omega arith)))
      go false e k ih =
          let end : at + 1 ≡ p = cc in
          rw (← same at (omega arith) (omega arith), e)

  -- a record
  pub record_inside : Octets s → (c : Category) (at q : ℕ) (r : Rec) → record_at s len c at ≡ got r q → SameIn s x at q → RecordAlikeAt s x len c at
  record_inside o c at q r h same =
      let (p, e, e', z, y) = record_parts s len c at q r h in
      let w = specification-marked s len (c.most - 1) at r.marks p o e in
      let v = items-within s len (layout_of c r.marks) p q r.items w.within e' in (
        specification-inside o (c.most - 1) at p r.marks e (λ j a b. same j a (omega (arith, v.0))),
        subst (λ (m : Parsed ℕ (List ℕ)). IfGot m (λ gs p. AllAlikeAt s x len (layout_of c gs) p)) (sym e)
            (items-inside (layout_of c r.marks) p q r.items w.within e' (λ j a b. same j (omega arith) b)),
      )
