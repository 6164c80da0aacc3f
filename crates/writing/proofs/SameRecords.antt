-- Two blocks that have one record, each at an offset of its own: a step over each hands it out, with the same entries and content, places
-- aside. Assumes nothing.
use mathlib.Core.Path.{◌≡◌, refl, sym, ◌∙◌, subst}
use mathlib.Core.Bool.{Bool, true, false}
use mathlib.Core.List.{List, [], ◌∷◌}
use Prim.Native.Nat.{ℕ, ◌+◌, ◌*◌, ◌-◌, ◌^◌, ◌<◌, ◌≤◌}
use native.Mathlib.Nat.{pow-suc, lt_of_lt_of_le, pow-le-pow_right, zero-lt-suc}
use native.Mathlib.Omega.{arith}
use lib.ListN.{length}
use Rattle.octets.specs.Choice.{pick}
use Rattle.octets.specs.Numbers.{Octets}
use Rattle.octets.specs.Refusals.{no_such}
use Rattle.octets.proofs.Cases.{test}
use Rattle.layouts.specs.Categories.{category, entries_form}
use Rattle.blocks.specs.Specification.{flags}
use Rattle.blocks.specs.Marks.{marks_of}
use Rattle.blocks.specs.Records.{Rec}
use Rattle.blocks.specs.Typed.{typed_rec, has}
use Rattle.blocks.specs.Steps.{items_from, step_of, entry_in, entry_of}
use Rattle.blocks.specs.Meaning.{rec_of}
use Rattle.blocks.specs.declared.record.Record.{Record}
use Rattle.blocks.specs.Step.{Step}
use Rattle.blocks.specs.Found.{Found}
use Rattle.blocks.proofs.HeaderLaws.{Headed, header-good}
use Rattle.blocks.proofs.WalkSteps.{table}
use Rattle.blocks.proofs.BlockLaws.{category-cat}
use Rattle.blocks.proofs.MarksLaws.{flags_long, specification-marked}
use Rattle.blocks.proofs.ReadSteps.{record_parts}
use Rattle.blocks.proofs.MeaningLaws.{means-read}
use Rattle.blocks.proofs.BoundaryLaws.{step-read}
use Rattle.blocks.proofs.StepLaws.{entry-taken}
use Rattle.blocks.proofs.StepLaws as steps
use Rattle.writing.specs.Same.{Same}
use Rattle.writing.proofs.RecordWritten.{Fine, fine}
use Rattle.writing.proofs.Reread.{read-judged}
use Rattle.writing.proofs.ReadBackTheorems.{One, back, back_step, back-same, back-entry, back_found, none-same}

-- so many marks as a number have so many bits
marks-below : (bs : List Bool) → marks_of bs < 2 ^ length bs
unfolding marks_of
marks-below [] = omega arith
marks-below (b ∷ bs) = rw pow-suc (go b (marks-below bs))
  where
    go : (b : Bool) → marks_of bs < 2 ^ length bs → pick b 1 0 + marks_of bs * 2 < 2 ^ length bs * 2
    go true l = omega arith
    go false l = omega arith

-- A record of a block, as a step hands it out
module _ (s : List ℕ) (o : Octets s) (cat len at q : ℕ) (r : Rec) (a : One s cat len at q r) where
  abbrev there : Record
  there = typed_rec s len (category cat) r (items_from s len (category cat) at)

  abbrev head : Headed s cat len
  head = header-good s cat len a.head

  there-step : step_of s at ≡ Step.Taken there (record { at = q })
  there-step = step-read s cat len a.head at q r a.low a.more a.is

  there-category : there.category ≡ cat
  unfolding typed_rec
  there-category = category-cat cat

  there-small : there.marks < 4294967296
  unfolding typed_rec
  there-small =
      let c = category cat in
      let (p, e, e', z, y) = record_parts s len c at q r a.is in
      let few : length (flags r.marks) ≤ 32
      = omega (arith, flags_long r.marks, (specification-marked s len (c.most - 1) at r.marks p o e).long, (table cat head.known).few) in
      lt_of_lt_of_le (marks-below (flags r.marks)) (pow-le-pow_right (zero-lt-suc 1) {j = 32} few)

  there-means : rec_of s there ≡ r
  there-means = means-read s len cat at o head.known r q a.is

  there-fine : Fine s there
  there-fine = fine s there (read-judged s len cat at o head.fits head.known r q a.is there refl)

  -- its entries
  there-entry : (k : ℕ) → entry_of s at k ≡ entry_in s there.category there.entries.at there.entries.count k
  there-entry k = sym (entry-taken s at k there (record { at = q }) (sym there-step) _ refl)

  no-entry : (k : ℕ) → there.entries.count ≡ 0 → entry_of s at k ≡ Found.Refused no_such 0
  no-entry k e =
      there-entry k
      ∙ sym (steps.entry-none s there.category there.entries.at there.entries.count k (omega arith))

  -- Another block that has it
  module _ (x : List ℕ) (ox : Octets x) (len' at' q' : ℕ) (b : One x cat len' at' q' r) where
    one : One x there.category len' at' q' (rec_of s there)
    one =
        subst (λ (n : ℕ). One x n len' at' q' (rec_of s there)) (sym there-category)
        (subst (λ (y : Rec). One x cat len' at' q' y) (sym there-means) b)

    -- a step hands it out, the same
    other-same : (v : Record) → step_of x at' ≡ Step.Taken v (record { at = q' }) → Same s there x v
    other-same v e =
        let f = back_step s o there there-fine there-small x ox len' at' q' one in
        let same : back s o there there-fine there-small x ox len' at' q' one ≡ v = cc in
        rw same at (back-same s o there there-fine there-small x ox len' at' q' one)

    -- and its entries are the same
    other-entry : has there (entries_form there.category) ≡ true → (k : ℕ) → entry_of s at k ≡ entry_of x at' k
    other-entry h k =
        there-entry k
        ∙ sym (back-entry s o there there-fine there-small x ox len' at' q' one k ∙ back_found s o there there-fine there-small x ox len' at' q' one h k)

-- The record of both
module _ (s x : List ℕ) (o : Octets s) (ox : Octets x) (cat len at q len' at' q' : ℕ) (r : Rec)
    (a : One s cat len at q r) (b : One x cat len' at' q' r) where
  abbrev t : Record
  t = there s o cat len at q r a

  abbrev u : Record
  u = there x ox cat len' at' q' r b

  is-t : step_of s at ≡ Step.Taken t (record { at = q })
  is-t = there-step s o cat len at q r a

  is-u : step_of x at' ≡ Step.Taken u (record { at = q' })
  is-u = there-step x ox cat len' at' q' r b

  one_way : Same s t x u
  one_way = other-same s o cat len at q r a x ox len' at' q' b u is-u

  other_way : Same x u s t
  other_way = other-same x ox cat len' at' q' r b s o len at q a t is-t

  entries : (k : ℕ) → entry_of s at k ≡ entry_of x at' k
  entries k = test (has t (entries_form t.category)) (λ h. other-entry s o cat len at q r a x ox len' at' q' b h k) none
    where
      none : has t (entries_form t.category) ≡ false → entry_of s at k ≡ entry_of x at' k
      none h =
          let h' : has u (entries_form u.category) ≡ false = rw (one_way.category, one_way.marks) h in
          no-entry s o cat len at q r a k (none-same x u s t other_way h')
          ∙ sym (no-entry x ox cat len' at' q' r b k (none-same s t x u one_way h))

  -- Steps hand out the same record, with the same entries and content.
  pub same_record : (t u : Record) × (step_of s at ≡ Step.Taken t (record { at = q })) × (step_of x at' ≡ Step.Taken u (record { at = q' }))
      × Same s t x u × Same x u s t × ((k : ℕ) → entry_of s at k ≡ entry_of x at' k)
  same_record = (t, u, is-t, is-u, one_way, other_way, entries)
