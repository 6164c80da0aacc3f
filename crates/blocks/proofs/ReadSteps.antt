-- Runs of records one after the other, and the tests before them: what the definitions say of the case that a branch of the code is
-- in. Assumes nothing.
use mathlib.Core.Path.{◌≡◌, refl, sym, ◌∙◌, subst}
use mathlib.Core.Bool.{Bool, true, false}
use mathlib.Core.List.{List, []}
use Prim.Native.Nat.{ℕ, zero, suc, ◌+◌, ◌-◌, ◌≤◌, ◌<◌}
use native.Mathlib.Nat.{zero-add, add-zero, sub-zero}
use native.Mathlib.Omega.{arith}
use borrow.Author.Tests.{leb-true, leb-false, lt-leb, le-leb}
use lib.Dec.{leb, eqb}
use lib.ListN.{length}
use Rattle.octets.specs.Numbers.{Octets}
use Rattle.octets.specs.Refusals.{presence_broken}
use Rattle.layouts.specs.Formats.{Parsed, refused, got, Trace}
use Rattle.layouts.specs.Categories.{Category}
use Rattle.layouts.proofs.Parsed.{pick_yes, through}
use Rattle.blocks.specs.Records.{Rec, layout_of, specification_refusal, present}
use Rattle.blocks.specs.Blocks.{Block, wrong, all, with, first_at, records_at}
use Rattle.blocks.specs.Offsets.{specification_at, items_at, record_at}
use Rattle.blocks.specs.Walks.{onward, run_of, answer_of}
use Rattle.blocks.specs.Walked.{Walked}
use Rattle.blocks.specs.Walked as walked
use Rattle.blocks.specs.Reading.{Reading}
use Rattle.blocks.specs.Reading as reading
use Rattle.blocks.proofs.MarksLaws.{specification-marked}
use Rattle.blocks.proofs.WalkSteps.{items-within, run_none, run-one, run_end}

-- an answer with so many records more
abbrev counted : ℕ → Reading → Reading
counted k (reading.Accepted len n) = Reading.Accepted len (k + n)
counted k (reading.Refused n at) = Reading.Refused n at

counted_none : (r : Reading) → r ≡ counted 0 r
counted_none (reading.Accepted len n) = rw zero-add
counted_none (reading.Refused n at) = refl

counted-one : (len count : ℕ) (r : Rec) (b : Block) → counted count (answer_of len (with r b)) ≡ counted (count + 1) (answer_of len b)
counted-one len count r (wrong n at) = refl
counted-one len count r (all cat rs) =
    let e : count + suc (length rs) ≡ count + 1 + length rs = omega arith in
    rw e

-- the specification of a record that was read, and its items; neither is refused, and presence is not
module _ (s : List ℕ) (len : ℕ) (c : Category) (at : ℕ) where
  abbrev pub Parts : ℕ → Rec → Type 0
  Parts q r =
      (p : ℕ) × (specification_at s len (c.most - 1) at ≡ got r.marks p)
      × (items_at s len (layout_of c r.marks) p ≡ got r.items q)
      × (eqb (specification_refusal c r.marks) 0 ≡ true) × (present c r.marks r.items ≡ true)

  same_parts : (gs : List ℕ) (trs : List Trace) (p q' q : ℕ) (r : Rec) → got (record { marks = gs; items = trs }) q' ≡ got r q
      → specification_at s len (c.most - 1) at ≡ got gs p → items_at s len (layout_of c gs) p ≡ got trs q'
      → eqb (specification_refusal c gs) 0 ≡ true → present c gs trs ≡ true → Parts q r
  same_parts gs trs p q' q r end e e' z y =
      let is : record { marks = gs; items = trs } ≡ r = cc in
      let same : q' ≡ q = cc in
      subst (Parts q) is (p, e, rw same at e', z, y)

  pub record_parts : (q : ℕ) (r : Rec) → record_at s len c at ≡ got r q → Parts q r
  unfolding record_at
  record_parts q r h =
      let (gs, p, e, h') = through (specification_at s len (c.most - 1) at) h in
      let (z, h'') = pick_yes (eqb (specification_refusal c gs) 0) _ _ h' in
      let (trs, q', e', last) = through (items_at s len (layout_of c gs) p) h'' in
      let (y, end) = pick_yes (present c gs trs) presence_broken (got (record { marks = gs; items = trs }) q') last in
      same_parts gs trs p q' q r end e e' z y

module _ (s : List ℕ) (len : ℕ) (c : Category) where
  -- a record has an octet at least, and lies within the block
  pub record_within : Octets s → (at q : ℕ) (r : Rec) → record_at s len c at ≡ got r q → (at < q) × (q ≤ len)
  record_within o at q r h =
      let (p, e, e', z, y) = record_parts s len c at q r h in
      let w = specification-marked s len (c.most - 1) at r.marks p o e in
      let (a, b) = items-within s len (layout_of c r.marks) p q r.items w.within e' in
      (omega arith, omega arith)

  pub records-end : (m at : ℕ) → len ≤ at → records_at s len c m at ≡ all c.cat []
  unfolding records_at
  records-end zero at h = rw (le-leb len at h)
  records-end (suc m) at h = rw (le-leb len at h)

  pub records-one : (m k at : ℕ) → m ≡ suc k → at < len
      → records_at s len c m at ≡ first_at at (record_at s len c at) (λ q. records_at s len c k q)
  unfolding records_at
  records-one m k at e h = rw (e, lt-leb len at h)

  abbrev whole : Reading
  whole = answer_of len (records_at s len c len 3)

  -- so many records lie before an offset: what the block answers then
  pub record Passed (at count : ℕ) : Type 0 where
    pub within : at ≤ len
    pub few : count ≤ at
    pub same : whole ≡ counted count (answer_of len (records_at s len c (len - count) at))

  pub passed_none : 3 ≤ len → Passed 3 0
  passed_none h = record { within = h; few = omega arith; same = rw sub-zero (counted_none whole) }

  pub passed_all : (at count : ℕ) → Passed at count → len ≤ at → Reading.Accepted len count ≡ whole
  passed_all at count w h = sym (w.same ∙ rw (records-end (len - count) at h, add-zero))

  -- what a run that goes to p at least says of the block
  abbrev pub Follows : ℕ → Walked → Type 0
  Follows p (walked.To q n) = (p ≤ q) × Passed q n
  Follows p (walked.Refused n at) = Reading.Refused n at ≡ whole

  module _ (o : Octets s) where
    run-next : (p b at count : ℕ) → Passed at count → at < len
        → ((q : ℕ) → at < q → Passed q (count + 1) → Follows p (run_of s len c b q (count + 1)))
        → (a : Parsed ℕ Rec) → record_at s len c at ≡ a → Follows p (onward s len c at a (λ q. run_of s len c b q (count + 1)))
    run-next p b at count w more k (refused m) e =
        sym (w.same ∙ rw (records-one (len - count) (len - (count + 1)) at (omega arith) more, e))
    run-next p b at count w more k (got r q) e =
        let (a, l) = record_within o at q r e in
        let left = len - (count + 1) in
        k q a (record {
          within = l;
          few = omega arith;
          same = w.same ∙ rw (records-one (len - count) left at (omega arith) more, e) (counted-one len count r (records_at s len c left q));
        })

    run-follows : (b p at count : ℕ) → p ≤ at → Passed at count → Follows p (run_of s len c b at count)
    run-follows zero p at count l w = subst (Follows p) (run_none s len c at 0 count refl) (l, w)
    run-follows (suc b) p at count l w = go (leb len at) refl (λ q f v. run-follows b p q (count + 1) (omega arith) v)
      where
        go : (t : Bool) → leb len at ≡ t → ((q : ℕ) → at < q → Passed q (count + 1) → Follows p (run_of s len c b q (count + 1)))
            → Follows p (run_of s len c (suc b) at count)
        go true e k = subst (Follows p) (run_end s len c at (suc b) count (leb-true len at e)) (l, w)
        go false e k =
            let more = leb-false len at e in
            subst (Follows p) (run-one s len c at (suc b) count b refl more) (run-next p b at count w more k (record_at s len c at) refl)

    -- a run of one record at least goes forward
    pub run_more : (budget at count : ℕ) → 1 ≤ budget → at < len → Passed at count
        → (r : Walked) → r ≡ run_of s len c budget at count → Follows (at + 1) r
    run_more budget at count some more w r e =
        let b = budget - 1 in
        subst (Follows (at + 1)) (run-one s len c at budget count b (omega arith) more ∙ sym e)
        (run-next (at + 1) b at count w more (λ q f v. run-follows b (at + 1) q (count + 1) (omega arith) v) (record_at s len c at) refl)
