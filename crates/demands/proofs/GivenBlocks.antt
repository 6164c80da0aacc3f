-- The refusal numbers of reading, of a step and of an entry, each given when document 01's table says, and only then (specs/Given.antt).
-- Assumes nothing.
use mathlib.Core.List.{List}
use mathlib.Core.Logic.Iff
use mathlib.Core.Logic.{◌↔◌, ◌⊎◌, inl, inr}
use mathlib.Core.Path.{◌≡◌, refl, sym, ap, ◌∙◌, subst}
use Prim.Native.Nat.{ℕ, ◌+◌, ◌≤◌}
use native.Mathlib.Omega.{arith}
use borrow.Author.Tests.{eqb-true, eqb-false}
use lib.Dec.{eqb}
use Rattle.octets.specs.Numbers.{Octets}
use Rattle.octets.specs.Refusals.{no_such}
use Rattle.octets.proofs.Cases.{test, choose}
use Rattle.layouts.specs.Formats.{refused}
use Rattle.layouts.specs.Layouts.{kind_of}
use Rattle.layouts.specs.Tables.{layout}
use Rattle.layouts.specs.Categories.{category}
use Rattle.blocks.specs.Boundaries.{Full, Stopped}
use Rattle.blocks.specs.Faults.{Passes, Cut, Faulty}
use Rattle.blocks.specs.Headers.{header_of}
use Rattle.blocks.specs.Offsets.{record_at}
use Rattle.blocks.specs.Walks.{read_of}
use Rattle.blocks.specs.Steps.{step_of, listed_step, found_of, entry_of, listed_entry}
use Rattle.blocks.specs.Found.{Found}
use Rattle.blocks.specs.Step.{Step}
use Rattle.blocks.specs.Step as variants
use Rattle.blocks.specs.Found as found
use Rattle.blocks.specs.Head.{Head}
use Rattle.blocks.specs.Reading.{Reading}
use Rattle.blocks.proofs.HeaderLaws.{header-good}
use Rattle.blocks.proofs.WalkSteps.{table}
use Rattle.blocks.proofs.Faults.{header_given_1, header_given_2, header_given_3, header_refusals}
use Rattle.blocks.proofs.RecordFaults.{given_4, given_5, given_6, given_7, given_8, given_9, given_10, given_11, record_refusals}
use Rattle.blocks.proofs.BoundaryLaws.{read-filled, filled-read, read-stopped}
use Rattle.blocks.proofs.StoppedLaws.{stopped-read, read_some}
use Rattle.blocks.proofs.StepFaults.{step-outside, step_faulty, step_cases, entry_past, entry_cases}
use Rattle.blocks.proofs.StepLaws.{step-refused, not_taken, entry-refused}
use Rattle.demands.specs.Operations.{Reads, Steps, Entries}
use Rattle.demands.specs.Given.{HeaderFault, short, unknown, low, RecordFault, cut, long, none, spare, passes, empty, past, range, absent, BlockFault, first, NoRecord, StepFault, outside, here, NoEntry, EntryFault, step, missing}

-- A header

module _ (s : List ℕ) where
  to-header : (n : ℕ) → header_of s ≡ Head.Refused n → HeaderFault s n
  to-header n h =
      let w = header_refusals s n h in
      test (eqb n 1) (λ e. let is = eqb-true n 1 e in short ((header_given_1 s).0 (rw is at h)) is) λ a.
      test (eqb n 2) (λ e. let is = eqb-true n 2 e in unknown ((header_given_2 s).0 (rw is at h)) is) λ b.
      let is : n ≡ 3 = omega (arith, eqb-false n 1 a, eqb-false n 2 b) in
      low ((header_given_3 s).0 (rw is at h)) is

  of_header : (n : ℕ) → HeaderFault s n → header_of s ≡ Head.Refused n
  of_header n (short w e) = rw e ((header_given_1 s).1 w)
  of_header n (unknown w e) = rw e ((header_given_2 s).1 w)
  of_header n (low w e) = rw e ((header_given_3 s).1 w)

  pub header-given : (n : ℕ) → (header_of s ≡ Head.Refused n) ↔ HeaderFault s n
  header-given n = (to-header n, of_header n)

-- A record of a block with a good header

between : (P : ℕ → Type 0) → P 4 → P 5 → P 6 → P 7 → P 8 → P 9 → P 10 → P 11 → (n : ℕ) → 4 ≤ n → n ≤ 11 → P n
between P p4 p5 p6 p7 p8 p9 p10 p11 n l h =
    at 4 p4 l λ a. at 5 p5 a λ b. at 6 p6 b λ c. at 7 p7 c λ d. at 8 p8 d λ e. at 9 p9 e λ f. at 10 p10 f λ g. at 11 p11 g λ i. absurd (omega arith)
  where
    at : (m : ℕ) → P m → m ≤ n → (m + 1 ≤ n → P n) → P n
    at m p k next = test (eqb n m) (λ e. subst P (sym (eqb-true n m e)) p) (λ e. next (omega (arith, eqb-false n m e)))

module _ (s : List ℕ) (o : Octets s) (cat len : ℕ) (good : header_of s ≡ Head.Good cat len) (at : ℕ) where
  some : 1 ≤ (category cat).most
  some = (table cat (header-good s cat len good).known).some

  to_record : (n : ℕ) → record_at s len (category cat) at ≡ refused n → RecordFault s len (category cat) at n
  to_record n h =
      let c = category cat in
      let w = record_refusals s len c at o some n h in
      between (λ m. record_at s len c at ≡ refused m → RecordFault s len c at m)
      (λ e. long ((given_4 s len c at o some).0 e) refl)
      (λ e. let (gs, p, is, f) = (given_5 s len c at o some).0 e in spare gs p is f refl)
      (λ e. let (gs, p, is, f) = (given_6 s len c at o some).0 e in none gs p is f refl)
      (λ e. seven ((given_7 s len c at o some).0 e))
      (λ e. empty ((given_8 s len c at o some).0 e) refl)
      (λ e. past ((given_9 s len c at o some).0 e) refl)
      (λ e. absent ((given_10 s len c at o some).0 e) refl)
      (λ e. range ((given_11 s len c at o some).0 e) refl)
      n w.0 w.1 h
    where
      seven : Cut s len (category cat) at ⊎ Faulty s len (category cat) at (λ f. Passes s len (kind_of (layout f))) → RecordFault s len (category cat) at 7
      seven (inl w) = cut w refl
      seven (inr w) = passes w refl

  of_record : (n : ℕ) → RecordFault s len (category cat) at n → record_at s len (category cat) at ≡ refused n
  of_record n (cut w e) = rw e ((given_7 s len (category cat) at o some).1 (inl w))
  of_record n (long w e) = rw e ((given_4 s len (category cat) at o some).1 w)
  of_record n (none gs p r w e) = rw e ((given_6 s len (category cat) at o some).1 (gs, p, r, w))
  of_record n (spare gs p r w e) = rw e ((given_5 s len (category cat) at o some).1 (gs, p, r, w))
  of_record n (passes w e) = rw e ((given_7 s len (category cat) at o some).1 (inr w))
  of_record n (empty w e) = rw e ((given_8 s len (category cat) at o some).1 w)
  of_record n (past w e) = rw e ((given_9 s len (category cat) at o some).1 w)
  of_record n (range w e) = rw e ((given_11 s len (category cat) at o some).1 w)
  of_record n (absent w e) = rw e ((given_10 s len (category cat) at o some).1 w)

  pub record_given : (n : ℕ) → (record_at s len (category cat) at ≡ refused n) ↔ RecordFault s len (category cat) at n
  record_given n = (to_record n, of_record n)

-- A block

module _ (s : List ℕ) (n at : ℕ) (o : Octets s) where
  fault-stopped : BlockFault s n at → Stopped s n at
  fault-stopped (BlockFault.header w z) = inl (of_header s n w, z)
  fault-stopped (first cat len h rs j l w) = inr (cat, len, rs, h, j, of_record s o cat len h at n w, l)

  stopped-fault : Stopped s n at → BlockFault s n at
  stopped-fault (inl (h, z)) = BlockFault.header (to-header s n h) z
  stopped-fault (inr (cat, len, rs, h, j, e, l)) = first cat len h rs j l (to_record s o cat len h at n e)

  pub reading-given : (read_of s ≡ Reading.Refused n at) ↔ BlockFault s n at
  reading-given = (λ e. stopped-fault (read-stopped s n at o e), λ w. stopped-read s n at (fault-stopped w))

  module _ (r : Reading) (h : Reads s r) where
    -- 1 to 11 of a block, with the offset: given when, and only then.
    pub read-given : (r ≡ Reading.Refused n at) ↔ BlockFault s n at
    read-given = (λ e. reading-given.0 (sym h.0 ∙ e), λ w. h.0 ∙ reading-given.1 w)

-- no other number refuses a block
pub read_refusals : (s : List ℕ) (n at : ℕ) → Octets s → Stopped s n at → (1 ≤ n) × (n ≤ 11)
read_refusals s n at o (inl (h, z)) = omega (arith, header_refusals s n h)
read_refusals s n at o (inr (cat, len, rs, h, j, e, l)) = omega (arith, record_refusals s len (category cat) at o (some s o cat len h at) n e)

pub full-read : (s : List ℕ) (len n : ℕ) → Full s len n → read_of s ≡ Reading.Accepted len n
full-read s len n (cat, rs, h, j, count, is) = filled-read s cat len rs h j ∙ ap (Reading.Accepted len) count

module _ (s : List ℕ) (len n : ℕ) (o : Octets s) (r : Reading) (h : Reads s r) where
  -- 0 of a block: its records fill LEN exactly; and there is one at least.
  pub accepted_exactly : (r ≡ Reading.Accepted len n) ↔ Full s len n
  accepted_exactly = (λ e. read-filled s len n o (sym h.0 ∙ e), λ w. h.0 ∙ full-read s len n w)

  pub accepted-some : r ≡ Reading.Accepted len n → 1 ≤ n
  accepted-some e = read_some s len n o (sym h.0 ∙ e)

-- A step

step-refusal : {n m at p : ℕ} → Step.Refused n at ≡ Step.Refused m p → n ≡ m
step-refusal e = cc

refused-offset : {n m at p : ℕ} → Step.Refused n at ≡ Step.Refused m p → at ≡ p
refused-offset e = cc

module _ (s : List ℕ) (start n at : ℕ) (o : Octets s) where
  step-fault : step_of s start ≡ Step.Refused n at → StepFault s start n at
  step-fault =
      step_cases s start (λ r. r ≡ Step.Refused n at → StepFault s start n at)
      (λ m h e. StepFault.header (to-header s n (rw (step-refusal e) at h)) (sym (refused-offset e)))
      (λ cat len h w e. outside (cat, len, h, w) (sym (step-refusal e)) (sym (refused-offset e)))
      (λ cat len h a b m f e. here cat len h a b (to_record s o cat len h start n (rw (step-refusal e) at f)) (sym (refused-offset e)))
      (λ cat len h a b x q f t e. absurd (not_taken (sym e)))

  fault-step : StepFault s start n at → step_of s start ≡ Step.Refused n at
  fault-step (StepFault.header w z) = sym (step-refused s start n (sym (of_header s n w))) ∙ ap (Step.Refused n) (sym z)
  fault-step (outside (cat, len, h, w) e z) = rw (e, z) (step-outside s start cat len h w)
  fault-step (here cat len h a b w z) = rw z (step_faulty s start cat len h n a b (of_record s o cat len h start n w))

  module _ (r : Step) (h : Steps s start r) where
    -- 1 to 11 and 17 of a step, with the offset.
    pub step_given : (r ≡ Step.Refused n at) ↔ StepFault s start n at
    step_given = (λ e. step-fault (sym h.0 ∙ e), λ w. h.0 ∙ fault-step w)

module _ (s : List ℕ) (start at : ℕ) (o : Octets s) where
  -- no header and no record is refused with 17
  only-outside : StepFault s start 17 at → NoRecord s start × (at ≡ 0)
  only-outside (StepFault.header w z) = absurd (omega (arith, header_refusals s 17 (of_header s 17 w)))
  only-outside (outside w e z) = (w, z)
  only-outside (here cat len g a b w z) =
      absurd (omega (arith, record_refusals s len (category cat) start o (some s o cat len g start) 17 (of_record s o cat len g start 17 w)))

  -- "17: no record .. of this number": a good header, and a start below 3, or at or past LEN; the offset is 0.
  pub step_given_17 : (r : Step) → Steps s start r → (r ≡ Step.Refused no_such at) ↔ (NoRecord s start × (at ≡ 0))
  step_given_17 r h = Iff.trans (step_given s start 17 at o r h) (only-outside, λ w. outside w.0 refl w.1)

  -- no refusal has the number 0
  step_refusals : (n : ℕ) → StepFault s start n at → 1 ≤ n
  step_refusals n (StepFault.header w z) = (header_refusals s n (of_header s n w)).0
  step_refusals n (outside w e z) = omega arith
  step_refusals n (here cat len g a b w z) =
      omega (arith, record_refusals s len (category cat) start o (some s o cat len g start) n (of_record s o cat len g start n w))

-- "0: accepted": a step that is not refused takes a record.
pub step_given_0 : (s : List ℕ) (start : ℕ) → Octets s → (r : Step) → Steps s start r
    → ((listed_step r).refusal ≡ 0) ↔ ((n at : ℕ) → StepFault s start n at → ⊥)
step_given_0 s start o (variants.Refused n at) h =
    let w = (step_given s start n at o (Step.Refused n at) h).0 refl in
    (λ e. absurd (omega (arith, step_refusals s start at o n w)), λ f. absurd (f n at w))
step_given_0 s start o (variants.Taken t c) h = (λ e n at w. not_taken (sym ((step_given s start n at o (Step.Taken t c) h).1 w)), λ f. refl)

-- An entry

found-refusal : {n m at p : ℕ} → Found.Refused n at ≡ Found.Refused m p → n ≡ m
found-refusal e = cc

found-offset : {n m at p : ℕ} → Found.Refused n at ≡ Found.Refused m p → at ≡ p
found-offset e = cc

not_refused : (cat : ℕ) (v : List ℕ) {n at : ℕ} → found_of cat v ≡ Found.Refused n at → ⊥
not_refused cat v {n} {at} =
    choose (λ x. x ≡ Found.Refused n at → ⊥) (eqb cat 242)
    (λ a e. let z : ◌≡◌ {A = ℕ} 0 1 = cc in omega arith)
    (λ a e. let z : ◌≡◌ {A = ℕ} 0 1 = cc in omega arith)

module _ (s : List ℕ) (start k n at : ℕ) (o : Octets s) where
  entry-fault : entry_of s start k ≡ Found.Refused n at → EntryFault s start k n at
  entry-fault =
      entry_cases s start k (λ r. r ≡ Found.Refused n at → EntryFault s start k n at)
      (λ m p h e. step (step-fault s start n at o (h ∙ cc)))
      (λ t c h l e. missing (t, c.at, h, l) (sym (found-refusal e)) (sym (found-offset e)))
      (λ t c h l v e. absurd (not_refused t.category v e))

  fault-entry : EntryFault s start k n at → entry_of s start k ≡ Found.Refused n at
  fault-entry (step w) = sym (entry-refused s start k n at (sym (fault-step s start n at o w)))
  fault-entry (missing (t, next, h, l) e z) = rw (e, z) (entry_past s start k t (record { at = next }) h l)

  module _ (r : Found) (h : Entries s start k r) where
    -- 1 to 11 and 17 of an entry, with the offset: a step's refusals, then 17.
    pub entry-given : (r ≡ Found.Refused n at) ↔ EntryFault s start k n at
    entry-given = (λ e. entry-fault (sym h.0 ∙ e), λ w. h.0 ∙ fault-entry w)

module _ (s : List ℕ) (start k at : ℕ) (o : Octets s) where
  none-there : EntryFault s start k 17 at ↔ ((NoRecord s start ⊎ NoEntry s start k) × (at ≡ 0))
  none-there = (to, λ w. back w.0 w.1)
    where
      to : EntryFault s start k 17 at → (NoRecord s start ⊎ NoEntry s start k) × (at ≡ 0)
      to (step w) = let x = only-outside s start at o w in (inl x.0, x.1)
      to (missing w e z) = (inr w, z)

      back : NoRecord s start ⊎ NoEntry s start k → at ≡ 0 → EntryFault s start k 17 at
      back (inl w) z = step (outside w refl z)
      back (inr w) z = missing w refl z

  -- "17: no record or entry of this number": a step gets 17, or it takes a record, which has no entry of this number; the offset is 0.
  pub entry_given_17 : (r : Found) → Entries s start k r → (r ≡ Found.Refused no_such at) ↔ ((NoRecord s start ⊎ NoEntry s start k) × (at ≡ 0))
  entry_given_17 r h = Iff.trans (entry-given s start k 17 at o r h) none-there

-- "0: accepted": an entry that is not refused is found.
pub entry_given_0 : (s : List ℕ) (start k : ℕ) → Octets s → (r : Found) → Entries s start k r
    → ((listed_entry r).refusal ≡ 0) ↔ ((n at : ℕ) → EntryFault s start k n at → ⊥)
entry_given_0 s start k o (found.Refused n at) h =
    let w = (entry-given s start k n at o (Found.Refused n at) h).0 refl in
    (λ e. absurd (omega (arith, entry_refusals w)), λ f. absurd (f n at w))
  where
    entry_refusals : EntryFault s start k n at → 1 ≤ n
    entry_refusals (step w) = step_refusals s start at o n w
    entry_refusals (missing w e z) = omega arith
entry_given_0 s start k o (found.Counter c) h =
    (λ e n at w. let d = (entry-given s start k n at o (Found.Counter c) h).1 w in (let z : ◌≡◌ {A = ℕ} 0 1 = cc in omega arith), λ f. refl)
entry_given_0 s start k o (found.Version c) h =
    (λ e n at w. let d = (entry-given s start k n at o (Found.Version c) h).1 w in (let z : ◌≡◌ {A = ℕ} 0 1 = cc in omega arith), λ f. refl)
