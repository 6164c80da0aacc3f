-- The refusal numbers of reading, each "given when, and only then" (01 "Refusal numbers"): of the marks, and of a record.
-- Assumes nothing.
use mathlib.Core.Path.{◌≡◌, refl, sym, ◌∙◌}
use mathlib.Core.Bool.{Bool, true, false, ◌&&◌, ◌||◌, false≢true, true≢false}
use mathlib.Core.List.{List, [], ◌∷◌}
use mathlib.Core.Logic.Iff
use mathlib.Core.Logic.{◌↔◌, ◌⊎◌, inl, inr}
use Prim.Native.Nat.{ℕ, zero, suc, ◌-◌, ◌≤◌, ◌<◌}
use native.Mathlib.Omega.{arith}
use borrow.Author.Tests.{eqb-true, eqb-false, eq-eqb, ne_eqb}
use lib.Dec.{eqb}
use lib.ListN.{length, get_or, take}
use Rattle.octets.specs.Choice.{pick}
use Rattle.octets.specs.Numbers.{Octets}
use Rattle.octets.proofs.Cases.{choose}
use Rattle.layouts.specs.Formats.{Parsed, refused, got, and_then, Format, done, Trace, fits_in}
use Rattle.layouts.specs.Offsets.{run_at, item_at}
use Rattle.layouts.specs.Layouts.{is_unused, format, kind_of}
use Rattle.layouts.specs.Tables.{layout}
use Rattle.layouts.specs.Categories.{Category, form_at, layout_at}
use Rattle.layouts.proofs.Parsed.{through}
use Rattle.layouts.specs.declared.form.Form.{Form}
use Rattle.blocks.specs.Specification.{flags}
use Rattle.blocks.specs.Marks.{marks_of}
use Rattle.blocks.specs.Records.{formats, marks_spare, layout_of, unmarked, specification_refusal, present}
use Rattle.blocks.specs.Offsets.{specification_at, items_at, record_at}
use Rattle.blocks.specs.Faults.{Passes, NoCount, PastLast, OutOfRange, Marks, NoneMarked, SpareMarked, Long, Cut, Read, GoodMarks, Faulty, Broken}
use Rattle.blocks.proofs.MarksLaws.{none-marks}
use Rattle.blocks.proofs.Faults.{both_hold, neither, answer-got, spec-given_4, spec-given_7, spec_refusals, form-given_7, form-given_8, form-given_9, item-given, item-given_11, item_refusals}

-- Marks

-- the number of marks is 0 where none is set
pub marks-zero : (bs : List Bool) → marks_of bs ≡ 0 → (i : ℕ) → get_or bs i false ≡ true → ⊥
unfolding marks_of
marks-zero [] h i m = false≢true m
marks-zero (true ∷ bs) h i m = omega arith
marks-zero (false ∷ bs) h zero m = false≢true m
marks-zero (false ∷ bs) h (suc i) m = marks-zero bs (omega arith) i m

pub zero-marks : (bs : List Bool) → ((i : ℕ) → get_or bs i false ≡ true → ⊥) → marks_of bs ≡ 0
unfolding marks_of
zero-marks [] h = refl
zero-marks (true ∷ bs) h = absurd (h 0 refl)
zero-marks (false ∷ bs) h = rw (zero-marks bs (λ i. h (suc i)))

-- a mark is set where a spare field, or none, stands
abbrev pub SpareAt : List Bool → List Form → Type 0
SpareAt bs fs = (i : ℕ) × (get_or bs i false ≡ true) × (is_unused (layout (get_or fs i Form.Spare)) ≡ true)

pub spare-at : (bs : List Bool) (fs : List Form) → marks_spare bs fs ≡ true → SpareAt bs fs
unfolding marks_spare
spare-at [] fs h = absurd (false≢true h)
spare-at (true ∷ bs) [] h = (0, refl, refl)
spare-at (false ∷ bs) [] h = let w = spare-at bs [] h in (suc w.0, w.1, refl)
spare-at (true ∷ bs) (f ∷ fs) h = go (is_unused (layout f)) refl h (spare-at bs fs)
  where
    go : (b : Bool) → is_unused (layout f) ≡ b → (b || marks_spare bs fs) ≡ true → (marks_spare bs fs ≡ true → SpareAt bs fs)
        → SpareAt (true ∷ bs) (f ∷ fs)
    go true e h k = (0, refl, e)
    go false e h k = let w = k h in (suc w.0, w.1, w.2)
spare-at (false ∷ bs) (f ∷ fs) h = let w = spare-at bs fs h in (suc w.0, w.1, w.2)

or_yes : (a b : Bool) → b ≡ true → (a || b) ≡ true
or_yes true b h = refl
or_yes false b h = h

pub at-spare : (bs : List Bool) (fs : List Form) (i : ℕ) → get_or bs i false ≡ true → is_unused (layout (get_or fs i Form.Spare)) ≡ true
    → marks_spare bs fs ≡ true
unfolding marks_spare
at-spare [] fs i m u = absurd (false≢true m)
at-spare (b ∷ bs) [] zero m u = rw m
at-spare (b ∷ bs) [] (suc i) m u = or_yes b (marks_spare bs []) (at-spare bs [] i m u)
at-spare (b ∷ bs) (f ∷ fs) zero m u = rw (m, u)
at-spare (b ∷ bs) (f ∷ fs) (suc i) m u = or_yes (b && is_unused (layout f)) (marks_spare bs fs) (at-spare bs fs i m u)

-- of marks that are seven to a number
module _ (gs : List ℕ) where
  unmarked-none : unmarked (flags gs) ≡ true → NoneMarked gs
  unmarked-none z zero m = false≢true m
  unmarked-none z (suc i) m = marks-zero (flags gs) (eqb-true (marks_of (flags gs)) 0 (sym (none-marks (flags gs)) ∙ z)) i m

  none-unmarked : NoneMarked gs → unmarked (flags gs) ≡ true
  none-unmarked h = none-marks (flags gs) ∙ eq-eqb (marks_of (flags gs)) 0 (zero-marks (flags gs) (λ i. h (suc i)))

  module _ (c : Category) where
    abbrev spare : Bool
    spare = marks_spare (flags gs) c.fields

    spare-some : spare ≡ true → SpareMarked c gs
    spare-some h = let w = spare-at (flags gs) c.fields h in (suc w.0, w.1, w.2)

    some-spare : SpareMarked c gs → spare ≡ true
    some-spare w = go w.0 w.1 w.2
      where
        go : (f : ℕ) → Marks gs f → is_unused (layout_at c f) ≡ true → spare ≡ true
        go zero m u = absurd (false≢true m)
        go (suc i) m u = at-spare (flags gs) c.fields i m u

    -- "6: no field marked"
    pub marks-given_6 : (specification_refusal c gs ≡ 6) ↔ NoneMarked gs
    unfolding specification_refusal
    marks-given_6 =
        let Same : ℕ → Type 0 = λ r. (r ≡ 6) ↔ NoneMarked gs in
        choose Same (unmarked (flags gs)) (λ z. both_hold (unmarked-none z)) λ z.
        let some : NoneMarked gs → ⊥ = λ h. false≢true (sym z ∙ none-unmarked h) in
        choose Same spare (λ a. neither (λ e. omega arith) some) (λ a. neither (λ e. omega arith) some)

    -- "5: a spare field marked"
    pub marks-given_5 : (specification_refusal c gs ≡ 5) ↔ SpareMarked c gs
    unfolding specification_refusal
    marks-given_5 =
        let Same : ℕ → Type 0 = λ r. (r ≡ 5) ↔ SpareMarked c gs in
        choose Same (unmarked (flags gs)) (λ z. neither (λ e. omega arith) (λ w. unmarked-none z w.0 w.1)) λ z.
        choose Same spare (λ a. both_hold (spare-some a)) (λ a. neither (λ e. omega arith) (λ w. false≢true (sym a ∙ some-spare w)))

    -- "0: accepted"
    pub marks_given_0 : (specification_refusal c gs ≡ 0) ↔ ((NoneMarked gs → ⊥) × (SpareMarked c gs → ⊥))
    unfolding specification_refusal
    marks_given_0 =
        let Same : ℕ → Type 0 = λ r. (r ≡ 0) ↔ ((NoneMarked gs → ⊥) × (SpareMarked c gs → ⊥)) in
        choose Same (unmarked (flags gs)) (λ z. neither (λ e. omega arith) (λ w. w.0 (unmarked-none z))) λ z.
        choose Same spare (λ a. neither (λ e. omega arith) (λ w. w.1 (spare-some a)))
        (λ a. both_hold ((λ h. false≢true (sym z ∙ none-unmarked h)), (λ w. false≢true (sym a ∙ some-spare w))))

    -- no other number refuses the marks
    pub marks_refusals : (specification_refusal c gs ≡ 0 → ⊥) → (5 ≤ specification_refusal c gs) × (specification_refusal c gs ≤ 6)
    unfolding specification_refusal
    marks_refusals =
        let Known : ℕ → Type 0 = λ r. (r ≡ 0 → ⊥) → (5 ≤ r) × (r ≤ 6) in
        choose Known (unmarked (flags gs)) (λ z d. omega arith) (λ z. choose Known spare (λ a d. omega arith) (λ a d. absurd (d refl)))

-- Items, one after the other

-- the answer to a step, or to what follows it, is a refusal
then_refused : {R A B : Type 0} (m : Parsed R A) (f : A → R → Parsed R B) (n : ℕ) (P : Type 0)
    → (m ≡ refused n → P) → ((a : A) (q : R) → m ≡ got a q → f a q ≡ refused n → P) → and_then m f ≡ refused n → P
then_refused (refused k) f n P x y h = x (cc)
then_refused (got a q) f n P x y h = y a q refl h

pick-refused : {R A : Type 0} (b : Bool) (m : Parsed R A) (k n : ℕ) (P : Type 0)
    → (b ≡ true → m ≡ refused n → P) → (b ≡ false → k ≡ n → P) → pick b m (refused k) ≡ refused n → P
pick-refused true m k n P x y h = x refl h
pick-refused false m k n P x y h = y refl (cc)

module _ (s : List ℕ) (len : ℕ) where
  -- an item is refused, and those before it are good and end where it starts
  abbrev Stopped : List Format → ℕ → ℕ → Type 0
  Stopped fs p n =
      (i : ℕ) × (i < length fs) × (trs : List Trace) × (q : ℕ)
      × (items_at s len (take i fs) p ≡ got trs q) × (item_at s len (get_or fs i done) q ≡ refused n)

  stopped : (fs : List Format) (p n : ℕ) → items_at s len fs p ≡ refused n → Stopped fs p n
  unfolding items_at
  stopped [] p n h = absurd (answer-got h)
  stopped (f ∷ fs) p n h =
      then_refused (item_at s len f p) _ n (Stopped (f ∷ fs) p n)
      (λ e. (0, omega arith, [], p, refl, e))
      (λ tr p' e h'. then_refused (items_at s len fs p') _ n (Stopped (f ∷ fs) p n)
      (λ e'. more tr p' e (stopped fs p' n e'))
      (λ trs q e' k. absurd (answer-got k)) h') h
    where
      more : (tr : Trace) (p' : ℕ) → item_at s len f p ≡ got tr p' → Stopped fs p' n → Stopped (f ∷ fs) p n
      more tr p' e w = (suc w.0, omega arith, tr ∷ w.2, w.3, rw (e, w.4), w.5)

  stops : (fs : List Format) (p n i : ℕ) (trs : List Trace) (q : ℕ) → i < length fs → items_at s len (take i fs) p ≡ got trs q
      → item_at s len (get_or fs i done) q ≡ refused n → items_at s len fs p ≡ refused n
  unfolding items_at
  stops [] p n i trs q l h k = absurd (omega arith)
  stops (f ∷ fs) p n zero trs q l h k = let e : q ≡ p = cc in rw (rw e at k)
  stops (f ∷ fs) p n (suc i) trs q l h k =
      let (tr, p', e, h') = through (item_at s len f p) h in
      let (trs', q', e', h'') = through (items_at s len (take i fs) p') h' in
      let same : q' ≡ q = cc in
      rw (e, stops fs p' n i trs' q' (omega arith) e' (rw same k))

-- what is read at a field that is marked, and at one that is not
format-at : (bs : List Bool) (fs : List Form) (i : ℕ) → i < length (formats bs fs)
    → get_or (formats bs fs) i done ≡ pick (get_or bs i false) (format (layout (get_or fs i Form.Spare))) done
unfolding formats
format-at [] fs i l = absurd (omega arith)
format-at (b ∷ bs) [] i l = absurd (omega arith)
format-at (b ∷ bs) (f ∷ fs) zero l = refl
format-at (b ∷ bs) (f ∷ fs) (suc i) l = format-at bs fs i (omega arith)

format-there : (bs : List Bool) (fs : List Form) (i : ℕ) → get_or bs i false ≡ true → is_unused (layout (get_or fs i Form.Spare)) ≡ false
    → i < length (formats bs fs)
unfolding formats
format-there [] fs i m u = absurd (false≢true m)
format-there (b ∷ bs) [] i m u = absurd (true≢false u)
format-there (b ∷ bs) (f ∷ fs) zero m u = omega arith
format-there (b ∷ bs) (f ∷ fs) (suc i) m u = omega (arith, format-there bs fs i m u)

module _ (s : List ℕ) (len : ℕ) (c : Category) (at : ℕ) where
  -- a marked field is not spare, where the marks are good
  used : (gs : List ℕ) (p : ℕ) → GoodMarks s len c at gs p → (f : ℕ) → Marks gs f → is_unused (layout_at c f) ≡ false
  used gs p g f m = go (is_unused (layout_at c f)) refl
    where
      go : (b : Bool) → is_unused (layout_at c f) ≡ b → b ≡ false
      go true e = absurd (g.2 (f, m, e))
      go false e = refl

  -- an item of a record is refused exactly where it is faulty
  module _ (n : ℕ) (Fault : Form → ℕ → Type 0) (law : (f : Form) (q : ℕ) → (item_at s len (format (layout f)) q ≡ refused n) ↔ Fault f q) where
    to-fault : (gs : List ℕ) (p : ℕ) → GoodMarks s len c at gs p → items_at s len (layout_of c gs) p ≡ refused n → Faulty s len c at Fault
    unfolding layout_of item_at run_at fits_in
    to-fault gs p g h =
        let w = stopped s len (layout_of c gs) p n h in
        go w.0 w.1 w.2 w.3 w.4 w.5 (get_or (flags gs) w.0 false) refl
      where
        go : (i : ℕ) → i < length (layout_of c gs) → (trs : List Trace) (q : ℕ) → items_at s len (take i (layout_of c gs)) p ≡ got trs q
            → item_at s len (get_or (layout_of c gs) i done) q ≡ refused n → (b : Bool) → get_or (flags gs) i false ≡ b
            → Faulty s len c at Fault
        go i l trs q r x true m = record {
          marks = gs;
          first = p;
          good = g;
          field = suc i;
          marked = m;
          before = trs;
          start = q;
          reached = let e : suc i - 1 ≡ i = omega arith in rw e r;
          fault = (law (form_at c (suc i)) q).0 (rw (format-at (flags gs) c.fields i l, m) at x);
        }
        go i l trs q r x false m = absurd (answer-got (rw (format-at (flags gs) c.fields i l, m) at x))

    of_fault : (w : Faulty s len c at Fault) → items_at s len (layout_of c w.marks) w.first ≡ refused n
    unfolding layout_of
    of_fault w = go w.field w.marked w.reached w.fault
      where
        gs : List ℕ
        gs = w.marks

        go : (f : ℕ) → Marks gs f → items_at s len (take (f - 1) (layout_of c gs)) w.first ≡ got w.before w.start
            → Fault (form_at c f) w.start → items_at s len (layout_of c gs) w.first ≡ refused n
        go zero m r x = absurd (false≢true m)
        go (suc i) m r x =
            let e : suc i - 1 ≡ i = omega arith in
            let l = format-there (flags gs) c.fields i m (used gs w.first w.good (suc i) m) in
            stops s len (layout_of c gs) w.first n i w.before w.start l (rw e at r)
            (rw (format-at (flags gs) c.fields i l, m) ((law (form_at c (suc i)) w.start).1 x))

  -- A record: refused at its specification, for its marks, at an item, or for what is present

  by-spec : (n : ℕ) → specification_at s len (c.most - 1) at ≡ refused n → record_at s len c at ≡ refused n
  unfolding record_at
  by-spec n e = rw e

  by-marks : (gs : List ℕ) (p n : ℕ) → Read s len c at gs p → specification_refusal c gs ≡ n → (n ≡ 0 → ⊥) → record_at s len c at ≡ refused n
  unfolding record_at
  by-marks gs p n e m d = rw (e, m, ne_eqb n 0 d)

  module _ (o : Octets s) where
    judge_good : (gs : List ℕ) (p : ℕ) → Read s len c at gs p → specification_refusal c gs ≡ 0 → GoodMarks s len c at gs p
    judge_good gs p e z = let w = (marks_given_0 gs c).0 z in (e, w.0, w.1)

    good-judged : (gs : List ℕ) (p : ℕ) → GoodMarks s len c at gs p → eqb (specification_refusal c gs) 0 ≡ true
    good-judged gs p g = eq-eqb (specification_refusal c gs) 0 ((marks_given_0 gs c).1 (g.1, g.2))

    by-items : (gs : List ℕ) (p n : ℕ) → GoodMarks s len c at gs p → items_at s len (layout_of c gs) p ≡ refused n
        → record_at s len c at ≡ refused n
    unfolding record_at
    by-items gs p n g h = rw (g.0, good-judged gs p g, h)

    by_presence : Broken s len c at → record_at s len c at ≡ refused 10
    unfolding record_at
    by_presence w = rw (w.good.0, good-judged w.marks w.first w.good, w.items, w.absent)

    record_cases : (n : ℕ) (P : Type 0) → (specification_at s len (c.most - 1) at ≡ refused n → P)
        → ((gs : List ℕ) (p : ℕ) → Read s len c at gs p → specification_refusal c gs ≡ n → (n ≡ 0 → ⊥) → P)
        → ((gs : List ℕ) (p : ℕ) → GoodMarks s len c at gs p → items_at s len (layout_of c gs) p ≡ refused n → P)
        → (Broken s len c at → n ≡ 10 → P) → record_at s len c at ≡ refused n → P
    unfolding record_at
    record_cases n P spec marks items presence =
        then_refused (specification_at s len (c.most - 1) at) _ n P spec λ gs p e.
        pick-refused (eqb (specification_refusal c gs) 0) _ (specification_refusal c gs) n P
        (λ z.
        let g = judge_good gs p e (eqb-true (specification_refusal c gs) 0 z) in
        then_refused (items_at s len (layout_of c gs) p) _ n P (items gs p g) λ trs q f.
        pick-refused (present c gs trs) (got (record { marks = gs; items = trs }) q) 10 n P
        (λ y k. absurd (answer-got k))
        (λ y k. presence (record { marks = gs; first = p; good = g; values = trs; next = q; items = f; absent = y }) (sym k)))
        (λ z k. marks gs p e k (λ d. eqb-false (specification_refusal c gs) 0 z (k ∙ d)))

    -- the numbers of each
    marks-refusal : (gs : List ℕ) (p n : ℕ) → Read s len c at gs p → specification_refusal c gs ≡ n → (n ≡ 0 → ⊥) → (5 ≤ n) × (n ≤ 6)
    marks-refusal gs p n e m d = rw m at (marks_refusals gs c (λ z. d (sym m ∙ z)))

    items-refusal : (gs : List ℕ) (p n : ℕ) → GoodMarks s len c at gs p → items_at s len (layout_of c gs) p ≡ refused n
        → (7 ≤ n) × (n ≤ 11) × (n ≡ 10 → ⊥)
    items-refusal gs p n g h =
        let w = to-fault n (λ f q. item_at s len (format (layout f)) q ≡ refused n) (λ f q. Iff.rfl) gs p g h in
        go (item_refusals s len o (form_at c w.field) w.start n (used w.marks w.first w.good w.field w.marked) w.fault)
      where
        go : ((7 ≤ n) × (n ≤ 9)) ⊎ (n ≡ 11) → (7 ≤ n) × (n ≤ 11) × (n ≡ 10 → ⊥)
        go (inl e) = omega arith
        go (inr e) = omega arith

    module _ (some : 1 ≤ c.most) where
      spec-refusal : (n : ℕ) → specification_at s len (c.most - 1) at ≡ refused n → (4 ≤ n) × (n ≤ 7) × (n ≡ 5 → ⊥) × (n ≡ 6 → ⊥)
      spec-refusal n h = go (spec_refusals s len c some at n h)
        where
          go : (n ≡ 4) ⊎ (n ≡ 7) → (4 ≤ n) × (n ≤ 7) × (n ≡ 5 → ⊥) × (n ≡ 6 → ⊥)
          go (inl e) = omega arith
          go (inr e) = omega arith

      -- "4: FX set in the last specification octet allowed"
      pub given_4 : (record_at s len c at ≡ refused 4) ↔ Long s len c at
      given_4 = (
        record_cases 4 (Long s len c at)
            (spec-given_4 s len c some at).0
            (λ gs p e m d. absurd (omega (arith, marks-refusal gs p 4 e m d)))
            (λ gs p g h. absurd (omega (arith, items-refusal gs p 4 g h)))
            (λ w e. absurd (omega arith)),
        λ w. by-spec 4 ((spec-given_4 s len c some at).1 w),
      )

      -- "5: a spare field marked"
      pub given_5 : (record_at s len c at ≡ refused 5) ↔ ((gs : List ℕ) × (p : ℕ) × Read s len c at gs p × SpareMarked c gs)
      given_5 = (
        record_cases 5 ((gs : List ℕ) × (p : ℕ) × Read s len c at gs p × SpareMarked c gs)
            (λ h. absurd (omega (arith, spec-refusal 5 h)))
            (λ gs p e m d. (gs, p, e, (marks-given_5 gs c).0 m))
            (λ gs p g h. absurd (omega (arith, items-refusal gs p 5 g h)))
            (λ w e. absurd (omega arith)),
        λ w. by-marks w.0 w.1 5 w.2 ((marks-given_5 w.0 c).1 w.3) (λ e. omega arith),
      )

      -- "6: no field marked"
      pub given_6 : (record_at s len c at ≡ refused 6) ↔ ((gs : List ℕ) × (p : ℕ) × Read s len c at gs p × NoneMarked gs)
      given_6 = (
        record_cases 6 ((gs : List ℕ) × (p : ℕ) × Read s len c at gs p × NoneMarked gs)
            (λ h. absurd (omega (arith, spec-refusal 6 h)))
            (λ gs p e m d. (gs, p, e, (marks-given_6 gs c).0 m))
            (λ gs p g h. absurd (omega (arith, items-refusal gs p 6 g h)))
            (λ w e. absurd (omega arith)),
        λ w. by-marks w.0 w.1 6 w.2 ((marks-given_6 w.0 c).1 w.3) (λ e. omega arith),
      )

      -- an item's number, from the law for an item
      module _ (n : ℕ) (Fault : Form → ℕ → Type 0)
          (law : (f : Form) (q : ℕ) → (item_at s len (format (layout f)) q ≡ refused n) ↔ Fault f q) where
        given-item : 8 ≤ n → (n ≡ 10 → ⊥) → (record_at s len c at ≡ refused n) ↔ Faulty s len c at Fault
        given-item low d = (
          record_cases n (Faulty s len c at Fault)
              (λ h. absurd (omega (arith, spec-refusal n h)))
              (λ gs p e m z. absurd (omega (arith, marks-refusal gs p n e m z)))
              (to-fault n Fault law)
              (λ w e. absurd (d e)),
          λ w. by-items w.marks w.first n w.good (of_fault n Fault law w),
        )

      law_7 : (f : Form) (q : ℕ) → (item_at s len (format (layout f)) q ≡ refused 7) ↔ Passes s len (kind_of (layout f)) q
      law_7 f q = Iff.trans (item-given s len o f q 7 (λ e. omega arith)) (form-given_7 s len f q)

      -- "7: a specification or item passes LEN"
      pub given_7 : (record_at s len c at ≡ refused 7) ↔ (Cut s len c at ⊎ Faulty s len c at (λ f. Passes s len (kind_of (layout f))))
      given_7 = (
        record_cases 7 (Cut s len c at ⊎ Faulty s len c at Over)
            (λ h. inl ((spec-given_7 s len c some at).0 h))
            (λ gs p e m d. absurd (omega (arith, marks-refusal gs p 7 e m d)))
            (λ gs p g h. inr (to-fault 7 Over law_7 gs p g h))
            (λ w e. absurd (omega arith)),
        back,
      )
        where
          Over : Form → ℕ → Type 0
          Over f = Passes s len (kind_of (layout f))

          back : Cut s len c at ⊎ Faulty s len c at Over → record_at s len c at ≡ refused 7
          back (inl w) = by-spec 7 ((spec-given_7 s len c some at).1 w)
          back (inr w) = by-items w.marks w.first 7 w.good (of_fault 7 Over law_7 w)

      -- "8: REP 0, or RE/SP length below 2"
      pub given_8 : (record_at s len c at ≡ refused 8) ↔ Faulty s len c at (λ f. NoCount s len (kind_of (layout f)))
      given_8 =
          given-item 8 (λ f. NoCount s len (kind_of (layout f)))
          (λ f q. Iff.trans (item-given s len o f q 8 (λ e. omega arith)) (form-given_8 s len f q)) (omega arith) (λ e. omega arith)

      -- "9: FX set beyond the last extension above"
      pub given_9 : (record_at s len c at ≡ refused 9) ↔ Faulty s len c at (λ f. PastLast s len (kind_of (layout f)))
      given_9 =
          given-item 9 (λ f. PastLast s len (kind_of (layout f)))
          (λ f q. Iff.trans (item-given s len o f q 9 (λ e. omega arith)) (form-given_9 s len f q)) (omega arith) (λ e. omega arith)

      -- "10: presence broken"
      pub given_10 : (record_at s len c at ≡ refused 10) ↔ Broken s len c at
      given_10 = (
        record_cases 10 (Broken s len c at)
            (λ h. absurd (omega (arith, spec-refusal 10 h)))
            (λ gs p e m d. absurd (omega (arith, marks-refusal gs p 10 e m d)))
            (λ gs p g h. absurd (omega (arith, items-refusal gs p 10 g h)))
            (λ w e. w),
        by_presence,
      )

      -- "11: a value out of range"
      pub given_11 : (record_at s len c at ≡ refused 11) ↔ Faulty s len c at (OutOfRange s len)
      given_11 = given-item 11 (OutOfRange s len) (λ f q. item-given_11 s len o f q) (omega arith) (λ e. omega arith)

      -- no other number refuses a record
      pub record_refusals : (n : ℕ) → record_at s len c at ≡ refused n → (4 ≤ n) × (n ≤ 11)
      record_refusals n =
          record_cases n ((4 ≤ n) × (n ≤ 11))
          (λ h. omega (arith, spec-refusal n h))
          (λ gs p e m d. omega (arith, marks-refusal gs p n e m d))
          (λ gs p g h. omega (arith, items-refusal gs p n g h))
          (λ w e. omega arith)
