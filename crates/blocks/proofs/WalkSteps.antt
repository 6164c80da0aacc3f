-- One step of each walk: what the definitions say of the case that a branch of the code is in. Only these unfold them.
-- Assumes nothing.
use mathlib.Core.Path.{◌≡◌, refl, sym, ◌∙◌, subst}
use mathlib.Core.Bool.{Bool, true, false, ◌&&◌, ◌||◌, false≢true, true≢false}
use mathlib.Core.List.{List, [], ◌∷◌, ◌++◌}
use Prim.Native.Nat.{ℕ, zero, suc, ◌+◌, ◌-◌, ◌*◌, ◌≤◌, ◌<◌}
use native.Mathlib.Nat.{sub_self}
use native.Mathlib.Omega.{arith}
use borrow.Author.Tests.{eqb-true, lt-leb, le-leb, eq-eqb, ne_eqb}
use lib.Dec.{eqb}
use lib.ListN.{length, get_or, drop, replicate, length-drop, drop_of_length-le}
use lib.Seq.{drop-nil, drop-drop, drop-cons, get_or-drop}
use Rattle.octets.specs.Choice.{pick}
use Rattle.octets.specs.Numbers.{Octets}
use Rattle.octets.specs.Refusals.{long_specification, spare_marked, none_marked, presence_broken}
use Rattle.octets.proofs.Cases.{neither}
use Rattle.layouts.specs.Formats.{Parsed, refused, got, and_then, Format, Trace, fits_in}
use Rattle.layouts.specs.Offsets.{run_at, item_at, trace_at}
use Rattle.layouts.specs.Layouts.{Layout, unused, fixed, extended, repeated, explicit, is_unused, chain, counted, format}
use Rattle.layouts.specs.Ends.{end_of, chain_end}
use Rattle.layouts.specs.Tables.{layout}
use Rattle.layouts.specs.Categories.{Category, known, category, form_at}
use Rattle.layouts.proofs.Categories.{seven-each}
use Rattle.layouts.proofs.Parsed.{got-refused, pick_yes, through}
use Rattle.layouts.proofs.Windows.{run_trace, run-within}
use Rattle.layouts.specs.End.{End}
use Rattle.layouts.specs.End.{At, Refused}
use Rattle.layouts.specs.declared.form.Form.{Form}
use Rattle.blocks.specs.Specification.{flags}
use Rattle.layouts.specs.Presence.{needs_of, meets}
use Rattle.blocks.specs.Marks.{marks_of, flags_of, groups_of, next_marked, next_from}
use Rattle.blocks.specs.Records.{Rec, formats, marks_spare, layout_of, unmarked, specification_refusal, marks_refusal, is_type, value_or, type_in, type_of, present}
use Rattle.blocks.specs.Offsets.{specification_at, items_at, record_at}
use Rattle.blocks.specs.Walks.{onward, run_of, after_items, rest_of}
use Rattle.blocks.specs.Walked.{Walked}
use Rattle.items.specs.Typed.{val}
use Rattle.blocks.proofs.NextLaws.{next-within, next-marked}
use Rattle.blocks.proofs.MarksLaws.{flags_32, formats-more, refusal-more, meets-more, flags_long, Marked, specification-marked, spec-end}

-- what holds of the three categories holds of every one that is read
pub by-known : (P : ℕ → Type 0) → P 23 → P 65 → P 242 → (n : ℕ) → known n ≡ true → P n
by-known P a b c n h = go (eqb n 23) (eqb n 65) (eqb n 242) refl refl refl h
  where
    go : (x y z : Bool) → eqb n 23 ≡ x → eqb n 65 ≡ y → eqb n 242 ≡ z → (x || (y || z)) ≡ true → P n
    go true y z e f g h = subst P (sym (eqb-true n 23 e)) a
    go false true z e f g h = subst P (sym (eqb-true n 65 f)) b
    go false false true e f g h = subst P (sym (eqb-true n 242 g)) c
    go false false false e f g h = absurd (false≢true h)

-- what the walks need of a category: seven fields to each of one or two specification octets
pub record Table (n : ℕ) (c : Category) : Type 0 where
  pub cat : c.cat ≡ n
  pub long : length c.fields ≡ c.most * 7
  pub some : 1 ≤ c.most
  pub few : c.most ≤ 2

pub table : (n : ℕ) → known n ≡ true → Table n (category n)
table n k = record {
  cat = by-known (λ (n : ℕ). (category n).cat ≡ n) refl refl refl n k;
  long = (seven-each n).0;
  some = by-known (λ (n : ℕ). 1 ≤ (category n).most) (omega arith) (omega arith) (omega arith) n k;
  few = (seven-each n).1;
}

-- the answer that has an end
module _ {A : Type 0} where
  abbrev Ended : Parsed ℕ A → End → Type 0
  Ended m (At q) = (a : A) × (m ≡ got a q)
  Ended m (Refused n) = m ≡ refused n

  ended : (m : Parsed ℕ A) {r : End} → r ≡ end_of m → Ended m r
  ended (refused n) h = subst (Ended (refused n)) (sym h) refl
  ended (got a q) h = subst (Ended (got a q)) (sym h) (a, refl)

module _ (s : List ℕ) (len : ℕ) where
  pub item-run : (f : Format) (at q : ℕ) (tr : Trace) → item_at s len f at ≡ got tr q → run_at s len f at ≡ got tr q
  unfolding item_at
  item-run f at q tr h =
      let w = through (run_at s len f at) h in
      w.2 ∙ (pick_yes (fits_in f w.0) _ _ w.3).1

  pub item-fits : (f : Format) (at q : ℕ) (tr : Trace) → item_at s len f at ≡ got tr q → fits_in f tr ≡ true
  unfolding item_at
  item-fits f at q tr h =
      let w = through (run_at s len f at) h in
      let (fit, same) = pick_yes (fits_in f w.0) _ _ w.3 in
      let e : w.0 ≡ tr = cc in
      rw e at fit

  -- an item ends where it begins or behind, and within the block; so do items one after the other
  pub item-within : (f : Format) (at q : ℕ) → at ≤ len → At q ≡ end_of (item_at s len f at) → (at ≤ q) × (q ≤ len)
  item-within f at q l h =
      let w = ended (item_at s len f at) h in
      run-within s len f at w.0 q l (item-run f at q w.0 w.1)

  pub items-within : (fs : List Format) (at q : ℕ) (trs : List Trace) → at ≤ len → items_at s len fs at ≡ got trs q → (at ≤ q) × (q ≤ len)
  unfolding items_at
  items-within [] at q trs l h = let e : at ≡ q = cc in (omega arith, omega arith)
  items-within (f ∷ fs) at q trs l h =
      let (tr, p, e, h') = through (item_at s len f at) h in
      let (trs', q', e', last) = through (items_at s len fs p) h' in
      let same : q' ≡ q = cc in
      let (a, b) = run-within s len f at tr p l (item-run f at p tr e) in
      let (a', b') = items-within fs p q' trs' b e' in
      (omega arith, omega arith)

-- The type of a record, behind one item more

pick_same : {A : Type 0} (b : Bool) (a : A) → pick b a a ≡ a
pick_same true a = refl
pick_same false a = refl

type-end : (t : ℕ) (fs : List Form) → type_in t fs [] ≡ t
type-end t [] = refl
type-end t (f ∷ fs) = refl

-- an item that was read has a value
value_there : (t : ℕ) (l : Layout) (s : List ℕ) (len at q : ℕ) (tr : Trace) → item_at s len (format l) at ≡ got tr q
    → value_or t tr ≡ val (trace_at (format l) s at) 0 0
unfolding item_at run_at format chain counted trace_at
value_there t l s len at q tr h =
    let e = run_trace s len (format l) at tr q (item-run s len (format l) at q tr h) in
    rw e (go l h)
  where
    go : (l : Layout) → item_at s len (format l) at ≡ got tr q → value_or t (trace_at (format l) s at) ≡ val (trace_at (format l) s at) 0 0
    go unused h = absurd (got-refused h)
    go (fixed g) h = refl
    go (extended g []) h = refl
    go (extended g (k ∷ ks)) h = refl
    go (repeated g) h = refl
    go explicit h = refl

-- Fields and their marks

formats-none : (bs : List Bool) → formats bs [] ≡ []
unfolding formats
formats-none [] = refl
formats-none (b ∷ bs) = refl

-- where no spare field is marked, a marked one is the category's
marked-inside : (bs : List Bool) (fs : List Form) (n : ℕ) → marks_spare bs fs ≡ false → get_or bs n false ≡ true → n < length fs
unfolding marks_spare
marked-inside [] fs n h m = absurd (false≢true m)
marked-inside (b ∷ bs) [] zero h m = absurd (true≢false (sym m ∙ (neither b (marks_spare bs []) h).0))
marked-inside (b ∷ bs) [] (suc n) h m = absurd (omega (arith, marked-inside bs [] n (neither b (marks_spare bs []) h).1 m))
marked-inside (b ∷ bs) (f ∷ fs) zero h m = omega arith
marked-inside (b ∷ bs) (f ∷ fs) (suc n) h m =
    omega (arith, marked-inside bs fs n (neither (b && is_unused (layout f)) (marks_spare bs fs) h).1 m)

pub no-spare : (c : Category) (marks : ℕ) → marks_refusal c marks ≡ 0 → marks_spare (flags_of 32 marks) c.fields ≡ false
no-spare c marks = go (unmarked (flags_of 32 marks)) (marks_spare (flags_of 32 marks) c.fields)
  where
    go : (none spare : Bool) → pick none none_marked (pick spare spare_marked 0) ≡ 0 → spare ≡ false
    go true spare h = absurd (omega arith)
    go false true h = absurd (omega arith)
    go false false h = refl

-- The rest of a record, from a field on
module _ (s : List ℕ) (len : ℕ) (c : Category) (marks start budget count : ℕ) where
  -- by the fields left, with their marks
  abbrev left : List Bool → List Form → ℕ → ℕ → Walked
  left bs fs at typ = after_items s len c (flags_of 32 marks) fs typ start budget count (items_at s len (formats bs fs) at)

  abbrev rest : ℕ → ℕ → ℕ → Walked
  rest f at typ = rest_of s len c (flags_of 32 marks) f at typ start budget count

  -- a field that is not marked has no item
  left-unmarked : (f : Form) (bs : List Bool) (fs : List Form) (at typ : ℕ) → left (false ∷ bs) (f ∷ fs) at typ ≡ left bs fs at typ
  unfolding items_at formats item_at run_at fits_in
  left-unmarked f bs fs at typ = go (items_at s len (formats bs fs) at)
    where
      go : (a : Parsed ℕ (List Trace))
          → after_items s len c (flags_of 32 marks) (f ∷ fs) typ start budget count (and_then a (λ trs q. got ([] ∷ trs) q))
          ≡ after_items s len c (flags_of 32 marks) fs typ start budget count a
      go (refused n) = refl
      go (got trs q) = rw (pick_same (is_type f) typ)

  -- so the walk may go to the next field that is marked
  left-next : (bs : List Bool) (fs : List Form) (f at typ : ℕ)
      → left (drop (next_marked bs f - f) bs) (drop (next_marked bs f - f) fs) at typ ≡ left bs fs at typ
  unfolding next_marked
  left-next [] fs f at typ = rw sub_self
  left-next (true ∷ bs) fs f at typ = rw sub_self
  left-next (false ∷ bs) [] f at typ = rw (drop-nil, formats-none, formats-none)
  left-next (false ∷ bs) (g ∷ fs) f at typ =
      let low = (next-within bs (suc f)).0 in
      let e : next_marked bs (suc f) - f ≡ suc (next_marked bs (suc f) - suc f) = omega arith in
      rw e (left-next bs fs (suc f) at typ ∙ sym (left-unmarked g bs fs at typ))

  -- an item of a marked field: its refusal, or the rest behind it
  module _ (f : Form) (bs : List Bool) (fs : List Form) (at typ : ℕ) where
    left-refused : (n : ℕ) → item_at s len (format (layout f)) at ≡ refused n → Walked.Refused n start ≡ left (true ∷ bs) (f ∷ fs) at typ
    unfolding items_at formats
    left-refused n h = rw h

    left_passed : (tr : Trace) (q : ℕ) → item_at s len (format (layout f)) at ≡ got tr q
        → left bs fs q (pick (is_type f) (value_or typ tr) typ) ≡ left (true ∷ bs) (f ∷ fs) at typ
    unfolding items_at formats
    left_passed tr q h = rw h (go (items_at s len (formats bs fs) q))
      where
        go : (a : Parsed ℕ (List Trace))
            → after_items s len c (flags_of 32 marks) fs (pick (is_type f) (value_or typ tr) typ) start budget count a
            ≡ after_items s len c (flags_of 32 marks) (f ∷ fs) typ start budget count (and_then a (λ trs q. got (tr ∷ trs) q))
        go (refused n) = refl
        go (got trs q) = refl

  -- on to the next field that is marked, or behind the last
  rest-next : (field f at typ : ℕ) → 1 ≤ field → f ≡ next_from marks field → rest f at typ ≡ rest field at typ
  unfolding rest_of
  rest-next field f at typ low is =
      let bs = drop (field - 1) (flags_of 32 marks) in
      let n = next_marked bs field in
      let up = (next-within bs field).0 in
      let e : field - 1 + (n - field) ≡ f - 1 = omega (arith, is) in
      rw (drop-drop (n - field) (field - 1) (flags_of 32 marks), drop-drop (n - field) (field - 1) c.fields, e)
      at (left-next bs (drop (field - 1) c.fields) field at typ)

  module _ (field at typ : ℕ) (low : 1 ≤ field) where
    -- behind the last item
    module _ (over : next_from marks field ≡ 33) (n : ℕ) (t : Table n c) where
      rest_over : pick (meets (needs_of n) typ (flags_of 32 marks)) (run_of s len c budget at (count + 1)) (Walked.Refused presence_broken start)
          ≡ rest field at typ
      unfolding rest_of flags_of formats items_at
      rest_over =
          let none : drop 32 (flags_of 32 marks) ≡ [] = drop_of_length-le (flags_of 32 marks) {i = 32} (omega arith) in
          rw (← rest-next field 33 at typ low (sym over), none, type-end, t.cat)

      pub rest-present : meets (needs_of n) typ (flags_of 32 marks) ≡ true → (r : Walked) → r ≡ run_of s len c budget at (count + 1) → r ≡ rest field at typ
      rest-present m r e = e ∙ (rw m at rest_over)

      pub rest-absent : meets (needs_of n) typ (flags_of 32 marks) ≡ false → Walked.Refused presence_broken start ≡ rest field at typ
      rest-absent m = rw m at rest_over

    -- at an item
    module _ (f : ℕ) (is : (f ≡ next_from marks field) × (field ≤ f) × (f ≤ 32)) (fine : marks_refusal c marks ≡ 0) where
      abbrev one : Parsed ℕ Trace
      one = item_at s len (format (layout (form_at c f))) at

      here : get_or (flags_of 32 marks) (f - 1) false ≡ true
      unfolding flags_of
      here =
          let n = next_marked (drop (field - 1) (flags_of 32 marks)) field in
          let e : field - 1 + (n - field) ≡ f - 1 = omega (arith, is.0, is.1) in
          let few : length (drop (field - 1) (flags_of 32 marks)) ≡ 33 - field = simp length-drop (omega arith) in
          rw (get_or-drop, e) at (next-marked (drop (field - 1) (flags_of 32 marks)) field (omega (arith, is.0, is.2)))

      fields-here : drop (f - 1) c.fields ≡ form_at c f ∷ drop f c.fields
      fields-here =
          let inside = marked-inside (flags_of 32 marks) c.fields (f - 1) (no-spare c marks fine) here in
          let e : f ≡ suc (f - 1) = omega (arith, is.1) in
          subst (λ (g : ℕ). drop (f - 1) c.fields ≡ form_at c g ∷ drop g c.fields) (sym e)
          (drop-cons c.fields (f - 1) Form.Spare inside)

      marks-here : drop (f - 1) (flags_of 32 marks) ≡ true ∷ drop f (flags_of 32 marks)
      unfolding flags_of
      marks-here =
          let e : f ≡ suc (f - 1) = omega (arith, is.1) in
          drop-cons (flags_of 32 marks) (f - 1) false (omega (arith, is.2)) ∙ rw (here, ← e)

      pub rest-refused : (w : ℕ) → Refused w ≡ end_of one → Walked.Refused w start ≡ rest field at typ
      unfolding rest_of
      rest-refused w h =
          rw (← rest-next field f at typ low is.0, fields-here, marks-here)
          (left-refused (form_at c f) (drop f (flags_of 32 marks)) (drop f c.fields) at typ w (ended one h))

      pub rest_passed : (q : ℕ) → At q ≡ end_of one → (x : ℕ) → x ≡ pick (is_type (form_at c f)) (val (trace_at (format (layout (form_at c f))) s at) 0 0) typ
          → (r : Walked) → r ≡ rest (f + 1) q x → r ≡ rest field at typ
      unfolding rest_of
      rest_passed q h x e r same =
          let w = ended one h in
          let typed : x ≡ pick (is_type (form_at c f)) (value_or typ w.0) typ
          = e ∙ rw (value_there typ (layout (form_at c f)) s len at q w.0 w.1) in
          let n : f + 1 - 1 ≡ f = omega arith in
          same
          ∙ rw (← rest-next field f at typ low is.0, n, typed, fields-here, marks-here)
          (left_passed (form_at c f) (drop f (flags_of 32 marks)) (drop f c.fields) at typ w.0 q w.1)

module _ (s : List ℕ) (len : ℕ) (c : Category) (at : ℕ) where
  module _ (budget count : ℕ) where
    pub run_none : budget ≡ 0 → Walked.To at count ≡ run_of s len c budget at count
    unfolding run_of
    run_none h = rw h

    pub run-one : (b : ℕ) → budget ≡ suc b → at < len
        → onward s len c at (record_at s len c at) (λ q. run_of s len c b q (count + 1)) ≡ run_of s len c budget at count
    unfolding run_of
    run-one b e more = rw (e, lt-leb len at more)

  pub run_end : (budget count : ℕ) → len ≤ at → Walked.To at count ≡ run_of s len c budget at count
  unfolding run_of
  run_end zero count h = refl
  run_end (suc b) count h = rw (le-leb len at h)

-- A record from its specification on
module _ (s : List ℕ) (len : ℕ) (c : Category) (at : ℕ) where
  abbrev specification : Parsed ℕ (List ℕ)
  specification = specification_at s len (c.most - 1) at

  -- the specification ends at p
  pub record Spec (p : ℕ) : Type 0 where
    pub gs : List ℕ
    pub is : specification ≡ got gs p
    pub marked : Marked s len (c.most - 1) at gs p
    pub short : p ≤ at + 2

  module _ (n : ℕ) (t : Table n c) (m : ℕ) (most : m ≡ c.most) where
    abbrev end : End
    end = chain_end s len long_specification 1 (m - 1) at

    pub spec-ended : (r : End) → r ≡ end → Ended specification r
    spec-ended r h = ended specification (h ∙ rw most (sym (spec-end s len (c.most - 1) at)))

    pub spec_at : (p : ℕ) → At p ≡ end → Octets s → Spec p
    spec_at p h o =
        let (gs, is) = spec-ended (At p) h in
        let w = specification-marked s len (c.most - 1) at gs p o is in
        record { gs = gs; is = is; marked = w; short = omega arith }

    pub record_refused : (budget count : ℕ) → at < len → budget ≡ suc (budget - 1) → (w : ℕ) → Refused w ≡ end
        → Walked.Refused w at ≡ run_of s len c budget at count
    unfolding record_at
    record_refused budget count more some w h =
        rw (spec-ended (Refused w) h) at (run-one s len c at budget count (budget - 1) some more)

  module _ (n : ℕ) (t : Table n c) (p : ℕ) (sp : Spec p) (budget count : ℕ) (more : at < len) (some : budget ≡ suc (budget - 1))
      (marks : ℕ) (is : marks ≡ marks_of (flags (groups_of (p - at) s at)))
      (w : ℕ) (judged : w ≡ marks_refusal c marks) where
    abbrev gs : List ℕ
    gs = sp.gs

    -- the fields behind those of the specification
    abbrev others : ℕ
    others = 32 - 7 * length gs

    same_flags : flags_of 32 marks ≡ flags gs ++ replicate others false
    same_flags = rw (is, ← sp.marked.same) (flags_32 gs (omega arith))

    same-refusal : w ≡ specification_refusal c gs
    unfolding specification_refusal
    same-refusal = judged ∙ rw (same_flags, refusal-more)

    pub record_unmarked : (w ≡ 0 → ⊥) → Walked.Refused w at ≡ run_of s len c budget at count
    unfolding record_at
    record_unmarked h = rw (sp.is, ← same-refusal, ne_eqb w 0 h) at (run-one s len c at budget count (budget - 1) some more)

    pub record_items : w ≡ 0 → (r : Walked) → r ≡ rest_of s len c (flags_of 32 marks) 1 p 0 at (budget - 1) count
        → r ≡ run_of s len c budget at count
    unfolding record_at rest_of layout_of present
    record_items h r e =
        let long : length c.fields ≤ length (flags gs) = omega (arith, flags_long gs) in
        e
        ∙ rw (same_flags, formats-more (flags gs) others c.fields long) (go (items_at s len (formats (flags gs) c.fields) p))
        ∙ rw (sp.is, ← same-refusal, eq-eqb w 0 h) at (run-one s len c at budget count (budget - 1) some more)
      where
        next : ℕ → Walked
        next q = run_of s len c (budget - 1) q (count + 1)

        met : List Trace → Bool
        met trs = meets (needs_of c.cat) (type_of c trs) (flags gs)

        either : (b : Bool) (rc : Rec) (q : ℕ)
            → pick b (next q) (Walked.Refused presence_broken at) ≡ onward s len c at (pick b (got rc q) (refused presence_broken)) next
        either true rc q = refl
        either false rc q = refl

        go : (a : Parsed ℕ (List Trace))
            → after_items s len c (flags gs ++ replicate others false) c.fields 0 at (budget - 1) count a
            ≡ onward s len c at
            (and_then a (λ trs q. pick (met trs) (got (record { marks = gs; items = trs }) q) (refused presence_broken))) next
        go (refused x) = refl
        go (got trs q) = rw (meets-more (needs_of c.cat) (type_of c trs) (flags gs) others) (either (met trs) _ q)
