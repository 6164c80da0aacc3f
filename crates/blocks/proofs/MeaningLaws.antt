-- A typed record that was made of a record read means that record. Assumes nothing.
use mathlib.Core.Path.{◌≡◌, refl, sym, ap, ◌∙◌, subst}
use mathlib.Core.Bool.{Bool, true, false, false≢true}
use mathlib.Core.List.{List, [], ◌∷◌, ◌++◌}
use Prim.Native.Nat.{ℕ, zero, suc, ◌+◌, ◌-◌, ◌*◌, ◌/◌, ◌%◌, ◌≤◌, ◌<◌}
use native.Mathlib.Nat.{sub-zero}
use native.Mathlib.Omega.{arith}
use borrow.Author.Tests.{eqb-true}
use lib.Dec.{leb, ltb, eqb}
use lib.ListN.{length, get_or, replicate}
use Rattle.octets.specs.Choice.{pick, odd}
use Rattle.octets.specs.Numbers.{Octets, number}
use Rattle.octets.proofs.Cases.{choose}
use Rattle.layouts.specs.Groups.{values, Group}
use Rattle.layouts.specs.Formats.{Parsed, refused, got, and_then, Format, done, ask, Trace, fits_in}
use Rattle.layouts.specs.Offsets.{run_at, item_at}
use Rattle.layouts.specs.Layouts.{Layout, unused, fixed, extended, repeated, explicit, is_unused, chain, counted, format}
use Rattle.layouts.specs.Tables.{layout}
use Rattle.layouts.specs.Categories.{Category, known, category}
use Rattle.layouts.specs.declared.form.Form.{Form}
use Rattle.layouts.specs.declared.form.Form.TheVariants as form
use Rattle.layouts.proofs.Parsed.{got-refused, pick_no, through, OfGot}
use Rattle.items.specs.Typed.{val, trace_of}
use Rattle.items.specs.declared.typed.Item.{Item}
use Rattle.items.proofs.Items.{item_of, typed_trace}
use Rattle.blocks.specs.Specification.{flags}
use Rattle.blocks.specs.Marks.{marks_of, flags_of}
use Rattle.blocks.specs.Records.{Rec, formats, layout_of}
use Rattle.blocks.specs.Offsets.{specification_at, items_at, record_at}
use Rattle.blocks.specs.Typed.{typed, field_for, place_in, start_in, values_for, start_for, typed_rec}
use Rattle.blocks.specs.Steps.{items_from}
use Rattle.blocks.specs.Meaning.{item_in, sevens, values_of, rec_of}
use Rattle.blocks.specs.declared.record.Record.{Record}
use Rattle.blocks.proofs.MarksLaws.{flags_long, flags_32, marks-one, marks_cons, specification-marked}
use Rattle.blocks.proofs.WalkSteps.{Table, table, item-run}
use Rattle.blocks.proofs.FormLaws.{owned, Forms, forms, field-owned}
use Rattle.blocks.proofs.ItemStarts.{formats-at, items-there}
use Rattle.blocks.proofs.ReadSteps.{record_parts}

-- The marks

-- numbers of seven marks each
abbrev pub Sevens : List ℕ → Type 0
Sevens [] = Unit {0}
Sevens (g ∷ gs) = (g < 128) × Sevens gs

no-sevens : (n : ℕ) → Sevens (replicate n 0)
no-sevens zero = tt
no-sevens (suc n) = (omega arith, no-sevens n)

-- half an octet is such a number
specification-sevens : (s : List ℕ) (len : ℕ) → Octets s → (n at : ℕ) → OfGot (λ gs q. Sevens gs) (specification_at s len n at)
unfolding specification_at
specification-sevens s len o zero at =
    choose (OfGot (λ gs q. Sevens gs)) (leb len at) (λ e. tt)
    (λ e. choose (OfGot (λ gs q. Sevens gs)) (odd (get_or s at 0)) (λ f. tt) (λ f. (omega (arith, o at), tt)))
specification-sevens s len o (suc n) at =
    choose (OfGot (λ gs q. Sevens gs)) (leb len at) (λ e. tt)
    (λ e. choose (OfGot (λ gs q. Sevens gs)) (odd (get_or s at 0))
    (λ f. go (specification_at s len n (at + 1)) (specification-sevens s len o n (at + 1)))
    (λ f. (omega (arith, o at), no-sevens (suc n))))
  where
    go : (m : Parsed ℕ (List ℕ)) → OfGot (λ gs q. Sevens gs) m
        → OfGot (λ gs q. Sevens gs) (and_then m (λ gs q. got (get_or s at 0 / 2 ∷ gs) q))
    go (refused k) w = tt
    go (got gs q) w = (omega (arith, o at), w)

-- seven bits, the high one first
bits : (g : ℕ) → g < 128 → g / 64 % 2 * 64 + g / 32 % 2 * 32 + g / 16 % 2 * 16 + g / 8 % 2 * 8 + g / 4 % 2 * 4 + g / 2 % 2 * 2 + g % 2 ≡ g
bits g l =
    sum (g / 2) (g / 4) (g / 8) (g / 16) (g / 32)
    (omega arith) (omega arith) (omega arith) (omega arith) (omega arith) (omega arith)
  where
    sum : (a b c d e : ℕ) → g ≡ a * 2 + g % 2 → a ≡ b * 2 + a % 2 → b ≡ c * 2 + b % 2 → c ≡ d * 2 + c % 2 → d ≡ e * 2 + d % 2
        → e ≡ g / 64 % 2 * 2 + e % 2
        → g / 64 % 2 * 64 + e % 2 * 32 + d % 2 * 16 + c % 2 * 8 + b % 2 * 4 + a % 2 * 2 + g % 2 ≡ g
    sum a b c d e ha hb hc hd he hf = omega arith

pub two : (x : ℕ) → x % 2 < 2
two x = omega arith

pub low_bit : (n x m : ℕ) → x < 2 → n ≡ x + m * 2 → n % 2 ≡ x
low_bit n x m l h = omega arith

-- a number of seven bits, the low one first, and what stands above them
module _ (m a b c d e f g : ℕ) (la : a < 2) (lb : b < 2) (lc : c < 2) (ld : d < 2) (le : e < 2) (lf : f < 2) (lg : g < 2)
    (n : ℕ) (is : n ≡ m * 128 + (a + b * 2 + c * 4 + d * 8 + e * 16 + f * 32 + g * 64)) where
  turned : (n % 2 * 64 + n / 2 % 2 * 32 + n / 4 % 2 * 16 + n / 8 % 2 * 8 + n / 16 % 2 * 4 + n / 32 % 2 * 2 + n / 64 % 2
      ≡ a * 64 + b * 32 + c * 16 + d * 8 + e * 4 + f * 2 + g) × (n / 128 ≡ m)
  turned = (
    rw (
      low_bit n a (m * 64 + (b + c * 2 + d * 4 + e * 8 + f * 16 + g * 32)) la (omega arith),
      low_bit (n / 2) b (m * 32 + (c + d * 2 + e * 4 + f * 8 + g * 16)) lb (omega arith),
      low_bit (n / 4) c (m * 16 + (d + e * 2 + f * 4 + g * 8)) lc (omega arith),
      low_bit (n / 8) d (m * 8 + (e + f * 2 + g * 4)) ld (omega arith),
      low_bit (n / 16) e (m * 4 + (f + g * 2)) le (omega arith),
      low_bit (n / 32) f (m * 2 + g) lf (omega arith),
      low_bit (n / 64) g m lg (omega arith),
    ),
    omega arith,
  )

-- seven marks, and those behind them
sevens_cons : (n g : ℕ) (gs : List ℕ) → g < 128 → sevens (suc n) (marks_of (flags (g ∷ gs))) ≡ g ∷ sevens n (marks_of (flags gs))
unfolding sevens
sevens_cons n g gs l =
    let all = turned (marks_of (flags gs)) _ _ _ _ _ _ _ in
    let its = all (two (g / 64)) (two (g / 32)) (two (g / 16)) (two (g / 8)) (two (g / 4)) (two (g / 2)) (two g) in
    let e = its (marks_of (flags (g ∷ gs))) (rw (marks-one g) at (marks_cons g gs)) in
    rw (e.0, e.1, bits g l)

-- seven by seven, the marks as a number are the marks that were read
sevens-flags : (gs : List ℕ) → Sevens gs → sevens (length gs) (marks_of (flags gs)) ≡ gs
unfolding sevens
sevens-flags [] w = refl
sevens-flags (g ∷ gs) w = rw (sevens_cons (length gs) g gs w.0, sevens-flags gs w.1)

-- The items

module _ (s : List ℕ) (t : Record) where
  -- fields that are not marked behind the last change nothing
  values-more : (bs : List Bool) (n : ℕ) (fs : List Form) → length fs ≤ length bs
      → values_of s t (bs ++ replicate n false) fs ≡ values_of s t bs fs
  unfolding values_of
  values-more [] zero fs h = refl
  values-more [] (suc n) [] h = refl
  values-more [] (suc n) (f ∷ fs) h = absurd (omega arith)
  values-more (b ∷ bs) n [] h = refl
  values-more (b ∷ bs) n (f ∷ fs) h = rw (values-more bs n fs (omega arith))

  -- field by field
  values-each : (bs : List Bool) (fs : List Form) (trs : List Trace) → length trs ≡ length (formats bs fs)
      → ((n : ℕ) → n < length fs → pick (get_or bs n false) (trace_of s (item_in t (get_or fs n Form.Spare))) [] ≡ get_or trs n [])
      → values_of s t bs fs ≡ trs
  unfolding values_of formats
  values-each [] fs [] l h = refl
  values-each [] fs (tr ∷ trs) l h = absurd (omega arith)
  values-each (b ∷ bs) [] [] l h = refl
  values-each (b ∷ bs) [] (tr ∷ trs) l h = absurd (omega arith)
  values-each (b ∷ bs) (f ∷ fs) [] l h = absurd (omega arith)
  values-each (b ∷ bs) (f ∷ fs) (tr ∷ trs) l h =
      rw (h 0 (omega arith), values-each bs fs trs (omega arith) (λ n m. h (suc n) (omega arith)))

module _ (s : List ℕ) (len : ℕ) where
  items-long : (fs : List Format) (at q : ℕ) (trs : List Trace) → items_at s len fs at ≡ got trs q → length trs ≡ length fs
  unfolding items_at
  items-long [] at q trs h = let e : [] ≡ trs = cc in rw (← e)
  items-long (f ∷ fs) at q trs h =
      let (tr, p, e, h') = through (item_at s len f at) h in
      let (trs', q', e', last) = through (items_at s len fs p) h' in
      let is : tr ∷ trs' ≡ trs = cc in
      rw (← is) (ap suc (items-long fs p q' trs' e'))

  -- nothing is read of a field that is not marked
  done_none : (at q : ℕ) (tr : Trace) → item_at s len done at ≡ got tr q → [] ≡ tr
  unfolding item_at run_at fits_in
  done_none at q tr h = cc

  -- a spare field is not read
  unused-unread : (l : Layout) (at q : ℕ) (tr : Trace) → is_unused l ≡ true → run_at s len (format l) at ≡ got tr q → ⊥
  unfolding format run_at
  unused-unread unused at q tr u h = got-refused h
  unused-unread (fixed g) at q tr u h = false≢true u
  unused-unread (extended g hs) at q tr u h = false≢true u
  unused-unread (repeated g) at q tr u h = false≢true u
  unused-unread explicit at q tr u h = false≢true u

  -- a group that was read has its values
  run-some : (g : Group) (k : List ℕ → Format) (at q : ℕ) (tr : Trace) → run_at s len (ask g k) at ≡ got tr q
      → (v : List ℕ) × (tr' : Trace) × (tr ≡ v ∷ tr')
  unfolding run_at
  run-some g k at q tr h =
      let v = values g.parts (number g.wide s at) in
      let (enough, e) = pick_no (ltb (len - at) g.wide) _ _ h in
      let (tr', q', e', last) = through (run_at s len (k v) (at + g.wide)) e in
      (v, tr', cc)

  -- so an item that was read has values
  trace_some : (l : Layout) (at q : ℕ) (tr : Trace) → is_unused l ≡ false → run_at s len (format l) at ≡ got tr q → (v : List ℕ) × (tr' : Trace) × (tr ≡ v ∷ tr')
  unfolding format chain counted
  trace_some unused at q tr u h = absurd (false≢true (sym u))
  trace_some (fixed g) at q tr u h = run-some _ _ at q tr h
  trace_some (extended g []) at q tr u h = run-some _ _ at q tr h
  trace_some (extended g (k ∷ hs)) at q tr u h = run-some _ _ at q tr h
  trace_some (repeated g) at q tr u h = run-some _ _ at q tr h
  trace_some explicit at q tr u h = run-some _ _ at q tr h

-- made as a record read is: entries and content behind their count octet
module _ (cat marks : ℕ) (values : Form → Trace) (start : Form → ℕ) where
  abbrev pub made : Record
  made = typed cat marks values (λ f e. place_in (start f) e (values f))

  place_of : (e : ℕ) (f : Form)
      → place_in (start f) e (values f) ≡ record { at = (place_in (start f) 0 (values f)).at; count = val (values f) 0 0 - e }
  place_of e f = go (values f)
    where
      go : (tr : Trace) → place_in (start f) e tr ≡ record { at = (place_in (start f) 0 tr).at; count = val tr 0 0 - e }
      go [] = ap (λ (n : ℕ). record { at = 0; count = n }) (omega arith)
      go (v ∷ tr) = refl

  -- each form of items but the one of entries that the category does not have
  pub made-item : (f : Form) → (f ≡ pick (eqb cat 242) Form.Statistics Form.Versions → ⊥) → item_in made f ≡ item_of f (values f) (place_in (start f) 0 (values f)).at
  made-item form.Spare own = refl
  made-item form.Source own = refl
  made-item form.MessageType own = refl
  made-item form.Service own = refl
  made-item form.Identification own = refl
  made-item form.Time own = refl
  made-item form.Batch own = refl
  made-item form.Sdps own = refl
  made-item form.Report own = refl
  made-item form.Station own = refl
  made-item form.Configuration own = refl
  made-item form.Range own = refl
  made-item form.Status own = refl
  made-item form.Statistics own = go (eqb cat 242) own
    where
      go : (b : Bool) → (Form.Statistics ≡ pick b Form.Statistics Form.Versions → ⊥)
          → Item.Statistics (place_in (start (pick b Form.Versions Form.Statistics)) 0 (values (pick b Form.Versions Form.Statistics)))
          ≡ item_of Form.Statistics (values Form.Statistics) (place_in (start Form.Statistics) 0 (values Form.Statistics)).at
      go true own = absurd (own refl)
      go false own = ap Item.Statistics (place_of 0 Form.Statistics ∙ rw sub-zero)
  made-item form.Versions own = go (eqb cat 242) own
    where
      go : (b : Bool) → (Form.Versions ≡ pick b Form.Statistics Form.Versions → ⊥)
          → Item.Versions (place_in (start (pick b Form.Versions Form.Statistics)) 0 (values (pick b Form.Versions Form.Statistics)))
          ≡ item_of Form.Versions (values Form.Versions) (place_in (start Form.Versions) 0 (values Form.Versions)).at
      go true own = ap Item.Versions (place_of 0 Form.Versions ∙ rw sub-zero)
      go false own = absurd (own refl)
  made-item form.Expansion own = ap Item.Expansion (place_of 1 Form.Expansion)
  made-item form.Purpose own = ap Item.Purpose (place_of 1 Form.Purpose)

one_less : (i : ℕ) → suc i - 1 ≡ i
one_less i = omega arith

module _ (s : List ℕ) (len : ℕ) (c : Category) (w : Forms c) (gs : List ℕ) (trs : List Trace) (p : ℕ) where
  abbrev r : Rec
  r = record { marks = gs; items = trs }

  abbrev t : Record
  t = typed_rec s len c r p

  -- where the item of field i + 1 starts
  abbrev start : ℕ → ℕ
  start i = start_in s len (layout_of c gs) p i

  -- a form that has a field is not the one of entries that the category does not have
  not_other : (f : Form) (i : ℕ) → field_for c.fields f ≡ suc i → f ≡ pick (eqb c.cat 242) Form.Statistics Form.Versions → ⊥
  not_other f i e = go (eqb c.cat 242) (w.statistics i) (w.versions i)
    where
      go : (b : Bool) → (field_for c.fields Form.Statistics ≡ suc i → b ≡ false) → (field_for c.fields Form.Versions ≡ suc i → b ≡ true)
          → f ≡ pick b Form.Statistics Form.Versions → ⊥
      go true g h x = false≢true (sym (g (rw x at e)))
      go false g h x = false≢true (h (rw x at e))

  -- the typed record has of a form's item what its field's values give
  item-typed : (f : Form) (i q : ℕ) → field_for c.fields f ≡ suc i → is_unused (layout f) ≡ false
      → run_at s len (format (layout f)) (start i) ≡ got (get_or trs i []) q
      → item_in t f ≡ item_of f (get_or trs i []) (start i + 1)
  unfolding typed_rec
  item-typed f i q e u h =
      let (v, tr, is) = trace_some s len (layout f) (start i) q (get_or trs i []) u h in
      made-item c.cat (marks_of (flags gs)) (values_for c r) (start_for s len c r p) f (not_other f i e) ∙ rw (e, one_less i, is)

  -- so it is the item that was read at the field
  field-item : (f : Form) (i q : ℕ) → owned c.fields f i ≡ true
      → run_at s len (format (layout f)) (start i) ≡ got (get_or trs i []) q → item_in t f ≡ item_of f (get_or trs i []) (start i + 1)
  field-item f i q u h = go (is_unused (layout f)) refl u
    where
      go : (b : Bool) → is_unused (layout f) ≡ b → pick b true (eqb (field_for c.fields f) (suc i)) ≡ true
          → item_in t f ≡ item_of f (get_or trs i []) (start i + 1)
      go true e x = absurd (unused-unread s len (layout f) (start i) q (get_or trs i []) e h)
      go false e x = item-typed f i q (eqb-true (field_for c.fields f) (suc i) x) e h

  -- and has its values
  field-means : (f : Form) (i q : ℕ) → owned c.fields f i ≡ true
      → run_at s len (format (layout f)) (start i) ≡ got (get_or trs i []) q → trace_of s (item_in t f) ≡ get_or trs i []
  field-means f i q u h = rw (field-item f i q u h) (typed_trace s len f (start i) (get_or trs i []) q h)

  -- a field's values, marked or not
  either-means : (f : Form) (i q : ℕ) → owned c.fields f i ≡ true
      → (b : Bool) → item_at s len (pick b (format (layout f)) done) (start i) ≡ got (get_or trs i []) q
      → pick b (trace_of s (item_in t f)) [] ≡ get_or trs i []
  either-means f i q u true h = field-means f i q u (item-run s len (format (layout f)) (start i) q (get_or trs i []) h)
  either-means f i q u false h = done_none s len (start i) q (get_or trs i []) h

  -- field by field, where the items were read
  module _ (q : ℕ) (h : items_at s len (layout_of c gs) p ≡ got trs q) (n : ℕ) (l : n < length c.fields) where
    abbrev f : Form
    f = get_or c.fields n Form.Spare

    own : owned c.fields f n ≡ true
    own = field-owned c w n l

    there : item_at s len (pick (get_or (flags gs) n false) (format (layout f)) done) (start n) ≡ got (get_or trs n []) (start (suc n))
    unfolding layout_of
    there = rw (formats-at (flags gs) c.fields n (λ e. l)) at (items-there s len (layout_of c gs) p q trs h n)

    value-means : pick (get_or (flags gs) n false) (trace_of s (item_in t f)) [] ≡ get_or trs n []
    value-means = either-means f n (start (suc n)) own (get_or (flags gs) n false) there

    -- what a marked field has: an item that was read, and that is the typed record's
    pub item-read : get_or (flags gs) n false ≡ true
        → (item_at s len (format (layout f)) (start n) ≡ got (get_or trs n []) (start (suc n)))
        × (item_in t f ≡ item_of f (get_or trs n []) (start n + 1))
    item-read m =
        let e : item_at s len (format (layout f)) (start n) ≡ got (get_or trs n []) (start (suc n)) = rw m at there in
        (e, field-item f n (start (suc n)) own (item-run s len (format (layout f)) (start n) (start (suc n)) (get_or trs n []) e))

  values_mean : (q : ℕ) → items_at s len (layout_of c gs) p ≡ got trs q → values_of s t (flags gs) c.fields ≡ trs
  unfolding layout_of
  values_mean q h = values-each s t (flags gs) c.fields trs (items-long s len (layout_of c gs) p q trs h) (value-means q h)

-- the record that a typed record means, by its parts
rec_of_lem : (s : List ℕ) (t : Record) (c : Category) (gs : List ℕ) (trs : List Trace) → category t.category ≡ c
    → sevens c.most t.marks ≡ gs → values_of s t (flags_of 32 t.marks) c.fields ≡ trs
    → rec_of s t ≡ record { marks = gs; items = trs }
unfolding rec_of
rec_of_lem s t c gs trs hc hs hv = rw (hc, hs, hv)

module _ (s : List ℕ) (len n : ℕ) (c : Category) (w : Forms c) (t : Table n c) where
  rec_means : (gs : List ℕ) (trs : List Trace) (p q : ℕ) → Sevens gs → length gs ≡ c.most
      → items_at s len (layout_of c gs) p ≡ got trs q
      → rec_of s (typed_rec s len c (record { marks = gs; items = trs }) p) ≡ record { marks = gs; items = trs }
  unfolding typed_rec
  rec_means gs trs p q low long h =
      let fields : length c.fields ≤ length (flags gs) = omega (arith, flags_long gs, t.long) in
      rec_of_lem s _ c gs trs w.same (rw long at (sevens-flags gs low))
      (rw (flags_32 gs (omega (arith, t.few)), values-more s _ (flags gs) (32 - 7 * length gs) c.fields fields)
      (values_mean s len c w gs trs p q h))

  means-at : Octets s → (at q : ℕ) (r : Rec) → record_at s len c at ≡ got r q → rec_of s (typed_rec s len c r (items_from s len c at)) ≡ r
  means-at o at q r h =
      let (p, e, e', z, y) = record_parts s len c at q r h in
      let low : Sevens r.marks = subst (OfGot (λ gs q. Sevens gs)) e (specification-sevens s len o (c.most - 1) at) in
      let long : length r.marks ≡ c.most = omega (arith, (specification-marked s len (c.most - 1) at r.marks p o e).long, t.some) in
      rw e (rec_means r.marks r.items p q low long e')

module _ (s : List ℕ) (len cat at : ℕ) (o : Octets s) (k : known cat ≡ true) where
  -- A typed record that was made of a record read means that record.
  pub means-read : (r : Rec) (q : ℕ) → record_at s len (category cat) at ≡ got r q
      → rec_of s (typed_rec s len (category cat) r (items_from s len (category cat) at)) ≡ r
  means-read r q h = means-at s len cat (category cat) (forms cat k) (table cat k) o at q r h
