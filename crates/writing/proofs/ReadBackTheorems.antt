-- The theorems on reading back what was written: one record, the one that was given, and each of its entries. Assumes nothing.
use mathlib.Core.Path.{◌≡◌, refl, sym, ap, ◌∙◌, subst}
use mathlib.Core.Bool.{Bool, true, false, false≢true}
use mathlib.Core.List.{List, [], ◌∷◌, ◌++◌}
use Prim.Native.Nat.{ℕ, zero, suc, ◌+◌, ◌*◌, ◌/◌, ◌%◌, ◌^◌, ◌<◌, ◌≤◌}
use native.Mathlib.Nat.{add-zero, mul-one, pow-suc, div-lt_iff_lt-mul, zero-lt-suc}
use native.Mathlib.Omega.{arith}
use borrow.Author.Tests.{eqb-true, eqb-false, leb-false, le-leb}
use lib.Dec.{leb, eqb}
use lib.ListN.{length, get_or}
use Rattle.octets.specs.Choice.{pick, odd}
use Rattle.octets.specs.Numbers.{Octets, number}
use Rattle.octets.specs.Refusals.{no_such}
use Rattle.layouts.specs.Groups.{values, Group}
use Rattle.layouts.specs.Formats.{got, Trace}
use Rattle.layouts.specs.Offsets.{groups_at}
use Rattle.layouts.specs.Layouts.{octet}
use Rattle.layouts.specs.Tables.{counter, version}
use Rattle.layouts.specs.Categories.{known, category, entries_form}
use Rattle.layouts.specs.declared.form.Form.{Form}
use Rattle.layouts.specs.declared.form.Form.TheVariants as form
use Rattle.items.specs.Typed.{settled, placed, given_trace, trace_of}
use Rattle.items.specs.declared.typed.Place.{Place}
use Rattle.items.proofs.Items.{item_of}
use Rattle.items.proofs.ReadBack.{typed-back}
use Rattle.blocks.specs.Specification.{flags}
use Rattle.blocks.specs.Marks.{marks_of, flags_of, marked}
use Rattle.blocks.specs.Headers.{header_of}
use Rattle.blocks.specs.Records.{Rec}
use Rattle.blocks.specs.Blocks.{all, block_of}
use Rattle.blocks.specs.Offsets.{record_at}
use Rattle.blocks.specs.Walks.{read_of}
use Rattle.blocks.specs.Typed.{nowhere, absent, field_for, place_in, values_for, start_for, typed_rec, has}
use Rattle.blocks.specs.Steps.{items_from, step_of, entry_group_of, entry_values, found_of, entry_in, entry_of}
use Rattle.blocks.specs.Meaning.{item_in, values_of, rec_of}
use Rattle.blocks.specs.Boundaries.{Joined}
use Rattle.blocks.specs.Head.{Head}
use Rattle.blocks.specs.declared.record.Record.{Record}
use Rattle.blocks.specs.Reading.{Reading}
use Rattle.blocks.specs.Step.{Step}
use Rattle.blocks.specs.Found.{Found}
use Rattle.blocks.proofs.WalkSteps.{by-known, table}
use Rattle.blocks.proofs.BlockLaws.{category-cat}
use Rattle.blocks.proofs.FormLaws.{field-form}
use Rattle.blocks.proofs.TypedLaws.{groups_at_lem}
use Rattle.blocks.proofs.MeaningLaws.{made-item, means-read}
use Rattle.blocks.proofs.BoundaryLaws.{read-filled, step-read}
use Rattle.blocks.proofs.StepLaws.{entry-taken}
use Rattle.octets.specs.Outcomes.{puts}
use Rattle.writing.specs.Written.{write_of}
use Rattle.writing.specs.Same.{other_form, Same}
use Rattle.writing.proofs.MarksWritten.{flags-sevens, by-fields}
use Rattle.writing.proofs.ItemsWritten.{form_in}
use Rattle.writing.proofs.RecordWritten.{Fine, fine}
use Rattle.writing.proofs.OctetsWritten.{joined}
use Rattle.writing.proofs.WriteTheorems.{accepted, write_accepted, write_reading, write_octets}

-- Groups that lie in octets

module _ (s : List ℕ) where
  -- an octet of content is its one value
  octet-at : Octets s → (at j : ℕ) → get_or (entry_values s octet at j) 0 0 ≡ get_or s (at + j) 0
  unfolding values number
  octet-at o at j = rw (mul-one, add-zero) (omega (arith, o (at + j)))

-- entries or content in two lists of octets that have the same values: as many, and each the same
module _ (x s : List ℕ) (e : ℕ) (g : Group) (p q : Place) (same : given_trace x (placed e g p) ≡ given_trace s (placed e g q)) where
  same_count : p.count ≡ q.count
  same_count = let z : p.count + e ≡ q.count + e = cc in omega arith

  same-entry : (j : ℕ) → j < q.count → entry_values x g p.at j ≡ entry_values s g q.at j
  same-entry j l =
      let z : groups_at p.count g x p.at ≡ groups_at q.count g s q.at = cc in
      sym (groups_at_lem x p.count g p.at j (omega (arith, same_count)))
      ∙ ap (λ (tr : Trace). get_or tr j []) z
      ∙ groups_at_lem s q.count g q.at j l

same-octet : (x s : List ℕ) → Octets x → Octets s → (p q : Place) → given_trace x (placed 1 octet p) ≡ given_trace s (placed 1 octet q)
    → (j : ℕ) → j < q.count → get_or x (p.at + j) 0 ≡ get_or s (q.at + j) 0
same-octet x s o o' p q h j l =
    sym (octet-at x o p.at j) ∙ ap (λ (w : List ℕ). get_or w 0 0) (same-entry x s 1 octet p q h j l) ∙ octet-at s o' q.at j

-- The record that a typed record means

-- marks as a number are that number
pub marks-flags : (n m : ℕ) → m < 2 ^ n → marks_of (flags_of n m) ≡ m
unfolding marks_of flags_of
marks-flags zero m l = omega arith
marks-flags (suc n) m l =
    let less : m / 2 < 2 ^ n = (div-lt_iff_lt-mul {k = 2} (zero-lt-suc 1)).1 (rw pow-suc at l) in
    rw (marks-flags n (m / 2) less) (go (odd m) (eqb-true (m % 2) 1) (eqb-false (m % 2) 1))
  where
    go : (b : Bool) → (b ≡ true → m % 2 ≡ 1) → (b ≡ false → m % 2 ≡ 1 → ⊥) → pick b 1 0 + m / 2 * 2 ≡ m
    go true f g = omega (arith, f refl)
    go false f g = omega (arith, g refl)

module _ (s : List ℕ) (t : Record) where
  values-at : (bs : List Bool) (fs : List Form) (n : ℕ)
      → get_or (values_of s t bs fs) n [] ≡ pick (get_or bs n false) (trace_of s (item_in t (get_or fs n Form.Spare))) []
  unfolding values_of
  values-at [] fs n = refl
  values-at (b ∷ bs) [] n = go (get_or (b ∷ bs) n false)
    where
      go : (c : Bool) → ◌≡◌ {A = Trace} [] (pick c [] [])
      go true = refl
      go false = refl
  values-at (b ∷ bs) (f ∷ fs) zero = refl
  values-at (b ∷ bs) (f ∷ fs) (suc n) = values-at bs fs n

  -- the values of the item of a form: none where it is not marked
  values_for_lem : (f : Form)
      → get_or ([] ∷ (rec_of s t).items) (field_for (category t.category).fields f) [] ≡ pick (has t f) (trace_of s (item_in t f)) []
  unfolding rec_of
  values_for_lem f = go (field_for (category t.category).fields f) refl
    where
      bs : List Bool
      bs = flags_of 32 t.marks

      fs : List Form
      fs = (category t.category).fields

      go : (k : ℕ) → field_for fs f ≡ k → get_or ([] ∷ values_of s t bs fs) k [] ≡ pick (get_or (false ∷ bs) k false) (trace_of s (item_in t f)) []
      go zero e = refl
      go (suc n) e = values-at bs fs n ∙ ap (λ (g : Form). pick (get_or bs n false) (trace_of s (item_in t g)) []) (field-form fs f n e)

-- no record has a mark for entries of another category
other_none : (n : ℕ) → known n ≡ true → (m : ℕ) → marked m (field_for (category n).fields (other_form n)) ≡ false
other_none =
    by-known (λ (n : ℕ). (m : ℕ) → marked m (field_for (category n).fields (other_form n)) ≡ false)
    (λ m. refl) (λ m. refl) (λ m. refl)

-- entries have one form or the other, and their values are so many groups
two-forms : (b : Bool) → pick b Form.Versions Form.Statistics ≡ pick b Form.Statistics Form.Versions → ⊥
two-forms true e = let z : ◌≡◌ {A = ℕ} 0 1 = cc in omega arith
two-forms false e = let z : ◌≡◌ {A = ℕ} 0 1 = cc in omega arith

entries_trace : (s : List ℕ) (t : Record) (b : Bool)
    → trace_of s (item_in t (pick b Form.Versions Form.Statistics)) ≡ given_trace s (placed 0 (pick b version counter) t.entries)
entries_trace s t true = refl
entries_trace s t false = refl

-- typed records that mean the same have the same values of an item
module _ (s : List ℕ) (t : Record) (x : List ℕ) (v : Record) (cat : v.category ≡ t.category) (marks : v.marks ≡ t.marks)
    (means : rec_of x v ≡ rec_of s t) where
  same-values : (f : Form) → has t f ≡ true → trace_of x (item_in v f) ≡ trace_of s (item_in t f)
  same-values f h =
      let yes : has v f ≡ true = rw (cat, marks) h in
      let here = rw yes at (values_for_lem x v f) in
      let there = rw h at (values_for_lem s t f) in
      sym here
      ∙ ap (λ (n : ℕ). get_or ([] ∷ (rec_of x v).items) (field_for (category n).fields f) []) cat
      ∙ ap (λ (r : Rec). get_or ([] ∷ r.items) (field_for (category t.category).fields f) []) means
      ∙ there

-- The items of a typed record, by their values

-- the item of no values
no_item : (f : Form) → item_of f [] 0 ≡ item_in absent f
no_item form.Spare = refl
no_item form.Source = refl
no_item form.MessageType = refl
no_item form.Service = refl
no_item form.Identification = refl
no_item form.Time = refl
no_item form.Batch = refl
no_item form.Sdps = refl
no_item form.Report = refl
no_item form.Station = refl
no_item form.Configuration = refl
no_item form.Range = refl
no_item form.Status = refl
no_item form.Statistics = refl
no_item form.Versions = refl
no_item form.Expansion = refl
no_item form.Purpose = refl

-- A record of a block, from an offset to the next

pub record One (x : List ℕ) (cat len at next : ℕ) (r : Rec) : Type 0 where
  pub head : header_of x ≡ Head.Good cat len
  pub low : 3 ≤ at
  pub more : at < len
  pub is : record_at x len (category cat) at ≡ got r next

-- the one of a block that has one
module _ (x : List ℕ) (cat len : ℕ) (r : Rec) where
  one-joined : header_of x ≡ Head.Good cat len → Joined x len (category cat) 3 (r ∷ []) len → One x cat len 3 len r
  one-joined h (q, e, a, b, end) = record { head = h; low = omega arith; more = omega arith; is = rw end at e }

  read_one : Octets x → read_of x ≡ Reading.Accepted len 1 → block_of x ≡ all cat (r ∷ []) → One x cat len 3 len r
  read_one o h e =
      let w = read-filled x len 1 o h in
      go w.0 w.1 (sym w.5 ∙ e) w.2 w.3
    where
      go : (cat' : ℕ) (rs : List Rec) → all cat' rs ≡ all cat (r ∷ []) → header_of x ≡ Head.Good cat' len
          → Joined x len (category cat') 3 rs len → One x cat len 3 len r
      go cat' rs same h j =
          let a : cat' ≡ cat = cc in
          let b : rs ≡ r ∷ [] = cc in
          one-joined (rw a at h) (subst (λ (l : List Rec). Joined x len (category cat) 3 l len) b (rw a at j))

-- What is read where a block has the record that a typed record means

module _ (s : List ℕ) (o : Octets s) (t : Record) (w : Fine s t) (small : t.marks < 4294967296)
    (x : List ℕ) (ox : Octets x) (len at next : ℕ) (got-one : One x t.category len at next (rec_of s t)) where
  abbrev from : ℕ
  from = items_from x len (category t.category) at

  abbrev pub back : Record
  back = typed_rec x len (category t.category) (rec_of s t) from

  pub back_step : step_of x at ≡ Step.Taken back (record { at = next })
  back_step = step-read x t.category len got-one.head at next (rec_of s t) got-one.low got-one.more got-one.is

  back-category : back.category ≡ t.category
  unfolding typed_rec
  back-category = category-cat t.category

  back-marks : back.marks ≡ t.marks
  unfolding typed_rec rec_of
  back-marks =
      let c = category t.category in
      let long : 7 * c.most ≡ length c.fields = omega (arith, (table t.category w.known).long) in
      rw (flags-sevens c.most t.marks, long) (marks-flags (length c.fields) t.marks (by-fields s t w.known small w.marks))

  back-means : rec_of x back ≡ rec_of s t
  back-means = means-read x len t.category at ox w.known (rec_of s t) next got-one.is

  -- the item of a form, by its values: where its entries or content start
  abbrev placed_at : Form → Trace → ℕ
  placed_at f tr = (place_in (start_for x len (category t.category) (rec_of s t) from f) 0 tr).at

  back-item : (f : Form) → (f ≡ other_form t.category → ⊥) → (b : Bool) → has t f ≡ b
      → let tr = pick b (trace_of s (item_in t f)) [] in item_in back f ≡ item_of f tr (placed_at f tr)
  unfolding typed_rec
  back-item f own b h =
      let c = category t.category in
      let r = rec_of s t in
      let same : other_form c.cat ≡ other_form t.category = ap other_form (category-cat t.category) in
      made-item c.cat (marks_of (flags r.marks)) (values_for c r) (start_for x len c r from) f (λ e. own (e ∙ same))
      ∙ ap (λ (tr : Trace). item_of f tr (placed_at f tr)) (values_for_lem s t f ∙ ap (λ (b : Bool). pick b (trace_of s (item_in t f)) []) h)

  -- marked, it is the item that was given
  back-present : (f : Form) → has t f ≡ true → (at : ℕ) × (item_in back f ≡ settled at (item_in t f))
  back-present f h =
      let own : f ≡ other_form t.category → ⊥
      = λ e. false≢true (sym (other_none t.category w.known t.marks) ∙ ap (has t) (sym e) ∙ h) in
      let tr = trace_of s (item_in t f) in
      let p = placed_at f tr in
      (p, back-item f own true h ∙ ap (λ (g : Form). item_of g tr p) (sym (form_in t f)) ∙ typed-back s p (item_in t f))

  -- not marked, it is all zero
  back-absent : (f : Form) → (f ≡ other_form t.category → ⊥) → has t f ≡ false → item_in back f ≡ item_in absent f
  back-absent f own h = back-item f own false h ∙ no_item f

  -- with the values that were given
  back-values : (f : Form) → has t f ≡ true → trace_of x (item_in back f) ≡ trace_of s (item_in t f)
  back-values = same-values s t x back back-category back-marks back-means

  pub back-same : Same s t x back
  back-same = record {
    category = back-category;
    marks = back-marks;
    means = back-means;
    present = back-present;
    absent = back-absent;
    expansion = λ h. same-octet x s ox o back.expansion t.expansion (back-values Form.Expansion h);
    purpose = λ h. same-octet x s ox o back.purpose t.purpose (back-values Form.Purpose h);
  }

  -- its entries
  pub back-entry : (k : ℕ) → entry_of x at k ≡ entry_in x t.category back.entries.at back.entries.count k
  back-entry k =
      sym (entry-taken x at k back (record { at = next }) (sym back_step) _ refl)
      ∙ ap (λ (n : ℕ). entry_in x n back.entries.at back.entries.count k) back-category

  module _ (h : has t (entries_form t.category) ≡ true) where
    entries-same : given_trace x (placed 0 (entry_group_of t.category) back.entries)
        ≡ given_trace s (placed 0 (entry_group_of t.category) t.entries)
    entries-same =
        let b = eqb t.category 242 in
        sym (entries_trace x back b) ∙ back-values (entries_form t.category) h ∙ entries_trace s t b

    pub back_found : (k : ℕ) → entry_in x t.category back.entries.at back.entries.count k
        ≡ entry_in s t.category t.entries.at t.entries.count k
    unfolding entry_in
    back_found k =
        rw (same_count x s 0 (entry_group_of t.category) back.entries t.entries entries-same)
        (go (leb t.entries.count k) (leb-false t.entries.count k))
      where
        cat : ℕ
        cat = t.category

        go : (b : Bool) → (b ≡ false → k < t.entries.count)
            → pick b (Found.Refused no_such 0) (found_of cat (entry_values x (entry_group_of cat) back.entries.at k))
            ≡ pick b (Found.Refused no_such 0) (found_of cat (entry_values s (entry_group_of cat) t.entries.at k))
        go true l = refl
        go false l = ap (found_of cat) (same-entry x s 0 (entry_group_of cat) back.entries t.entries entries-same k (l refl))

-- Of a record with no entries the other has none.
pub none-same : (s : List ℕ) (t : Record) (x : List ℕ) (v : Record) → Same s t x v → has t (entries_form t.category) ≡ false
    → v.entries.count ≡ 0
none-same s t x v same h = go (eqb t.category 242) (same.absent (entries_form t.category) (two-forms (eqb t.category 242)) h)
  where
    go : (b : Bool) → item_in v (pick b Form.Versions Form.Statistics) ≡ item_in absent (pick b Form.Versions Form.Statistics)
        → v.entries.count ≡ 0
    go true e = let z : v.entries ≡ nowhere = cc in ap (λ (p : Place). p.count) z
    go false e = let z : v.entries ≡ nowhere = cc in ap (λ (p : Place). p.count) z

-- What is put out is read back, whatever stands behind it
module _ (s : List ℕ) (o : Octets s) (t : Record) (small : t.marks < 4294967296) (xs : List ℕ) (h : write_of s t ≡ puts xs)
    (u : List ℕ) (o' : Octets u) where
  octets : Octets (xs ++ u)
  octets = joined xs u (write_octets s t small xs h) o'

  good : Fine s t
  good = fine s t (accepted s t small xs h).0

  one : One (xs ++ u) t.category (length xs) 3 (length xs) (rec_of s t)
  one = read_one (xs ++ u) t.category (length xs) (rec_of s t) octets (write_reading s t small xs h u) (write_accepted s t small xs h u)

  -- It is read as one record, the one that was given.
  pub write_back : (v : Record) × (step_of (xs ++ u) 3 ≡ Step.Taken v (record { at = length xs })) × Same s t (xs ++ u) v
  write_back = (
    back s o t good small (xs ++ u) octets (length xs) 3 (length xs) one,
    back_step s o t good small (xs ++ u) octets (length xs) 3 (length xs) one,
    back-same s o t good small (xs ++ u) octets (length xs) 3 (length xs) one,
  )

  -- Each entry asked for by number is the source's.
  pub entry-back : (k : ℕ) → has t (entries_form t.category) ≡ true
      → entry_of (xs ++ u) 3 k ≡ entry_in s t.category t.entries.at t.entries.count k
  entry-back k e =
      back-entry s o t good small (xs ++ u) octets (length xs) 3 (length xs) one k
      ∙ back_found s o t good small (xs ++ u) octets (length xs) 3 (length xs) one e k

  -- Of a record with no entries there is none.
  pub entry-none : (k : ℕ) → has t (entries_form t.category) ≡ false → entry_of (xs ++ u) 3 k ≡ Found.Refused no_such 0
  unfolding entry_in
  entry-none k e =
      back-entry s o t good small (xs ++ u) octets (length xs) 3 (length xs) one k
      ∙ rw (none-same s t (xs ++ u) _ (back-same s o t good small (xs ++ u) octets (length xs) 3 (length xs) one) e, le-leb 0 k (omega arith))
