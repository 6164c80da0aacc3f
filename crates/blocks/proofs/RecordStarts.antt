-- The walk over a record's fields: where it stands, and what it has noted of the items that it passed. Assumes nothing.
use mathlib.Core.Path.{◌≡◌, refl, sym, ap, ◌∙◌}
use mathlib.Core.Bool.{Bool, true, false, ◌&&◌, false≢true, true≢false}
use mathlib.Core.List.{List}
use Prim.Native.Nat.{ℕ, zero, suc, ◌+◌, ◌-◌, ◌<◌, ◌≤◌}
use native.Mathlib.Nat.{add-zero}
use native.Mathlib.Omega.{arith}
use borrow.Author.Tests.{lt-ltb, le-ltb, ltb-true, ltb-false, eqb-true, eqb-false}
use lib.Dec.{ltb, eqb}
use lib.ListN.{length, get_or, set, drop, length-drop, replicate, length-set, get_or-replicate, get_or-eq_default}
use lib.Seq.{get_or-drop, get_or-set_same, get_or-set_other}
use Rattle.octets.specs.Choice.{pick}
use Rattle.octets.proofs.Cases.{test}
use Rattle.layouts.specs.Offsets.{run_at}
use Rattle.layouts.specs.Layouts.{is_unused, format}
use Rattle.layouts.specs.Tables.{layout}
use Rattle.layouts.specs.Categories.{Category, form_at, field_at}
use Rattle.layouts.specs.declared.category.Field.{Field}
use Rattle.layouts.specs.declared.form.Form.{Form}
use Rattle.blocks.specs.Forms.{form_number}
use Rattle.blocks.specs.Marks.{flags_of, marked, next_marked, next_from}
use Rattle.blocks.specs.Records.{formats}
use Rattle.blocks.specs.Typed.{field_for, stop_of, start_in}
use Rattle.blocks.proofs.NextLaws.{next-within, next-marked, next-unmarked}
use Rattle.blocks.proofs.FormLaws.{same_form_number, form_number_few, field-form, field-few, Forms, field-owned}
use Rattle.blocks.proofs.ItemStarts.{formats-at, first-start, start-next, stop-marked}

-- the next marked field: none before it is marked, and it is, where it is a field
module _ (marks from f : ℕ) (low : 1 ≤ from) (is : f ≡ next_from marks from) where
  abbrev bits : List Bool
  bits = drop (from - 1) (flags_of 32 marks)

  up : from ≤ f
  up = omega (arith, is, (next-within bits from).0)

  mark-at : (k : ℕ) → from ≤ k → marked marks k ≡ get_or bits (k - from) false
  mark-at zero l = absurd (omega arith)
  mark-at (suc k) l = let e : from - 1 + (suc k - from) ≡ k = omega arith in sym (rw (get_or-drop, e))

  next-free : (k : ℕ) → from ≤ k → k < f → marked marks k ≡ false
  next-free k l m = mark-at k l ∙ next-unmarked bits from k l (omega arith)

  next-mark : f ≤ 32 → marked marks f ≡ true
  unfolding flags_of
  next-mark l =
      let long : length bits ≡ 33 - from = simp length-drop (omega arith) in
      rw is (mark-at (next_marked bits from) (next-within bits from).0 ∙ next-marked bits from (omega (arith, up)))

module _ (s : List ℕ) (len : ℕ) (c : Category) (marks at : ℕ) where
  -- where the item of field n + 1 starts
  abbrev pub start : ℕ → ℕ
  start n = start_in s len (formats (flags_of 32 marks) c.fields) at n

  -- where the item of field k is looked for; at the end of the octets where it is not there
  abbrev pub placed : ℕ → Bool → ℕ
  placed k b = pick b (start (k - 1)) (length s)

  -- the fields before f are done: the walk stands behind their items, and has noted these by the numbers of their forms
  pub record Filled (starts : List ℕ) (p f : ℕ) : Type 0 where
    pub low : 1 ≤ f
    pub size : length starts ≡ 17
    pub here : p ≡ start (f - 1)
    pub inside : p ≤ len
    pub notes : (g : Form) → is_unused (layout g) ≡ false
        → get_or starts (form_number g) 0 ≡ placed (field_for c.fields g) (ltb (field_for c.fields g) f && marked marks (field_for c.fields g))

  -- before field 1
  pub filled_none : at ≤ len → Filled (replicate 17 (length s)) at 1
  filled_none h = record {
    low = omega arith;
    size = refl;
    here = sym (first-start s len (formats (flags_of 32 marks) c.fields) at);
    inside = h;
    notes = λ g u. get_or-replicate 17 (form_number g) (length s) 0 (form_number_few g) ∙ go (field_for c.fields g);
  }
    where
      go : (k : ℕ) → length s ≡ placed k (ltb k 1 && marked marks k)
      go zero = refl
      go (suc k) = rw (le-ltb (suc k) 1 (omega arith))

  -- past a field that is not marked, and so past several
  start-unmarked : (n : ℕ) → marked marks (suc n) ≡ false → start (suc n) ≡ start n
  unfolding run_at
  start-unmarked n e =
      start-next s len (formats (flags_of 32 marks) c.fields) at n
      ∙ rw (formats-at (flags_of 32 marks) c.fields n (λ y. absurd (false≢true (sym e ∙ y))), e)

  start-same : (n m : ℕ) → ((k : ℕ) → n < k → k ≤ n + m → marked marks k ≡ false) → start (n + m) ≡ start n
  start-same n zero h = rw add-zero
  start-same n (suc m) h =
      let e : n + suc m ≡ suc (n + m) = omega arith in
      rw e (start-unmarked (n + m) (h (suc (n + m)) (omega arith) (omega arith)) ∙ start-same n m (λ k a b. h k a (omega arith)))

  -- past the item of a field that is marked
  start-marked : (f p : ℕ) → 1 ≤ f → marked marks f ≡ true → p ≡ start (f - 1) → start f ≡ stop_of p (run_at s len (format (layout (form_at c f))) p)
  start-marked zero p low e h = absurd (omega arith)
  start-marked (suc n) p low e h =
      let d : suc n - 1 ≡ n = omega arith in
      start-next s len (formats (flags_of 32 marks) c.fields) at n
      ∙ rw (h, d) (stop-marked s len (flags_of 32 marks) c.fields n (start n) e)

  -- a form of items whose field this is; past the last field there is none
  own-field : Forms c → (f : ℕ) → 1 ≤ f → is_unused (layout (form_at c f)) ≡ false → field_for c.fields (form_at c f) ≡ f
  own-field w zero low u = absurd (omega arith)
  own-field w (suc n) low u =
      test (ltb n (length c.fields))
      (λ t. eqb-true (field_for c.fields (form_at c (suc n))) (suc n) (rw u at (field-owned c w n (ltb-true n (length c.fields) t))))
      (λ t.
      let none : form_at c (suc n) ≡ Form.Spare = get_or-eq_default c.fields Form.Spare {n = n} (ltb-false n (length c.fields) t) in
      absurd (true≢false (rw none at u)))

  field-other : (f : ℕ) (g : Form) → 1 ≤ f → field_for c.fields g ≡ f → form_at c f ≡ g
  field-other zero g low e = absurd (omega arith)
  field-other (suc n) g low e = field-form c.fields g n e

  -- past a field that is another, the test of what has been passed is the same
  test-next : (k f : ℕ) → (k ≡ f → ⊥) → ltb k f ≡ ltb k (f + 1)
  test-next k f h =
      test (ltb k f) (λ t. t ∙ sym (lt-ltb k (f + 1) (omega (arith, ltb-true k f t))))
      (λ t. t ∙ sym (le-ltb k (f + 1) (omega (arith, ltb-false k f t))))

  -- past fields that are not marked, to the next that is, or behind the last
  pub filled_next : (starts : List ℕ) (p f g : ℕ) → Filled starts p f → g ≡ next_from marks f → Filled starts p g
  filled_next starts p f g w is =
      let low = w.low in
      let le = up marks f g low is in
      let none = next-free marks f g low is in
      let to : f - 1 + (g - f) ≡ g - 1 = omega arith in
      record {
        low = omega arith;
        size = w.size;
        here = w.here ∙ sym (rw to at (start-same (f - 1) (g - f) (λ k a b. none k (omega arith) (omega arith))));
        inside = w.inside;
        notes = λ x u.
            let k = field_for c.fields x in
            w.notes x u ∙ test (ltb k f)
            (λ a. rw (a, lt-ltb k g (omega (arith, ltb-true k f a))))
            (λ a. test (ltb k g)
            (λ b. rw (a, b, none k (ltb-false k f a) (ltb-true k g b)))
            (λ b. rw (a, b)));
      }

  module _ (starts : List ℕ) (p f : ℕ) (w : Filled starts p f) where
    -- past the item of a field that is marked
    module _ (own : Forms c) (e : marked marks f ≡ true) where
      abbrev form : Form
      form = form_at c f

      same : get_or (set starts (form_number form) p) (form_number form) 0 ≡ p
      same = get_or-set_same starts (form_number form) p 0 (omega (arith, w.size, form_number_few form))

      other : (n : ℕ) → (n ≡ form_number form → ⊥) → get_or (set starts (form_number form) p) n 0 ≡ get_or starts n 0
      other n = get_or-set_other starts (form_number form) n p 0

      noted : (g : Form) → is_unused (layout g) ≡ false
          → get_or (set starts (form_number form) p) (form_number g) 0
          ≡ placed (field_for c.fields g) (ltb (field_for c.fields g) (f + 1) && marked marks (field_for c.fields g))
      noted g u =
          test (eqb (form_number g) (form_number form))
          (λ t.
          let is : g ≡ form = same_form_number g form (eqb-true (form_number g) (form_number form) t) in
          let k : field_for c.fields form ≡ f = own-field own f w.low (rw is at u) in
          rw (is, same, k, e, lt-ltb f (f + 1) (omega arith)) w.here)
          (λ t.
          let not : (field_for c.fields g ≡ f → ⊥)
          = λ k. eqb-false (form_number g) (form_number form) t (ap form_number (sym (field-other f g w.low k))) in
          other (form_number g) (eqb-false (form_number g) (form_number form) t) ∙ w.notes g u ∙ rw (test-next (field_for c.fields g) f not))

      filled-form : (q : ℕ) → q ≡ stop_of p (run_at s len (format (layout form)) p) → q ≤ len → Filled (set starts (form_number form) p) q (f + 1)
      filled-form q is l =
          let low = w.low in
          let to : f + 1 - 1 ≡ f = omega arith in
          record {
            low = omega arith;
            size = rw length-set w.size;
            here = is ∙ rw to (sym (start-marked f p w.low e w.here));
            inside = l;
            notes = noted;
          }

  pub filled_passed : (starts : List ℕ) (p from f : ℕ) → Filled starts p from → Forms c → (f ≡ next_from marks from) × (from ≤ f) × (f ≤ 32)
      → (x : Field) → x ≡ field_at c f → (n : ℕ) → n ≡ form_number x.0
      → (q : ℕ) → q ≡ stop_of p (run_at s len (format (layout x.0)) p) → q ≤ len → Filled (set starts n p) q (f + 1)
  filled_passed starts p from f w own next x field n place q is l =
      rw (place, field)
      (filled-form starts p f (filled_next starts p from f w next.0) own (next-mark marks from f w.low next.0 next.2) q (rw field at is) l)

  -- behind the last field
  module _ (starts : List ℕ) (p f : ℕ) (w : Filled starts p f) (over : length c.fields < f) where
    pub filled-notes : (g : Form) → is_unused (layout g) ≡ false
        → get_or starts (form_number g) 0 ≡ placed (field_for c.fields g) (marked marks (field_for c.fields g))
    filled-notes g u =
        let few = field-few c.fields g in
        w.notes g u ∙ rw (lt-ltb (field_for c.fields g) f (omega arith))
