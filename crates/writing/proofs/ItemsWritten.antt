-- Marked items field by field: what refuses them, and the octets they have. Assumes nothing.
use mathlib.Core.Path.{◌≡◌, refl, sym, ap, ◌∙◌}
use mathlib.Core.Bool.{Bool, true, false}
use mathlib.Core.List.{List, [], ◌∷◌, ◌++◌}
use Prim.Native.Nat.{ℕ, zero, suc, ◌+◌, ◌-◌, ◌*◌, ◌/◌, ◌≤◌, ◌<◌}
use native.Mathlib.Omega.{arith}
use borrow.Author.Tests.{eqb-true, eqb-false}
use lib.Dec.{eqb}
use lib.ListN.{length, get_or, drop, length-append, drop_of_length-le}
use lib.Seq.{drop-cons}
use Rattle.octets.specs.Choice.{pick}
use Rattle.octets.specs.Numbers.{octets, laid}
use Rattle.octets.proofs.Laying.{laid-laid, laid_none, length-laid}
use Rattle.layouts.specs.Formats.{done, fits_in, put}
use Rattle.layouts.specs.Layouts.{format, kind_of}
use Rattle.layouts.specs.Tables.{layout}
use Rattle.layouts.specs.Categories.{category, form_at, field_at}
use Rattle.layouts.specs.declared.category.Field.{Field}
use Rattle.layouts.specs.declared.form.Form.{Form}
use Rattle.layouts.specs.declared.form.Form.TheVariants as form
use Rattle.layouts.proofs.Parsed.{and_yes}
use Rattle.items.specs.Typed.{form_of, field_of, given, trace_of, item_refusal, item_octets, size_of}
use Rattle.items.specs.Size.{Size}
use Rattle.items.specs.declared.typed.Item.{Item}
use Rattle.items.specs.declared.typed.Item.TheVariants as item
use Rattle.items.proofs.ReadBack.{item-fits}
use Rattle.items.proofs.Judged.{room_of}
use Rattle.items.proofs.Written.{length_by, length_at}
use Rattle.blocks.specs.Marks.{flags_of, marked}
use Rattle.blocks.specs.Records.{formats, put_items}
use Rattle.blocks.proofs.GoodRecords.{items_fit}
use Rattle.blocks.proofs.MarksLaws.{marked-at}
use Rattle.blocks.specs.Meaning.{item_in, values_of}
use Rattle.blocks.specs.declared.record.Record.{Record}
use Rattle.writing.specs.Judged.{or_else, items_refusal, octets_of, items_size, flags, fields, items_octets}

-- the item of a form has that form
pub form_in : (t : Record) (f : Form) → form_of (item_in t f) ≡ f
form_in t form.Spare = refl
form_in t form.Source = refl
form_in t form.MessageType = refl
form_in t form.Service = refl
form_in t form.Identification = refl
form_in t form.Time = refl
form_in t form.Batch = refl
form_in t form.Sdps = refl
form_in t form.Report = refl
form_in t form.Station = refl
form_in t form.Configuration = refl
form_in t form.Range = refl
form_in t form.Status = refl
form_in t form.Statistics = refl
form_in t form.Versions = refl
form_in t form.Expansion = refl
form_in t form.Purpose = refl

-- the marks of n fields are n
flags-count : (n m : ℕ) → length (flags_of n m) ≡ n
unfolding flags_of
flags-count zero m = refl
flags-count (suc n) m = ap suc (flags-count n (m / 2))

-- of two refusals there is none: neither
pub none_of : (n m : ℕ) → or_else n m ≡ 0 → (n ≡ 0) × (m ≡ 0)
none_of n m h = go (eqb n 0) refl h
  where
    go : (b : Bool) → eqb n 0 ≡ b → pick b m n ≡ 0 → (n ≡ 0) × (m ≡ 0)
    go true e z = (eqb-true n 0 e, z)
    go false e z = absurd (eqb-false n 0 e z)

module _ (s : List ℕ) where
  -- how many octets an item has by its kind
  small_by : (i : Item) → item_refusal s i ≡ 0 → length_by (layout (form_of i)) (given i) (field_of i).1 ≤ 2000
  small_by item.Absent h = omega arith
  small_by (item.Source x) h = omega arith
  small_by (item.MessageType x) h = omega arith
  small_by (item.Service x) h = omega arith
  small_by (item.Identification x) h = omega arith
  small_by (item.Time x) h = omega arith
  small_by (item.Batch x) h = omega arith
  small_by (item.Sdps x) h = omega arith
  small_by (item.Report x) h = omega arith
  small_by (item.Station x) h = omega arith
  small_by (item.Configuration x) h = omega arith
  small_by (item.Range x) h = omega arith
  small_by (item.Status x) h = omega arith
  small_by (item.Statistics p) h = omega (arith, (room_of s (item.Statistics p) h).1)
  small_by (item.Versions p) h = omega (arith, (room_of s (item.Versions p) h).1)
  small_by (item.Expansion p) h = omega (arith, (room_of s (item.Expansion p) h).1)
  small_by (item.Purpose p) h = omega (arith, (room_of s (item.Purpose p) h).1)

  -- an item that is not refused: a count octet and at most 255 entries of six octets
  pub item-small : (i : Item) → item_refusal s i ≡ 0 → length (item_octets s i) ≤ 2000
  item-small i h = rw (length_at s i (field_of i) (field_of i).1 refl h refl) (small_by i h)

  -- the item of a form, in the format that stands at its field
  octets_in : (t : Record) (f : Form) → put (format (layout f)) (trace_of s (item_in t f)) [] ≡ item_octets s (item_in t f)
  octets_in t f = ap (λ (g : Form). put (format (layout g)) (trace_of s (item_in t f)) []) (sym (form_in t f))

  fits_in_lem : (t : Record) (f : Form) → item_refusal s (item_in t f) ≡ 0 → fits_in (format (layout f)) (trace_of s (item_in t f)) ≡ true
  fits_in_lem t f h = ap (λ (g : Form). fits_in (format (layout g)) (trace_of s (item_in t f))) (sym (form_in t f)) ∙ item-fits s (item_in t f) h

  -- what the writer is told of an item that is not refused, and of one that is
  told-octets : (i : Item) (n : ℕ) → size_of s i ≡ Size.Octets n → (item_refusal s i ≡ 0) × (n ≡ length (item_octets s i))
  told-octets i n h = go (eqb (item_refusal s i) 0) refl h
    where
      go : (b : Bool) → eqb (item_refusal s i) 0 ≡ b → pick b (Size.Octets (length (item_octets s i))) (Size.Refused (item_refusal s i)) ≡ Size.Octets n
          → (item_refusal s i ≡ 0) × (n ≡ length (item_octets s i))
      go true e z = (eqb-true (item_refusal s i) 0 e, cc)
      go false e z = absurd (let w : ◌≡◌ {A = ℕ} 0 1 = cc in omega arith)

  told-refused : (i : Item) (n : ℕ) → size_of s i ≡ Size.Refused n → (eqb n 0 ≡ false) × (n ≡ item_refusal s i)
  told-refused i n h = go (eqb (item_refusal s i) 0) refl h
    where
      go : (b : Bool) → eqb (item_refusal s i) 0 ≡ b → pick b (Size.Octets (length (item_octets s i))) (Size.Refused (item_refusal s i)) ≡ Size.Refused n
          → (eqb n 0 ≡ false) × (n ≡ item_refusal s i)
      go true e z = absurd (let w : ◌≡◌ {A = ℕ} 0 1 = cc in omega arith)
      go false e z = let is : n ≡ item_refusal s i = cc in (rw is e, is)

module _ (s : List ℕ) (t : Record) where
  -- the first field's octets, and the others'
  octets_cons : (b : Bool) (bs : List Bool) (f : Form) (fs : List Form)
      → octets_of s t (b ∷ bs) (f ∷ fs) ≡ pick b (item_octets s (item_in t f)) [] ++ octets_of s t bs fs
  unfolding formats values_of put_items put
  octets_cons true bs f fs = ap (λ (l : List ℕ). l ++ octets_of s t bs fs) (octets_in s t f)
  octets_cons false bs f fs = refl

  -- behind the last field there are none
  octets-none : (bs : List Bool) → octets_of s t bs [] ≡ []
  unfolding formats values_of put_items
  octets-none [] = refl
  octets-none (b ∷ bs) = refl

  first_small : (b : Bool) (f : Form) → pick b (item_refusal s (item_in t f)) 0 ≡ 0 → length (pick b (item_octets s (item_in t f)) []) ≤ 2000
  first_small true f h = item-small s (item_in t f) h
  first_small false f h = omega arith

  first_fits : (b : Bool) (f : Form) → pick b (item_refusal s (item_in t f)) 0 ≡ 0
      → fits_in (pick b (format (layout f)) done) (pick b (trace_of s (item_in t f)) []) ≡ true
  unfolding fits_in
  first_fits true f h = fits_in_lem s t f h
  first_fits false f h = refl

  -- items that are not refused have values that fit
  pub items-fit : (bs : List Bool) (fs : List Form) → items_refusal s t bs fs ≡ 0 → items_fit (formats bs fs) (values_of s t bs fs) ≡ true
  unfolding items_refusal formats values_of items_fit
  items-fit [] fs h = refl
  items-fit (b ∷ bs) [] h = refl
  items-fit (b ∷ bs) (f ∷ fs) h =
      let n = none_of (pick b (item_refusal s (item_in t f)) 0) (items_refusal s t bs fs) h in
      and_yes (first_fits b f n.0) (items-fit bs fs n.1)

  -- and few octets
  pub items_bound : (bs : List Bool) (fs : List Form) → items_refusal s t bs fs ≡ 0 → length (octets_of s t bs fs) ≤ length fs * 2000
  unfolding items_refusal formats values_of put_items
  items_bound [] fs h = omega arith
  items_bound (b ∷ bs) [] h = omega arith
  items_bound (b ∷ bs) (f ∷ fs) h =
      let n = none_of (pick b (item_refusal s (item_in t f)) 0) (items_refusal s t bs fs) h in
      rw (octets_cons b bs f fs, length-append) (omega (arith, first_small b f n.0, items_bound bs fs n.1))

  -- of field f on, field 1 the first
  module _ (bs : List Bool) (fs : List Form) where
    abbrev item_at : ℕ → Item
    item_at f = item_in t (get_or (Form.Spare ∷ fs) f Form.Spare)

    abbrev refusal_from : ℕ → ℕ
    refusal_from f = items_refusal s t (drop (f - 1) bs) (drop (f - 1) fs)

    abbrev octets_from : ℕ → List ℕ
    octets_from f = octets_of s t (drop (f - 1) bs) (drop (f - 1) fs)

    -- behind the last field
    module _ (f : ℕ) (past : length fs < f) where
      none_left : drop (f - 1) fs ≡ []
      none_left = drop_of_length-le fs {i = f - 1} (omega arith)

      refusal-last : refusal_from f ≡ 0
      unfolding items_refusal
      refusal-last = rw none_left (go (drop (f - 1) bs))
        where
          go : (l : List Bool) → items_refusal s t l [] ≡ 0
          go [] = refl
          go (b ∷ l) = refl

      octets-last : octets_from f ≡ []
      octets-last = rw none_left (octets-none (drop (f - 1) bs))

    -- a field, and those behind it
    module _ (f : ℕ) (low : 1 ≤ f) (more : f ≤ length fs) (room : length fs ≤ length bs) (b : Bool) (is : b ≡ get_or bs (f - 1) false) where
      form-at : (f : ℕ) → 1 ≤ f → get_or (Form.Spare ∷ fs) f Form.Spare ≡ get_or fs (f - 1) Form.Spare
      form-at zero l = absurd (omega arith)
      form-at (suc n) l = let e : suc n - 1 ≡ n = omega arith in rw e

      one_more : f + 1 - 1 ≡ suc (f - 1)
      one_more = omega arith

      flags-next : drop (f - 1) bs ≡ b ∷ drop (f + 1 - 1) bs
      flags-next = rw (one_more, is) (drop-cons bs (f - 1) false (omega arith))

      fields-next : drop (f - 1) fs ≡ get_or (Form.Spare ∷ fs) f Form.Spare ∷ drop (f + 1 - 1) fs
      fields-next = rw (one_more, form-at f low) (drop-cons fs (f - 1) Form.Spare (omega arith))

      refusal-next : refusal_from f ≡ or_else (pick b (item_refusal s (item_at f)) 0) (refusal_from (f + 1))
      unfolding items_refusal
      refusal-next = rw (flags-next, fields-next)

      octets-next : octets_from f ≡ pick b (item_octets s (item_at f)) [] ++ octets_from (f + 1)
      octets-next = rw (flags-next, fields-next) (octets_cons b (drop (f + 1 - 1) bs) (get_or (Form.Spare ∷ fs) f Form.Spare) (drop (f + 1 - 1) fs))

    -- the fields before f are passed: none is refused, and their octets are counted
    pub record Counted (total f : ℕ) : Type 0 where
      pub low : 1 ≤ f
      pub refusal : items_refusal s t bs fs ≡ refusal_from f
      pub sum : total + length (octets_from f) ≡ length (octets_of s t bs fs)
      pub few : total ≤ (f - 1) * 2000

    module _ (total f : ℕ) (w : Counted total f) where
      -- past the last field
      counted-all : length fs < f → Size.Octets total ≡ items_size s t bs fs
      unfolding items_size
      counted-all past =
          let n : length (octets_from f) ≡ 0 = ap length (octets-last f past) in
          let e : total ≡ length (octets_of s t bs fs) = omega arith in
          rw (w.refusal ∙ refusal-last f past, e)

      module _ (more : f ≤ length fs) (room : length fs ≤ length bs) (b : Bool) (is : b ≡ get_or bs (f - 1) false) where
        -- past a field that is not marked
        counted_skipped : b ≡ false → Counted total (f + 1)
        counted_skipped e = record {
          low = omega arith;
          refusal = w.refusal ∙ refusal-next f w.low more room b is ∙ rw e;
          sum = rw (← w.sum, octets-next f w.low more room b is, e);
          few = omega arith;
        }

        module _ (e : b ≡ true) (n : ℕ) where
          -- past an item
          counted_passed : size_of s (item_at f) ≡ Size.Octets n → Counted (total + n) (f + 1)
          counted_passed h =
              let x = told-octets s (item_at f) n h in
              let small = item-small s (item_at f) x.0 in
              let long : length (octets_from f) ≡ n + length (octets_from (f + 1)) = rw (octets-next f w.low more room b is, e, length-append, x.1) in
              record {
                low = omega arith;
                refusal = w.refusal ∙ refusal-next f w.low more room b is ∙ rw (e, x.0);
                sum = omega arith;
                few = omega arith;
              }

          -- an item that is refused
          counted-refused : size_of s (item_at f) ≡ Size.Refused n → Size.Refused n ≡ items_size s t bs fs
          unfolding items_size
          counted-refused h =
              let x = told-refused s (item_at f) n h in
              let z : items_refusal s t bs fs ≡ n = w.refusal ∙ refusal-next f w.low more room b is ∙ rw (e, ← x.1, x.0) in
              rw (z, x.0)

    -- the fields before f are passed: laying the items of the others at p is laying all of them
    pub record Laid (out₀ : List ℕ) (at : ℕ) (out : List ℕ) (p f : ℕ) : Type 0 where
      pub low : 1 ≤ f
      pub accepted : refusal_from f ≡ 0
      pub size : length out ≡ length out₀
      pub behind : p + length (octets_from f) ≡ at + length (octets_of s t bs fs)
      pub same : laid out₀ at (octets_of s t bs fs) ≡ laid out p (octets_from f)

    module _ (out₀ : List ℕ) (at : ℕ) (out : List ℕ) (p f : ℕ) (w : Laid out₀ at out p f) where
      -- past the last field
      laid-all : length fs < f → (out ≡ laid out₀ at (octets_of s t bs fs)) × (p ≡ at + length (octets_of s t bs fs))
      unfolding octets
      laid-all past =
          let n : length (octets_from f) ≡ 0 = ap length (octets-last f past) in
          (sym (w.same ∙ rw (octets-last f past) (laid_none out p 0)), omega arith)

      module _ (more : f ≤ length fs) (room : length fs ≤ length bs) (b : Bool) (is : b ≡ get_or bs (f - 1) false) where
        -- past a field that is not marked
        laid_skipped : b ≡ false → Laid out₀ at out p (f + 1)
        laid_skipped e =
            let next : octets_from f ≡ octets_from (f + 1) = octets-next f w.low more room b is ∙ rw e in
            record {
              low = omega arith;
              accepted = rw e at (sym (refusal-next f w.low more room b is) ∙ w.accepted);
              size = w.size;
              behind = rw next at w.behind;
              same = rw next at w.same;
            }

        module _ (e : b ≡ true) (enough : at + length (octets_of s t bs fs) ≤ length out₀) where
          parts : (item_refusal s (item_at f) ≡ 0) × (refusal_from (f + 1) ≡ 0)
          parts =
              none_of (item_refusal s (item_at f)) (refusal_from (f + 1))
              (rw e at (sym (refusal-next f w.low more room b is) ∙ w.accepted))

          next : octets_from f ≡ item_octets s (item_at f) ++ octets_from (f + 1)
          next = octets-next f w.low more room b is ∙ rw e

          long : length (octets_from f) ≡ length (item_octets s (item_at f)) + length (octets_from (f + 1))
          long = rw (next, length-append)

          -- the item is one that can be written
          laid-accepts : item_refusal s (item_at f) ≡ 0
          laid-accepts = parts.0

          laid-room : p + length (item_octets s (item_at f)) ≤ length out
          laid-room = omega (arith, long)

          -- past an item
          laid_passed : (out' : List ℕ) (q : ℕ) → out' ≡ laid out p (item_octets s (item_at f)) → q ≡ p + length (item_octets s (item_at f))
              → Laid out₀ at out' q (f + 1)
          laid_passed out' q is-out is-q = record {
            low = omega arith;
            accepted = parts.1;
            size = ap length is-out ∙ length-laid out p (item_octets s (item_at f)) laid-room ∙ w.size;
            behind = omega (arith, long);
            same = w.same ∙ rw (next, is-out, is-q) (sym (laid-laid out p (item_octets s (item_at f)) (octets_from (f + 1)) laid-room));
          }

-- the same of a record's own fields, as the code comes by them: last is the last field's number
module _ (s : List ℕ) (t : Record) where
  abbrev pub CountedFields : ℕ → ℕ → Type 0
  CountedFields total f = Counted s t (flags s t) (fields s t) total f

  abbrev pub LaidFields : List ℕ → ℕ → List ℕ → ℕ → ℕ → Type 0
  LaidFields out₀ at out p f = Laid s t (flags s t) (fields s t) out₀ at out p f

  module _ (last : ℕ) (end : (last ≡ length (fields s t)) × (last ≤ 14)) where
    -- every field has a mark
    marks-enough : length (fields s t) ≤ length (flags s t)
    marks-enough = omega (arith, flags-count 32 t.marks)

    pub fields-counted : (total f : ℕ) → CountedFields total f → last < f → Size.Octets total ≡ items_size s t (flags s t) (fields s t)
    fields-counted total f w past = counted-all s t (flags s t) (fields s t) total f w (omega arith)

    pub fields_laid : (out₀ : List ℕ) (at : ℕ) (out : List ℕ) (p f : ℕ) → LaidFields out₀ at out p f → last < f
        → (out ≡ laid out₀ at (items_octets s t)) × (p ≡ at + length (items_octets s t))
    fields_laid out₀ at out p f w past = laid-all s t (flags s t) (fields s t) out₀ at out p f w (omega arith)

    module _ (f : ℕ) (more : f ≤ last) (b : Bool) (is : b ≡ marked t.marks f) where
      -- its mark in the list
      mark : 1 ≤ f → b ≡ get_or (flags s t) (f - 1) false
      mark low = is ∙ marked-at t.marks f low

      inside : f ≤ length (fields s t)
      inside = omega arith

      module _ (total : ℕ) (w : CountedFields total f) where
        pub field_uncounted : b ≡ false → CountedFields total (f + 1)
        field_uncounted = counted_skipped s t (flags s t) (fields s t) total f w inside marks-enough b (mark w.low)

      module _ (out₀ : List ℕ) (at : ℕ) (out : List ℕ) (p : ℕ) (w : LaidFields out₀ at out p f) where
        pub field_unlaid : b ≡ false → LaidFields out₀ at out p (f + 1)
        field_unlaid = laid_skipped s t (flags s t) (fields s t) out₀ at out p f w inside marks-enough b (mark w.low)

      -- what stands at the field, and its item
      module _ (e : b ≡ true) (x : Field) (i : Item) (at_f : x ≡ field_at (category t.category) f) (of-t : i ≡ item_in t x.0) where
        here : i ≡ item_in t (form_at (category t.category) f)
        here = of-t ∙ ap (λ (y : Field). item_in t y.0) at_f

        module _ (total : ℕ) (w : CountedFields total f) (n : ℕ) where
          pub field-counted : Size.Octets n ≡ size_of s i → CountedFields (total + n) (f + 1)
          field-counted h = counted_passed s t (flags s t) (fields s t) total f w inside marks-enough b (mark w.low) e n (rw here at (sym h))

          pub field-refused : Size.Refused n ≡ size_of s i → Size.Refused n ≡ items_size s t (flags s t) (fields s t)
          field-refused h = counted-refused s t (flags s t) (fields s t) total f w inside marks-enough b (mark w.low) e n (rw here at (sym h))

        module _ (out₀ : List ℕ) (at : ℕ) (out : List ℕ) (p : ℕ) (w : LaidFields out₀ at out p f) (enough : at + length (items_octets s t) ≤ length out₀) where
          -- the item is one that can be written there
          pub field_fits : (item_refusal s i ≡ 0) × (p + length (item_octets s i) ≤ length out)
          field_fits = rw here (
            laid-accepts s t (flags s t) (fields s t) out₀ at out p f w inside marks-enough b (mark w.low) e enough,
            laid-room s t (flags s t) (fields s t) out₀ at out p f w inside marks-enough b (mark w.low) e enough,
          )

          pub field-laid : (out' : List ℕ) (q : ℕ) → (out' ≡ laid out p (item_octets s i)) × (q ≡ p + length (item_octets s i)) → LaidFields out₀ at out' q (f + 1)
          field-laid out' q h =
              let g = rw here at h in
              laid_passed s t (flags s t) (fields s t) out₀ at out p f w inside marks-enough b (mark w.low) e enough out' q g.0 g.1

-- what stands at a field is the field of its item
pub field-here : (t : Record) (g : Form) (x : Field) (i : Item) → x ≡ record { 0 = g; 1 = kind_of (layout g) } → i ≡ item_in t x.0 → x ≡ field_of i
field-here t g x i at_f of-t =
    at_f
    ∙ ap (λ (h : Form). record { 0 = h; 1 = kind_of (layout h) }) (sym (form_in t g))
    ∙ ap (λ (y : Field). field_of (item_in t y.0)) (sym at_f)
    ∙ ap field_of (sym of-t)
