-- A record that was read is not refused for writing, and is written in normal form. Assumes nothing.
use mathlib.Core.Path.{◌≡◌, refl, sym, ap, ◌∙◌}
use mathlib.Core.Bool.{Bool, true, false}
use mathlib.Core.List.{List, [], ◌∷◌, ◌++◌}
use Prim.Native.Nat.{ℕ, suc, ◌+◌, ◌-◌, ◌*◌, ◌≤◌, ◌<◌}
use native.Mathlib.Omega.{arith}
use borrow.Author.Tests.{eqb-true}
use lib.ListN.{length, get_or, replicate}
use Rattle.octets.specs.Choice.{pick}
use Rattle.octets.specs.Numbers.{Octets}
use Rattle.octets.specs.Refusals.{out_of_range}
use Rattle.layouts.specs.Formats.{got, Trace, fits_in}
use Rattle.layouts.specs.Offsets.{run_at, item_at}
use Rattle.layouts.specs.Layouts.{format}
use Rattle.layouts.specs.Tables.{layout}
use Rattle.layouts.specs.Categories.{Category, known, category}
use Rattle.layouts.specs.declared.form.Form.{Form}
use Rattle.layouts.proofs.Parsed.{pick_yes, through}
use Rattle.items.specs.Typed.{item_refusal}
use Rattle.items.proofs.Items.{item_of}
use Rattle.items.proofs.Judged.{read-refusal}
use Rattle.blocks.specs.Specification.{flags}
use Rattle.blocks.specs.Records.{Rec, layout_of, flags_refusal, specification_refusal, present, put_rec}
use Rattle.blocks.specs.Offsets.{items_at, record_at}
use Rattle.blocks.specs.Typed.{typed_rec}
use Rattle.blocks.specs.Steps.{items_from}
use Rattle.blocks.specs.Meaning.{item_in, rec_of}
use Rattle.blocks.specs.declared.record.Record.{Record}
use Rattle.blocks.proofs.BlockLaws.{category-cat}
use Rattle.blocks.proofs.MarksLaws.{flags_32, mark-more, refusal-more, specification-marked}
use Rattle.blocks.proofs.ReadSteps.{record_parts}
use Rattle.blocks.proofs.FormLaws.{Forms, forms}
use Rattle.blocks.proofs.MeaningLaws.{item-read, means-read}
use Rattle.blocks.proofs.WalkSteps.{Table, table}
use Rattle.writing.specs.Judged.{or_else, items_refusal, fields, marked_refusal, record_refusal, record_octets}
use Rattle.writing.specs.Judged as judged

-- an item that was read is not refused
item-fine : (s : List ℕ) (len : ℕ) → len ≤ length s → (f : Form) (at : ℕ) (tr : Trace) (q : ℕ)
    → item_at s len (format (layout f)) at ≡ got tr q → item_refusal s (item_of f tr (at + 1)) ≡ 0
unfolding item_at
item-fine s len fit f at tr q h =
    let (tr', q', e, h') = through (run_at s len (format (layout f)) at) h in
    let (y, end) = pick_yes (fits_in (format (layout f)) tr') out_of_range (got tr' q') h' in
    let same : tr' ≡ tr = cc in
    rw (← same) (read-refusal s len fit f at tr' q' e ∙ rw y)

module _ (s : List ℕ) (t : Record) where
  -- field by field
  items-fine : (bs : List Bool) (fs : List Form)
      → ((n : ℕ) → n < length fs → get_or bs n false ≡ true → item_refusal s (item_in t (get_or fs n Form.Spare)) ≡ 0)
      → items_refusal s t bs fs ≡ 0
  unfolding items_refusal
  items-fine [] fs h = refl
  items-fine (b ∷ bs) [] h = refl
  items-fine (b ∷ bs) (f ∷ fs) h = go b (h 0 (omega arith)) (items-fine bs fs (λ n l. h (suc n) (omega arith)))
    where
      go : (b : Bool) → (b ≡ true → item_refusal s (item_in t f) ≡ 0) → items_refusal s t bs fs ≡ 0
          → or_else (pick b (item_refusal s (item_in t f)) 0) (items_refusal s t bs fs) ≡ 0
      go true h e = rw (h refl, e)
      go false h e = e

  -- test after test
  tests_fine : known t.category ≡ true → marked_refusal s t ≡ 0 → items_refusal s t (judged.flags s t) (fields s t) ≡ 0
      → present (category t.category) (rec_of s t).marks (rec_of s t).items ≡ true → record_refusal s t ≡ 0
  unfolding record_refusal
  tests_fine k m i p = rw (k, m, i, p)

  record_fine : (c : Category) (r : Rec) → category t.category ≡ c → rec_of s t ≡ r → known t.category ≡ true → marked_refusal s t ≡ 0
      → items_refusal s t (judged.flags s t) c.fields ≡ 0 → present c r.marks r.items ≡ true → record_refusal s t ≡ 0
  record_fine c r hc hr k m i p =
      tests_fine k m
      (ap (λ (c : Category). items_refusal s t (judged.flags s t) c.fields) hc ∙ i)
      (ap (λ (c : Category). present c (rec_of s t).marks (rec_of s t).items) hc ∙ ap (λ (r : Rec). present c r.marks r.items) hr ∙ p)

-- The record made of the marks gs and the values trs, read at p
module _ (s : List ℕ) (len : ℕ) (c : Category) (w : Forms c) (gs : List ℕ) (trs : List Trace) (p q : ℕ)
    (few : length gs ≤ 4) (read : items_at s len (layout_of c gs) p ≡ got trs q) where
  abbrev t : Record
  t = typed_rec s len c (record { marks = gs; items = trs }) p

  flags-are : judged.flags s t ≡ flags gs ++ replicate (32 - 7 * length gs) false
  unfolding typed_rec
  flags-are = flags_32 gs few

  is-category : category t.category ≡ c
  unfolding typed_rec
  is-category = w.same

  mark-fine : specification_refusal c gs ≡ 0 → marked_refusal s t ≡ 0
  unfolding specification_refusal
  mark-fine z =
      ap (λ (c : Category). flags_refusal c (judged.flags s t)) is-category
      ∙ ap (flags_refusal c) flags-are
      ∙ refusal-more c (flags gs) (32 - 7 * length gs)
      ∙ z

  values-fine : len ≤ length s → items_refusal s t (judged.flags s t) c.fields ≡ 0
  values-fine fit =
      items-fine s t (judged.flags s t) c.fields λ n l m.
      let marked : get_or (flags gs) n false ≡ true = sym (mark-more (flags gs) (32 - 7 * length gs) n) ∙ (rw flags-are at m) in
      let (e, is) = item-read s len c w gs trs p q read n l marked in
      rw is (item-fine s len fit (get_or c.fields n Form.Spare) _ (get_or trs n []) _ e)

  typed-fine : len ≤ length s → known c.cat ≡ true → specification_refusal c gs ≡ 0
      → present c gs trs ≡ true → rec_of s t ≡ record { marks = gs; items = trs } → record_refusal s t ≡ 0
  unfolding typed_rec
  typed-fine fit k z y means =
      record_fine s t c (record { marks = gs; items = trs }) is-category means k (mark-fine z) (values-fine fit) y

module _ (s : List ℕ) (len cat : ℕ) (c : Category) (w : Forms c) (tab : Table cat c) (at : ℕ) (o : Octets s) (fit : len ≤ length s)
    (k : known c.cat ≡ true) where
  judged-at : (r : Rec) (q : ℕ) → record_at s len c at ≡ got r q → rec_of s (typed_rec s len c r (items_from s len c at)) ≡ r
      → record_refusal s (typed_rec s len c r (items_from s len c at)) ≡ 0
  judged-at r q h means =
      let (p, e, e', z, y) = record_parts s len c at q r h in
      let m = specification-marked s len (c.most - 1) at r.marks p o e in
      let few : length r.marks ≤ 4 = omega (arith, m.long, tab.some, tab.few) in
      let is : items_from s len c at ≡ p = rw e in
      rw is (typed-fine s len c w r.marks r.items p q few e' fit k (eqb-true _ _ z) y (rw is at means))

module _ (s : List ℕ) (len cat at : ℕ) (o : Octets s) (fit : len ≤ length s) (k : known cat ≡ true) where
  abbrev made : Rec → Record
  made r = typed_rec s len (category cat) r (items_from s len (category cat) at)

  -- A record that was read is not refused.
  pub read-judged : (r : Rec) (q : ℕ) → record_at s len (category cat) at ≡ got r q
      → (t : Record) → t ≡ made r → record_refusal s t ≡ 0
  read-judged r q h t is =
      ap (record_refusal s) is
      ∙ judged-at s len cat (category cat) (forms cat k) (table cat k) at o fit (rw (category-cat cat) k) r q h
      (means-read s len cat at o k r q h)

  -- Its octets are its normal form.
  pub read-octets : (r : Rec) (q : ℕ) → record_at s len (category cat) at ≡ got r q
      → (t : Record) → t ≡ made r → record_octets s t ≡ put_rec (category cat) r
  unfolding record_octets typed_rec
  read-octets r q h t is = ap (record_octets s) is ∙ rw (means-read s len cat at o k r q h, category-cat cat)
