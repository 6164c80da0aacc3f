-- A record that was read, by the forms of its items: each was read where it starts, or is not there; its entries lie within the block.
-- Assumes nothing.
use mathlib.Core.Path.{◌≡◌, refl, sym, ap, ◌∙◌}
use mathlib.Core.Bool.{Bool, true, false, false≢true}
use mathlib.Core.List.{List, [], ◌∷◌}
use mathlib.Core.Logic.{◌⊎◌, inl, inr}
use Prim.Native.Nat.{ℕ, zero, suc, ◌+◌, ◌*◌, ◌-◌, ◌<◌, ◌≤◌}
use native.Mathlib.Nat.{zero-add, add-zero, zero-mul, suc-mul, div-one}
use native.Mathlib.Omega.{arith}
use borrow.Author.Tests.{lt-leb}
use lib.Dec.{leb, eqb}
use lib.ListN.{length, get_or}
use Rattle.octets.specs.Choice.{pick}
use Rattle.octets.specs.Numbers.{Octets, number}
use Rattle.octets.specs.Refusals.{no_count}
use Rattle.layouts.specs.Groups.{values, Group}
use Rattle.layouts.specs.Formats.{got, Format, done, stop, Trace, fits_in}
use Rattle.layouts.specs.Offsets.{run_at, trace_at, groups_at}
use Rattle.layouts.specs.Layouts.{octet, times, counted, format, kind_of}
use Rattle.layouts.specs.Ends.{kind_end, end_of}
use Rattle.layouts.specs.Tables.{counter, version, layout}
use Rattle.layouts.specs.Categories.{Category, known, category, layout_at, entries_form}
use Rattle.layouts.specs.End.{At}
use Rattle.layouts.specs.declared.form.Form.{Form}
use Rattle.layouts.proofs.KindEnds.{forms-sound, kind_end_lem, end-room}
use Rattle.layouts.proofs.Windows.{run_trace, run-within}
use Rattle.items.specs.Typed.{val, place_at}
use Rattle.items.specs.declared.typed.Place.{Place}
use Rattle.items.proofs.Judged.{counted-read}
use Rattle.items.proofs.Items.{times_trace}
use Rattle.blocks.specs.Specification.{flags}
use Rattle.blocks.specs.Marks.{marks_of, flags_of, marked, groups_of}
use Rattle.blocks.specs.Records.{Rec, formats, layout_of}
use Rattle.blocks.specs.Offsets.{specification_at, items_at, record_at}
use Rattle.blocks.specs.Typed.{typed, field_for, place_in, start_in, values_for, start_for, typed_rec}
use Rattle.blocks.specs.Steps.{items_from, entry_group_of, entry_values}
use Rattle.blocks.specs.declared.record.Record.{Record}
use Rattle.blocks.proofs.AtEnd.{end-value, end-place}
use Rattle.blocks.proofs.MarksLaws.{flags_32, flags_long, formats-more, mark-more, specification-marked}
use Rattle.blocks.proofs.FormLaws.{field-form}
use Rattle.blocks.proofs.WalkSteps.{item-run, item-fits, table}
use Rattle.blocks.proofs.ItemStarts.{first-start, formats-at, formats-few, items-there, items-end}
use Rattle.blocks.proofs.ReadSteps.{record_parts}

-- An item of a record: it was read where it starts, inside the octets; or it is not there, and is looked for at their end
data Held (s : List ℕ) (len : ℕ) (f : Format) (start : ℕ) (tr : Trace) (from : ℕ) : Type 0 where
  here : (q : ℕ) → start ≡ from → from < length s → run_at s len f from ≡ got tr q → fits_in f tr ≡ true → Held s len f start tr from
  none : start ≡ length s → tr ≡ [] → Held s len f start tr from

-- group j of n from an offset
pub groups_at_lem : (s : List ℕ) (n : ℕ) (g : Group) (at j : ℕ) → j < n → get_or (groups_at n g s at) j [] ≡ entry_values s g at j
unfolding groups_at
groups_at_lem s zero g at j l = absurd (omega arith)
groups_at_lem s (suc n) g at zero l = rw (zero-mul, add-zero)
groups_at_lem s (suc n) g at (suc j) l =
    groups_at_lem s n g (at + g.wide) j (omega arith)
    ∙ rw (suc-mul j g.wide) (ap (λ (i : ℕ). values g.parts (number g.wide s i)) (omega arith))

module _ (s : List ℕ) (len : ℕ) where
  -- either way its values are those at its start
  held-value : (f : Format) (start : ℕ) (tr : Trace) (from : ℕ) → Held s len f start tr from → (j i : ℕ) → val (trace_at f s start) j i ≡ val tr j i
  held-value f start tr from (here q e l h w) j i = rw (e, ← run_trace s len f from tr q h)
  held-value f start tr from (none e z) j i = rw (e, z, end-value s f j i)

  -- and fit, or it is not there
  held_fits : (f : Format) (start : ℕ) (tr : Trace) (from : ℕ) → Held s len f start tr from → (tr ≡ []) ⊎ (fits_in f tr ≡ true)
  held_fits f start tr from (here q e l h w) = inr w
  held_fits f start tr from (none e z) = inl z

  -- and its entries or content are where its octets have them
  held_place : (f : Format) (e : ℕ) (g : Group) (start : ℕ) (tr : Trace) (from : ℕ) → f ≡ counted e g → Held s len f start tr from
      → (d : ℕ) → place_at s start d ≡ place_in from d tr
  unfolding counted trace_at values number
  held_place f e g start tr from is (here q z l h w) d =
      rw (z, lt-leb (length s) from l, run_trace s len f from tr q h, is, add-zero, div-one, zero-add)
  held_place f e g start tr from is (none z n) d = rw (z, n) (end-place s d)

  -- entries that were read lie within the block
  held-within : len ≤ length s → (f : Format) (g : Group) (start : ℕ) (tr : Trace) (from : ℕ) → f ≡ counted 0 g → Held s len f start tr from
      → (place_in from 0 tr).at + (place_in from 0 tr).count * g.wide ≤ len
  held-within fit f g start [] from is w = omega (arith, zero-mul g.wide)
  held-within fit f g start (v ∷ tr) from is (here q z l h w) = (counted-read s len fit 0 g from (v ∷ tr) q (rw is at h)).1
  held-within fit f g start (v ∷ tr) from is (none z n) = absurd (let z : ◌≡◌ {A = ℕ} 0 1 = cc in omega arith)

  -- behind a count stand so many groups
  counted_trace : (g : Group) (from : ℕ) (v : List ℕ) (tr : Trace) → v ∷ tr ≡ trace_at (counted 0 g) s from
      → tr ≡ trace_at (pick (leb (get_or v 0 0) 0) (stop no_count) (times (get_or v 0 0 - 0) g)) s (from + 1)
  unfolding trace_at counted
  counted_trace g from v tr e =
      let same : v ≡ values octet.parts (number 1 s from) = cc in
      rw same cc

  -- entry n of those that were read is group n behind the count
  held-entry : len ≤ length s → (f : Format) (g : Group) (start : ℕ) (tr : Trace) (from : ℕ) → f ≡ counted 0 g → Held s len f start tr from
      → (n : ℕ) → n < (place_in from 0 tr).count
      → values g.parts (number g.wide s ((place_in from 0 tr).at + n * g.wide)) ≡ get_or tr (suc n) []
  held-entry fit f g start [] from is w n l = absurd (omega arith)
  held-entry fit f g start (v ∷ tr) from is (none z e) n l = absurd (let z : ◌≡◌ {A = ℕ} 0 1 = cc in omega arith)
  held-entry fit f g start (v ∷ tr) from is (here q z i h w) n l =
      let some = (counted-read s len fit 0 g from (v ∷ tr) q (rw is at h)).0 in
      let e = counted_trace g from v tr (run_trace s len (counted 0 g) from (v ∷ tr) q (rw is at h)) in
      rw (e, lt-leb (get_or v 0 0) 0 some) (rw (times_trace (get_or v 0 0 - 0) g s (from + 1)) (sym (groups_at_lem s (get_or v 0 0 - 0) g (from + 1) n l)))

-- a mark is one of the marks there are
mark-inside : (bs : List Bool) (n : ℕ) → get_or bs n false ≡ true → n < length bs
mark-inside [] n e = absurd (false≢true e)
mark-inside (b ∷ bs) zero e = omega arith
mark-inside (b ∷ bs) (suc n) e = omega (arith, mark-inside bs n e)

-- The items behind a specification with the marks gs, field by field
module _ (s : List ℕ) (len : ℕ) (c : Category) (gs : List ℕ) (p : ℕ) (trs : List Trace) (q : ℕ)
    (o : Octets s) (fit : len ≤ length s) (inside : p ≤ len) (few : length gs ≤ 4) (long : length (flags gs) ≡ length c.fields)
    (read : items_at s len (layout_of c gs) p ≡ got trs q) where
  abbrev marks : ℕ
  marks = marks_of (flags gs)

  -- where the item of field n + 1 starts
  abbrev start : ℕ → ℕ
  start n = start_in s len (layout_of c gs) p n

  -- the marks as a number are the marks that were read
  pub mark-is : (n : ℕ) → marked marks (suc n) ≡ get_or (flags gs) n false
  mark-is n = rw (flags_32 gs few) (mark-more (flags gs) (32 - 7 * length gs) n)

  layout_is : formats (flags_of 32 marks) c.fields ≡ layout_of c gs
  unfolding layout_of
  layout_is = rw (flags_32 gs few, formats-more (flags gs) (32 - 7 * length gs) c.fields (omega arith))

  -- an item was read from its start to the next one's
  there : (n : ℕ) → run_at s len (get_or (layout_of c gs) n done) (start n) ≡ got (get_or trs n []) (start (suc n))
  there n = item-run s len _ (start n) (start (suc n)) (get_or trs n []) (items-there s len (layout_of c gs) p q trs read n)

  -- and its values fit
  fits-there : (n : ℕ) → fits_in (get_or (layout_of c gs) n done) (get_or trs n []) ≡ true
  fits-there n = item-fits s len _ (start n) (start (suc n)) (get_or trs n []) (items-there s len (layout_of c gs) p q trs read n)

  -- the item of field n + 1, by whether it is marked
  abbrev pub Stands : ℕ → Bool → Type 0
  Stands n true = run_at s len (format (layout_at c (suc n))) (start n) ≡ got (get_or trs n []) (start (suc n))
  Stands n false = (get_or trs n [] ≡ []) × (start (suc n) ≡ start n)

  pub stands : (n : ℕ) → Stands n (get_or (flags gs) n false)
  unfolding layout_of run_at
  stands n = go (get_or (flags gs) n false) (formats-at (flags gs) c.fields n (λ e. omega (arith, mark-inside (flags gs) n e))) (there n)
    where
      go : (b : Bool) → get_or (layout_of c gs) n done ≡ pick b (format (layout_at c (suc n))) done
          → run_at s len (get_or (layout_of c gs) n done) (start n) ≡ got (get_or trs n []) (start (suc n)) → Stands n b
      go true e h = rw e at h
      go false e h = let h' : got [] (start n) ≡ got (get_or trs n []) (start (suc n)) = rw e at h in (cc, cc)

  marked-fits : (n : ℕ) → get_or (flags gs) n false ≡ true → fits_in (format (layout_at c (suc n))) (get_or trs n []) ≡ true
  unfolding layout_of
  marked-fits n e =
      rw (formats-at (flags gs) c.fields n (λ e. omega (arith, mark-inside (flags gs) n e)), e) at (fits-there n)

  -- so no item starts past the block's end
  start-within : (n : ℕ) → start n ≤ len
  start-within zero = rw (first-start s len (layout_of c gs) p) inside
  start-within (suc n) =
      (run-within s len (get_or (layout_of c gs) n done) (start n) (get_or trs n []) (start (suc n)) (start-within n) (there n)).1

  -- where an item was read, it ends by its kind
  ends : (n : ℕ) → Stands n true → kind_end s len (kind_of (layout_at c (suc n))) (start n) ≡ At (start (suc n))
  ends n h = sym (kind_end_lem s len o (layout_at c (suc n)) (start n) (forms-sound (get_or c.fields n Form.Spare))) ∙ ap end_of h

  -- behind the last field is where the items were read to
  last_end : (n : ℕ) → length c.fields ≤ n → start n ≡ q
  unfolding layout_of
  last_end n l = items-end s len (layout_of c gs) p q trs read n (omega (arith, formats-few (flags gs) c.fields))

  -- the item of a form, by its field's number
  held : (f : Form) (k : ℕ) → field_for c.fields f ≡ k
      → Held s len (format (layout f)) (pick (marked marks k) (start (k - 1)) (length s)) (get_or ([] ∷ trs) k []) (start (k - 1))
  held f zero e = none refl refl
  held f (suc n) e =
      let one : suc n - 1 ≡ n = omega arith in
      rw (mark-is n, one) (go (get_or (flags gs) n false) (stands n) (marked-fits n))
    where
      go : (b : Bool) → Stands n b → (b ≡ true → fits_in (format (layout_at c (suc n))) (get_or trs n []) ≡ true)
          → Held s len (format (layout f)) (pick b (start n) (length s)) (get_or trs n []) (start n)
      go true h w =
          let room = end-room s len (get_or c.fields n Form.Spare) (start n) (start (suc n)) (ends n h) (start-within n) in
          let same = field-form c.fields f n e in
          here (start (suc n)) refl (omega arith) (rw same at h) (rw same at (w refl))
      go false h w = none refl h.0

-- records with the same values and places are the same
typed-same : (cat marks : ℕ) (v w : Form → Trace) (p q : Form → ℕ → Place) → ((f : Form) (j i : ℕ) → val (v f) j i ≡ val (w f) j i)
    → p (entries_form cat) 0 ≡ q (entries_form cat) 0
    → p Form.Expansion 1 ≡ q Form.Expansion 1 → p Form.Purpose 1 ≡ q Form.Purpose 1 → typed cat marks v p ≡ typed cat marks w q
typed-same cat marks v w p q h a b d = rw (a, b, d) (simp h)

-- entries are counted, and so is the content of RE and of SP
entries-counted : (b : Bool) → format (layout (pick b Form.Versions Form.Statistics)) ≡ counted 0 (pick b version counter)
unfolding format
entries-counted true = refl
entries-counted false = refl

content_counted : (format (layout Form.Expansion) ≡ counted 1 octet) × (format (layout Form.Purpose) ≡ counted 1 octet)
unfolding format
content_counted = (refl, refl)

module _ (s : List ℕ) (len cat at : ℕ) (o : Octets s) (fit : len ≤ length s) (k : known cat ≡ true) where
  -- where the item of a form is found: at its start where it is marked, else at the end of the octets
  abbrev pub found : Rec → ℕ → Form → ℕ
  found r p f =
      let c = category cat in
      pick (marked (marks_of (flags r.marks)) (field_for c.fields f)) (start_for s len c r p f) (length s)

  -- a record that was read: its specification, the item of each form, and where the last ends
  pub record Taken (r : Rec) (q : ℕ) : Type 0 where
    pub behind : ℕ
    pub spec : specification_at s len ((category cat).most - 1) at ≡ got r.marks behind
    pub marks-are : marks_of (flags r.marks) ≡ marks_of (flags (groups_of (behind - at) s at))
    pub formats-are : formats (flags_of 32 (marks_of (flags r.marks))) (category cat).fields ≡ layout_of (category cat) r.marks
    pub end : (n : ℕ) → length (category cat).fields ≤ n → start_in s len (layout_of (category cat) r.marks) behind n ≡ q
    items : (f : Form)
        → Held s len (format (layout f)) (found r behind f) (values_for (category cat) r f) (start_for s len (category cat) r behind f)

  pub taken : (r : Rec) (q : ℕ) → record_at s len (category cat) at ≡ got r q → Taken r q
  taken r q h =
      let c = category cat in
      let t = table cat k in
      let (p, e, e', z, y) = record_parts s len c at q r h in
      let w = specification-marked s len (c.most - 1) at r.marks p o e in
      let few : length r.marks ≤ 4 = omega arith in
      let long : length (flags r.marks) ≡ length c.fields = omega (arith, flags_long r.marks) in
      record {
        behind = p;
        spec = e;
        marks-are = w.same;
        formats-are = layout_is s len c r.marks p r.items q o fit w.within few long e';
        end = last_end s len c r.marks p r.items q o fit w.within few long e';
        items = λ f. held s len c r.marks p r.items q o fit w.within few long e' f (field_for c.fields f) refl;
      }

  -- The typed record that is made of the octets where its items are found is the record that was read.
  pub typed-found : (r : Rec) (q : ℕ) (w : Taken r q)
      → typed (category cat).cat (marks_of (flags r.marks))
      (λ f. trace_at (format (layout f)) s (found r w.behind f)) (λ f e. place_at s (found r w.behind f) e)
      ≡ typed_rec s len (category cat) r w.behind
  unfolding typed_rec
  typed-found r q w =
      let c = category cat in
      let v : Form → Trace = values_for c r in
      let from : Form → ℕ = start_for s len c r w.behind in
      let start : Form → ℕ = found r w.behind in
      let entries = entries_form c.cat in
      let place : (f : Form) (e : ℕ) (g : Group) → format (layout f) ≡ counted e g → place_at s (start f) e ≡ place_in (from f) e (v f)
      = λ f e g is. held_place s len (format (layout f)) e g (start f) (v f) (from f) is (w.items f) e in
      typed-same c.cat (marks_of (flags r.marks))
      (λ f. trace_at (format (layout f)) s (start f)) v (λ f e. place_at s (start f) e) (λ f e. place_in (from f) e (v f))
      (λ f. held-value s len (format (layout f)) (start f) (v f) (from f) (w.items f))
      (place entries 0 (pick (eqb c.cat 242) version counter) (entries-counted (eqb c.cat 242)))
      (place Form.Expansion 1 octet content_counted.0)
      (place Form.Purpose 1 octet content_counted.1)

  -- The values of an item are those that stand at some offset.
  pub form-values : (r : Rec) (q : ℕ) → record_at s len (category cat) at ≡ got r q → (f : Form)
      → (x : ℕ) × ((j i : ℕ) → val (trace_at (format (layout f)) s x) j i ≡ val (values_for (category cat) r f) j i)
  form-values r q h f =
      let w = taken r q h in
      (found r w.behind f, held-value s len (format (layout f)) _ _ _ (w.items f))

  -- They fit, or the item is not there.
  pub form-fits : (r : Rec) (q : ℕ) → record_at s len (category cat) at ≡ got r q → (f : Form) → let tr = values_for (category cat) r f in
      (tr ≡ []) ⊎ (fits_in (format (layout f)) tr ≡ true)
  form-fits r q h f = held_fits s len _ _ _ _ ((taken r q h).items f)

  -- The entries of a record that was read lie within the block.
  pub entries-within : (r : Rec) (q : ℕ) → record_at s len (category cat) at ≡ got r q
      → (t : Record) → t ≡ typed_rec s len (category cat) r (items_from s len (category cat) at)
      → t.entries.at + t.entries.count * (entry_group_of t.category).wide ≤ len
  unfolding typed_rec
  entries-within r q h t is =
      let c = category cat in
      let w = taken r q h in
      let entries = entries_form c.cat in
      rw (is, w.spec)
      (held-within s len fit (format (layout entries)) (entry_group_of c.cat)
      (found r w.behind entries) (values_for c r entries) (start_for s len c r w.behind entries)
      (entries-counted (eqb c.cat 242)) (w.items entries))

  -- Entry n of a record that was read is the one that its item's values have.
  pub entry-values : (r : Rec) (q : ℕ) → record_at s len (category cat) at ≡ got r q
      → (t : Record) → t ≡ typed_rec s len (category cat) r (items_from s len (category cat) at) → (n : ℕ) → n < t.entries.count
      → entry_values s (entry_group_of t.category) t.entries.at n
      ≡ get_or (values_for (category cat) r (entries_form (category cat).cat)) (suc n) []
  unfolding typed_rec
  entry-values r q h t is n l =
      let c = category cat in
      let w = taken r q h in
      let entries = entries_form c.cat in
      let l' : n < (place_in (start_for s len c r w.behind entries) 0 (values_for c r entries)).count = rw (is, w.spec) at l in
      rw (is, w.spec)
      (held-entry s len fit (format (layout entries)) (entry_group_of c.cat)
      (found r w.behind entries) (values_for c r entries) (start_for s len c r w.behind entries)
      (entries-counted (eqb c.cat 242)) (w.items entries) n l')
