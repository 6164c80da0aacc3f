-- What refuses an item: of entries and content, as the code asks it; of an item that was read, only its values. Assumes nothing.
use mathlib.Core.Path.{◌≡◌, refl, sym, ap, ◌∙◌}
use mathlib.Core.Bool.{Bool, true, false, ◌&&◌, and-true}
use mathlib.Core.List.{List, [], ◌∷◌}
use Prim.Native.Nat.{ℕ, zero, suc, ◌+◌, ◌-◌, ◌*◌, ◌/◌, ◌%◌, ◌≤◌, ◌<◌}
use native.Mathlib.Nat.{add-sub_cancel, suc-mul, zero-mul, sub-zero}
use native.Mathlib.Omega.{arith}
use lib.Dec.{ltb, leb, eqb}
use lib.ListN.{length, get_or}
use borrow.Author.Tests.{ltb-false, leb-true, leb-false, eqb-false, lt-ltb, le-ltb, lt-leb, ne_eqb}
use Rattle.octets.specs.Choice.{pick}
use Rattle.octets.specs.Numbers.{number}
use Rattle.octets.specs.Refusals.{passes_end, no_count, out_of_range}
use Rattle.layouts.specs.Groups.{values, fits, Group}
use Rattle.layouts.specs.Formats.{Format, stop, Trace, fits_in, got}
use Rattle.layouts.specs.Offsets.{run_at, trace_at, groups_at}
use Rattle.layouts.specs.Layouts.{octet, times, counted, format, entry_octets}
use Rattle.layouts.specs.Tables.{counter, version, layout}
use Rattle.items.specs.Typed.{val, placed, given_trace, given_refusal, given, place_of, trace_of, item_refusal, item_octets, size_of, listed_size, size_listed, field_of}
use Rattle.items.proofs.Entries.{entries-free}
use Rattle.layouts.proofs.Windows.{run_trace}
use Rattle.items.proofs.Items.{item_of, run-next, run-enough, run_past, typed_trace}
use Rattle.layouts.specs.declared.category.Field.{Field}
use Rattle.layouts.specs.declared.ends.Kind.{Kind}
use Rattle.layouts.specs.declared.ends.Kind.TheVariants.{Spare, Fixed, Extended, Repeated, Explicit}
use Rattle.items.specs.Size.{Size}
use Rattle.layouts.specs.declared.form.Form.{Form}
use Rattle.layouts.specs.declared.form.Form.TheVariants as form
use Rattle.items.specs.declared.typed.Item.{Item}
use Rattle.items.specs.declared.typed.Item.TheVariants as item
use Rattle.items.specs.declared.typed.Place.{Place}

below-is : (n : ℕ) → ltb n 256 ≡ leb n 255
below-is n = go (leb n 255) refl
  where
    go : (b : Bool) → leb n 255 ≡ b → ltb n 256 ≡ b
    go true e = lt-ltb n 256 (omega (arith, leb-true n 255 e))
    go false e = le-ltb n 256 (omega (arith, leb-false n 255 e))

-- a count that is not zero: it fits its octet, and the groups fit
counted-fits : (e n : ℕ) (g : Group) (tr : Trace) → eqb n 0 ≡ false → fits_in (counted e g) (((n + e) ∷ []) ∷ tr) ≡ (leb (n + e) 255 && fits_in (times n g) tr)
unfolding fits_in counted fits
counted-fits e n g tr h =
    let more : leb (n + e) e ≡ false = lt-leb (n + e) e (omega (arith, eqb-false n 0 h)) in
    rw (more, add-sub_cancel, below-is) (simp and-true)

module _ (s : List ℕ) (e : ℕ) (g : Group) (p : Place) where
  -- 7, 8, and 11 for the count or an entry
  pub placed-refusal : given_refusal s (counted e g) (placed e g p)
      ≡ pick (ltb (length s) (p.at + p.count * g.wide)) passes_end
      (pick (eqb p.count 0) no_count
      (pick (leb (p.count + e) 255 && fits_in (times p.count g) (groups_at p.count g s p.at)) 0 out_of_range))
  placed-refusal = ap (pick (ltb (length s) (p.at + p.count * g.wide)) passes_end) (go (eqb p.count 0) refl)
    where
      go : (b : Bool) → eqb p.count 0 ≡ b
          → pick b no_count (pick (fits_in (counted e g) (given_trace s (placed e g p))) 0 out_of_range)
          ≡ pick b no_count (pick (leb (p.count + e) 255 && fits_in (times p.count g) (groups_at p.count g s p.at)) 0 out_of_range)
      go true h = refl
      go false h = rw (counted-fits e p.count g (groups_at p.count g s p.at) h)

-- an item that was read is refused for nothing but its values
module _ (s : List ℕ) (len : ℕ) (fit : len ≤ length s) where
  times-room : (n : ℕ) (g : Group) (at : ℕ) (tr : Trace) (q : ℕ) → at ≤ len → run_at s len (times n g) at ≡ got tr q → at + n * g.wide ≤ len
  unfolding times
  times-room zero g at tr q l h = omega (arith, zero-mul g.wide)
  times-room (suc n) g at tr q l h =
      let w = run-next s len g (λ v. times n g) at tr q h in
      let enough = run-enough s len g (λ v. times n g) at tr q h in
      omega (arith, suc-mul n g.wide, times-room n g (at + g.wide) w.0 q (omega arith) w.1)

  module _ (e : ℕ) (g : Group) (at : ℕ) (tr : Trace) (q : ℕ) (h : run_at s len (counted e g) at ≡ got tr q) where
    pub counted-read : (e < val tr 0 0) × (at + 1 + (val tr 0 0 - e) * g.wide ≤ len)
    unfolding counted trace_at values
    counted-read =
        let n = number 1 s at / 1 % 256 in
        let k : List ℕ → Format = λ v. pick (leb (get_or v 0 0) e) (stop no_count) (times (get_or v 0 0 - e) g) in
        let w = run-next s len octet k at tr q h in
        let more : leb n e ≡ false = run_past s len (leb n e) no_count (times (n - e) g) (at + 1) w.0 q w.1 in
        let entries : run_at s len (times (n - e) g) (at + 1) ≡ got w.0 q = rw more at w.1 in
        let enough = run-enough s len octet k at tr q h in
        rw (run_trace s len (counted e g) at tr q h)
        (leb-false n e more, times-room (n - e) g (at + 1) w.0 q (omega arith) entries)

    placed-read : (f : Format) (c : ℕ) → c ≡ val tr 0 0 - e → given_trace s (placed e g (record { at = at + 1; count = c })) ≡ tr
        → given_refusal s f (placed e g (record { at = at + 1; count = c })) ≡ pick (fits_in f tr) 0 out_of_range
    placed-read f c is same =
        let inside : at + 1 + c * g.wide ≤ length s = rw is (omega (arith, counted-read.1)) in
        rw (
          le-ltb (length s) (at + 1 + c * g.wide) inside,
          ne_eqb c 0 (λ z. omega (arith, counted-read.0)),
          same,
        )

  same : (f : Form) (at : ℕ) (tr : Trace) (q : ℕ) → run_at s len (format (layout f)) at ≡ got tr q
      → pick (fits_in (format (layout f)) (trace_of s (item_of f tr (at + 1)))) 0 out_of_range ≡ pick (fits_in (format (layout f)) tr) 0 out_of_range
  same f at tr q h = ap (λ (t : Trace). pick (fits_in (format (layout f)) t) 0 out_of_range) (typed_trace s len f at tr q h)

  pub read-refusal : (f : Form) (at : ℕ) (tr : Trace) (q : ℕ) → run_at s len (format (layout f)) at ≡ got tr q
      → item_refusal s (item_of f tr (at + 1)) ≡ pick (fits_in (format (layout f)) tr) 0 out_of_range
  unfolding format
  read-refusal form.Spare at tr q h = same form.Spare at tr q h
  read-refusal form.Source at tr q h = same form.Source at tr q h
  read-refusal form.MessageType at tr q h = same form.MessageType at tr q h
  read-refusal form.Service at tr q h = same form.Service at tr q h
  read-refusal form.Identification at tr q h = same form.Identification at tr q h
  read-refusal form.Time at tr q h = same form.Time at tr q h
  read-refusal form.Batch at tr q h = same form.Batch at tr q h
  read-refusal form.Sdps at tr q h = same form.Sdps at tr q h
  read-refusal form.Report at tr q h = same form.Report at tr q h
  read-refusal form.Station at tr q h = same form.Station at tr q h
  read-refusal form.Configuration at tr q h = same form.Configuration at tr q h
  read-refusal form.Range at tr q h = same form.Range at tr q h
  read-refusal form.Status at tr q h = same form.Status at tr q h
  read-refusal form.Statistics at tr q h = placed-read 0 counter at tr q h (counted 0 counter) (val tr 0 0) (sym (sub-zero _)) (typed_trace s len form.Statistics at tr q h)
  read-refusal form.Versions at tr q h = placed-read 0 version at tr q h (counted 0 version) (val tr 0 0) (sym (sub-zero _)) (typed_trace s len form.Versions at tr q h)
  read-refusal form.Expansion at tr q h = placed-read 1 octet at tr q h (counted 1 octet) (val tr 0 0 - 1) refl (typed_trace s len form.Expansion at tr q h)
  read-refusal form.Purpose at tr q h = placed-read 1 octet at tr q h (counted 1 octet) (val tr 0 0 - 1) refl (typed_trace s len form.Purpose at tr q h)

-- 7, 8, 11 in their order
abbrev pub three : Bool → Bool → Bool → ℕ
three a b c = pick a passes_end (pick b no_count (pick c 0 out_of_range))

-- a number that refuses is not asked further
pub three_refuses : (a b c d : Bool) → (three a b c ≡ 0 → ⊥) → three a b c ≡ three a b (c && d)
three_refuses true b c d h = refl
three_refuses false true c d h = refl
three_refuses false false true d h = absurd (h refl)
three_refuses false false false d h = refl

pub three-accepts : (a b c d : Bool) → three a b c ≡ 0 → three a b (c && d) ≡ pick d 0 out_of_range
three-accepts true b c d h = absurd (omega arith)
three-accepts false true c d h = absurd (omega arith)
three-accepts false false true d h = refl
three-accepts false false false d h = absurd (omega arith)

pub three-lies : (a b c : Bool) → three a b c ≡ 0 → a ≡ false
three-lies true b c h = absurd (omega arith)
three-lies false b c h = refl

-- entries or content of which every value fits
pub free-refusal : (s : List ℕ) (e size : ℕ) (g : Group) (p : Place) → ((x : ℕ) → fits g.parts (values g.parts x) ≡ true) → size ≡ g.wide
    → three (ltb (length s) (p.at + p.count * size)) (eqb p.count 0) (leb (p.count + e) 255) ≡ given_refusal s (counted e g) (placed e g p)
free-refusal s e size g p free is = sym (placed-refusal s e g p ∙ rw (entries-free p.count g s p.at free, is) (simp and-true))

-- versions: what refuses their place, and then their values
module _ (s : List ℕ) (p : Place) (size n : ℕ) (is : size ≡ version.wide)
    (h : n ≡ three (ltb (length s) (p.at + p.count * size)) (eqb p.count 0) (leb (p.count + 0) 255)) where
  abbrev passes : Bool
  passes = ltb (length s) (p.at + p.count * version.wide)

  at_place : n ≡ three passes (eqb p.count 0) (leb (p.count + 0) 255)
  at_place = rw is at h

  pub versions-refused : (n ≡ 0 → ⊥) → n ≡ item_refusal s (item.Versions p)
  unfolding format
  versions-refused some =
      at_place
      ∙ three_refuses passes (eqb p.count 0) (leb (p.count + 0) 255) (fits_in (times p.count version) (groups_at p.count version s p.at)) (λ z. some (at_place ∙ z))
      ∙ sym (placed-refusal s 0 version p)

  pub versions-judged : n ≡ 0 → (d : Bool) → d ≡ fits_in (times p.count version) (groups_at p.count version s p.at) → pick d 0 out_of_range ≡ item_refusal s (item.Versions p)
  unfolding format
  versions-judged z d e =
      rw e (sym (placed-refusal s 0 version p ∙ three-accepts passes (eqb p.count 0) (leb (p.count + 0) 255) (fits_in (times p.count version) (groups_at p.count version s p.at)) (sym at_place ∙ z)))

-- the octets of an entry, as the code comes by them
pub entry-size : (f : Field) (i j : Item) (size : ℕ) → size ≡ entry_octets f.1 → f ≡ field_of i → i ≡ j → size ≡ entry_octets (field_of j).1
entry-size f i j size h e is = h ∙ ap (λ (x : Field). entry_octets x.1) e ∙ ap (λ (x : Item). entry_octets (field_of x).1) is

-- where the entries or content of an item that is not refused lie, and how many there are
abbrev pub Room : List ℕ → Place → Kind → Type 0
Room s p Spare = Unit {0}
Room s p (Fixed n) = Unit {0}
Room s p (Extended n m) = Unit {0}
Room s p (Repeated n) = (p.at + p.count * n ≤ length s) × (p.count + 0 ≤ 255)
Room s p Explicit = (p.at + p.count * 1 ≤ length s) × (p.count + 1 ≤ 255)

three-counts : (a b c d : Bool) → three a b (c && d) ≡ 0 → c ≡ true
three-counts true b c d h = absurd (omega arith)
three-counts false true c d h = absurd (omega arith)
three-counts false false true d h = refl
three-counts false false false d h = absurd (omega arith)

module _ (s : List ℕ) where
  placed-room : (e : ℕ) (g : Group) (p : Place) → given_refusal s (counted e g) (placed e g p) ≡ 0 → (p.at + p.count * g.wide ≤ length s) × (p.count + e ≤ 255)
  placed-room e g p h =
      let z = sym (placed-refusal s e g p) ∙ h in
      let passes = ltb (length s) (p.at + p.count * g.wide) in
      let few = leb (p.count + e) 255 in
      let fit = fits_in (times p.count g) (groups_at p.count g s p.at) in
      (ltb-false _ _ (three-lies passes (eqb p.count 0) (few && fit) z), leb-true _ _ (three-counts passes (eqb p.count 0) few fit z))

  pub room_of : (i : Item) → item_refusal s i ≡ 0 → Room s (place_of (given i)) (field_of i).1
  unfolding format
  room_of item.Absent h = tt
  room_of (item.Source x) h = tt
  room_of (item.MessageType x) h = tt
  room_of (item.Service x) h = tt
  room_of (item.Identification x) h = tt
  room_of (item.Time x) h = tt
  room_of (item.Batch x) h = tt
  room_of (item.Sdps x) h = tt
  room_of (item.Report x) h = tt
  room_of (item.Station x) h = tt
  room_of (item.Configuration x) h = tt
  room_of (item.Range x) h = tt
  room_of (item.Status x) h = tt
  room_of (item.Statistics p) h = placed-room 0 counter p h
  room_of (item.Versions p) h = placed-room 0 version p h
  room_of (item.Expansion p) h = placed-room 1 octet p h
  room_of (item.Purpose p) h = placed-room 1 octet p h

-- what the writer is told of an item
module _ (s : List ℕ) (i : Item) (n : ℕ) (h : n ≡ item_refusal s i) where
  abbrev Told : Size → Type 0
  Told r = (r ≡ size_of s i) × (listed_size r ≡ size_listed s i)

  pub size-refused : (n ≡ 0 → ⊥) → Told (Size.Refused n)
  size-refused some = rw (h, ne_eqb (item_refusal s i) 0 (λ z. some (h ∙ z))) (refl, refl)

  pub size-octets : n ≡ 0 → (r : ℕ) → r ≡ length (item_octets s i) → Told (Size.Octets r)
  size-octets z r e = let none = sym h ∙ z in rw (e, none) (refl, refl)
