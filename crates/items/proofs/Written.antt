-- The octets of an item that is not refused, by its kind: as the code writes them. Assumes nothing.
use mathlib.Core.Path.{◌≡◌, refl, sym, ap, ◌∙◌}
use mathlib.Core.Bool.{Bool, true, false, false≢true}
use mathlib.Core.List.{List, [], ◌∷◌, ◌++◌, append-nil}
use Prim.Native.Nat.{ℕ, ◌+◌, ◌-◌, ◌*◌, ◌%◌, ◌≤◌}
use native.Mathlib.Nat.{mul-one, add-sub_cancel}
use native.Mathlib.Omega.{arith}
use lib.Dec.{leb}
use lib.ListN.{length, get_or, length-append}
use borrow.Author.Tests.{eqb-true, eqb-false, eq-eqb}
use Rattle.octets.specs.Choice.{pick, when, odd}
use Rattle.octets.specs.Numbers.{octets, laid}
use Rattle.octets.specs.Refusals.{no_count, past_last}
use Rattle.layouts.specs.Groups.{merge, fits, Group}
use Rattle.layouts.specs.Formats.{Format, done, stop, ask, Trace, fits_in, put}
use Rattle.layouts.specs.Layouts.{Layout, unused, fixed, extended, repeated, explicit, fx, octet, times, chain, counted, format, kind_of, first_group, entry_group, entry_octets}
use Rattle.layouts.specs.Tables.{source, message_type, service, time, sdps, report, station, period, configuration, status, counter, version, layout}
use Rattle.items.specs.Typed.{Supply, given, first_number, second_number, place_of, form_of, field_of, counted_octets, item_refusal, item_octets}
use Rattle.octets.proofs.Laying.{laid-laid}
use Rattle.octets.proofs.Numbers.{length-octets}
use Rattle.octets.proofs.Cases.{both}
use Rattle.items.proofs.Entries.{entries-long}
use Rattle.layouts.proofs.Groups.{values-merge}
use Rattle.layouts.proofs.KindEnds.{flagged, flagged-fx}
use Rattle.items.proofs.ReadBack.{item-fits}
use Rattle.items.proofs.Judged.{Room, room_of}
use Rattle.layouts.specs.declared.category.Field.{Field}
use Rattle.layouts.specs.declared.ends.Kind.{Kind}
use Rattle.layouts.specs.declared.ends.Kind.TheVariants.{Spare, Fixed, Extended, Repeated, Explicit}
use Rattle.items.specs.declared.typed.Item.{Item}
use Rattle.items.specs.declared.typed.Item.TheVariants as item
use Rattle.items.specs.declared.typed.Place.{Place}

-- as the code writes an item: by its first number, its extension's and its place
abbrev pub octets_by : List ℕ → Layout → Supply → Kind → List ℕ
octets_by s l x Spare = []
octets_by s l x (Fixed n) = octets n (first_number (first_group l) x)
octets_by s l x (Extended n m) = octets n (first_number (first_group l) x) ++ when (odd (first_number (first_group l) x)) (octets 1 (second_number x))
octets_by s l x (Repeated n) = counted_octets s 0 (entry_group l) (place_of x)
octets_by s l x Explicit = counted_octets s 1 (entry_group l) (place_of x)

-- and as it counts them
abbrev pub length_by : Layout → Supply → Kind → ℕ
length_by l x Spare = 0
length_by l x (Fixed n) = n
length_by l x (Extended n m) = n + first_number (first_group l) x % 2
length_by l x (Repeated n) = 1 + (place_of x).count * n
length_by l x Explicit = 1 + (place_of x).count

-- one group
one : (g : Group) (v : List ℕ) → put (ask g (λ v. done)) (v ∷ []) [] ≡ octets g.wide (merge g.parts v 0)
unfolding put
one g v = append-nil _

-- a part, and its extension where FX of the part is set
module _ (g : Group) (v w : List ℕ) (flag : flagged g.parts ≡ true) (h : fits g.parts v ≡ true) where
  -- FX is the low bit of the part's number
  fx-low : fx v ≡ odd (merge g.parts v 0)
  fx-low = rw (← flagged-fx g.parts (merge g.parts v 0) flag, values-merge g.parts v 0 h)

  -- behind a last part there is nothing
  none : (b : Bool) → put (pick b (stop past_last) done) [] [] ≡ []
  unfolding put
  none true = refl
  none false = refl

  two : put (chain past_last g (period ∷ [])) (v ∷ when (fx v) (w ∷ [])) []
      ≡ octets g.wide (merge g.parts v 0) ++ when (odd (merge g.parts v 0)) (octets 1 (merge period.parts (get_or (v ∷ when (fx v) (w ∷ [])) 1 []) 0))
  unfolding put chain
  two = rw (← fx-low) (go (fx v))
    where
      first : List ℕ
      first = octets g.wide (merge g.parts v 0)

      go : (b : Bool) → first ++ put (pick b (chain past_last period []) done) (when b (w ∷ [])) []
          ≡ first ++ when b (octets 1 (merge period.parts (get_or (v ∷ when b (w ∷ [])) 1 []) 0))
      go true = ap (λ (l : List ℕ). first ++ l) (rw (none (fx w)) (append-nil _))
      go false = refl

-- a last part with FX clear: one group
last : (g : Group) (v : List ℕ) (x : ℕ) → flagged g.parts ≡ true → fits g.parts v ≡ true → fx v ≡ false
    → put (chain past_last g []) (v ∷ []) [] ≡ octets g.wide (merge g.parts v 0) ++ when (odd (merge g.parts v 0)) (octets 1 x)
unfolding put chain
last g v x flag h clear = rw (← fx-low g v [] flag h, clear)

-- a count octet and the groups behind it
module _ (e n : ℕ) (g : Group) (tr : Trace) where
  count-number : merge octet.parts ((n + e) ∷ []) 0 ≡ n + e
  unfolding merge
  count-number = omega arith

  counted-some : (b : Bool) (f : Format) → fits_in (pick b (stop no_count) f) tr ≡ true → b ≡ false
  unfolding fits_in
  counted-some true f h = absurd (false≢true h)
  counted-some false f h = refl

  counted-put : fits_in (counted e g) (((n + e) ∷ []) ∷ tr) ≡ true
      → put (counted e g) (((n + e) ∷ []) ∷ tr) [] ≡ octets 1 (n + e) ++ put (times n g) tr []
  unfolding put fits_in counted
  counted-put h =
      let w = (both (fits octet.parts ((n + e) ∷ [])) _ h).1 in
      rw (count-number, counted-some (leb (n + e) e) (times (n + e - e) g) w, add-sub_cancel)

-- The octets of an item, by its kind.
module _ (s : List ℕ) where
  octets-by : (i : Item) → item_refusal s i ≡ 0 → item_octets s i ≡ octets_by s (layout (form_of i)) (given i) (kind_of (layout (form_of i)))
  unfolding format fits_in chain put
  octets-by item.Absent h = refl
  octets-by (item.Source x) h = one source _
  octets-by (item.MessageType x) h = one message_type _
  octets-by (item.Service x) h = one service _
  octets-by (item.Identification x) h = one octet _
  octets-by (item.Time x) h = one time _
  octets-by (item.Batch x) h = one octet _
  octets-by (item.Sdps x) h = one sdps _
  octets-by (item.Report x) h = one report _
  octets-by (item.Station x) h = two station _ (x.gssp.0 ∷ 0 ∷ []) refl (both (fits station.parts _) _ (item-fits s (item.Station x) h)).0
  octets-by (item.Configuration x) h = two configuration _ (x.ssrp.0 ∷ 0 ∷ []) refl (both (fits configuration.parts _) _ (item-fits s (item.Configuration x) h)).0
  octets-by (item.Range x) h = one octet _
  octets-by (item.Status x) h = last status _ _ refl (both (fits status.parts _) _ (item-fits s (item.Status x) h)).0 refl
  octets-by (item.Statistics p) h = counted-put 0 p.count counter _ (item-fits s (item.Statistics p) h)
  octets-by (item.Versions p) h = counted-put 0 p.count version _ (item-fits s (item.Versions p) h)
  octets-by (item.Expansion p) h = counted-put 1 p.count octet _ (item-fits s (item.Expansion p) h)
  octets-by (item.Purpose p) h = counted-put 1 p.count octet _ (item-fits s (item.Purpose p) h)

  counted-long : (e : ℕ) (g : Group) (p : Place) → length (counted_octets s e g p) ≡ 1 + p.count * g.wide
  counted-long e g p = rw (length-append, length-octets, entries-long)

  extended-long : (n x y : ℕ) → length (octets n x ++ when (odd x) (octets 1 y)) ≡ n + x % 2
  extended-long n x y = rw (length-append, length-octets) (ap (λ (k : ℕ). n + k) (go (odd x) refl))
    where
      go : (b : Bool) → odd x ≡ b → length (when b (octets 1 y)) ≡ x % 2
      go true e = length-octets 1 y ∙ sym (eqb-true (x % 2) 1 e)
      go false e = let z = eqb-false (x % 2) 1 e in omega arith

  by-long : (l : Layout) (x : Supply) → length (octets_by s l x (kind_of l)) ≡ length_by l x (kind_of l)
  by-long unused x = refl
  by-long (fixed g) x = length-octets g.wide _
  by-long (extended g hs) x = extended-long g.wide (first_number g x) (second_number x)
  by-long (repeated g) x = counted-long 0 g (place_of x)
  by-long explicit x = counted-long 1 octet (place_of x) ∙ ap (λ (n : ℕ). 1 + n) (mul-one (place_of x).count)

  -- and how many they are
  length-by : (i : Item) → item_refusal s i ≡ 0 → length (item_octets s i) ≡ length_by (layout (form_of i)) (given i) (kind_of (layout (form_of i)))
  length-by i h = ap length (octets-by i h) ∙ by-long (layout (form_of i)) (given i)

  wide_of : (l : Layout) → (entry_group l).wide ≡ entry_octets (kind_of l)
  wide_of unused = refl
  wide_of (fixed g) = refl
  wide_of (extended g hs) = refl
  wide_of (repeated g) = refl
  wide_of explicit = refl

  -- the same, of a field and its kind as the code comes by them
  module _ (i : Item) (f : Field) (k : Kind) (is : f ≡ field_of i) (h : item_refusal s i ≡ 0) (told : f.1 ≡ k) where
    kind_is : (field_of i).1 ≡ k
    kind_is = sym (ap (λ (x : Field). x.1) is) ∙ told

    pub octets-at : item_octets s i ≡ octets_by s (layout (form_of i)) (given i) k
    octets-at = octets-by i h ∙ ap (octets_by s (layout (form_of i)) (given i)) kind_is

    pub length_at : length (item_octets s i) ≡ length_by (layout (form_of i)) (given i) k
    length_at = length-by i h ∙ ap (length_by (layout (form_of i)) (given i)) kind_is

    pub room_at : (p : Place) → p ≡ place_of (given i) → Room s p k
    room_at p e = rw (e, ← kind_is) (room_of s i h)

    -- octets laid that are the item's, and the offset behind them
    pub put-at : (l out p : List ℕ) (at r n : ℕ) → out ≡ laid l at p → p ≡ octets_by s (layout (form_of i)) (given i) k → r ≡ at + n → n ≡ length_by (layout (form_of i)) (given i) k
        → (out ≡ laid l at (item_octets s i)) × (r ≡ at + length (item_octets s i))
    put-at l out p at r n is-out is-p is-r is-n =
        (is-out ∙ ap (laid l at) (is-p ∙ sym octets-at), is-r ∙ ap (λ (m : ℕ). at + m) (is-n ∙ sym length_at))

    -- entries have the octets that the kind says
    pub entry-wide : entry_octets k ≡ (entry_group (layout f.0)).wide
    entry-wide = rw is (ap entry_octets (sym kind_is) ∙ sym (wide_of (layout (form_of i))))

-- octets laid behind others: the two writes of the code
module _ (l l1 : List ℕ) (o k v : ℕ) (first : l1 ≡ laid l o (octets k v)) where
  pub laid-behind : (l2 q : List ℕ) → l2 ≡ laid l1 (o + k) q → o + k ≤ length l → l2 ≡ laid l o (octets k v ++ q)
  laid-behind l2 q second room =
      let n : length (octets k v) ≡ k = length-octets k v in
      let fit : o + length (octets k v) ≤ length l = rw n room in
      second ∙ rw first (rw n at (laid-laid l o (octets k v) q fit))

  pub laid-extended : (l2 y : List ℕ) → l2 ≡ laid l1 (o + k) y → o + k ≤ length l → v % 2 ≡ 1 → l2 ≡ laid l o (octets k v ++ when (odd v) y)
  laid-extended l2 y second room e = rw (eq-eqb (v % 2) 1 e) (laid-behind l2 y second room)
