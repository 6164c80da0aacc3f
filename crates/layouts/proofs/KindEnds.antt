-- The end of an item by its kind is where reading by its format ends; an item that ends has an octet at least and lies within the
-- block. Assumes nothing.
use mathlib.Core.Path.{◌≡◌, refl, sym, ap, ◌∙◌, subst}
use mathlib.Core.Bool.{Bool, true, false, ◌&&◌, false≢true}
use mathlib.Core.List.{List, [], ◌∷◌}
use Prim.Native.Nat.{ℕ, zero, suc, ◌+◌, ◌*◌, ◌-◌, ◌%◌, ◌<◌, ◌≤◌}
use native.Mathlib.Nat.{suc-mul, zero-mul, add-zero, div-one}
use native.Mathlib.Omega.{arith}
use borrow.Author.Tests.{ltb-true, ltb-false, leb-true, leb-false, eqb-true, lt-ltb, le-ltb}
use lib.Dec.{ltb, leb, eqb}
use lib.ListN.{length, get_or}
use Rattle.octets.specs.Choice.{pick, odd}
use Rattle.octets.specs.Numbers.{Octets, number}
use Rattle.octets.specs.Refusals.{passes_end, no_count, past_last}
use Rattle.octets.proofs.Cases.{choose, both}
use Rattle.layouts.specs.Groups.{Part, spare, value, values, Group}
use Rattle.layouts.specs.Formats.{Parsed, refused, got, and_then, Format, done, stop, ask, Trace}
use Rattle.layouts.specs.Offsets.{run_at}
use Rattle.layouts.specs.Layouts.{Layout, unused, fixed, extended, repeated, explicit, octet, last_of, fx, times, chain, counted, format, kind_of}
use Rattle.layouts.specs.Ends.{listed_end, end_of, room_end, counted_end, chain_end, kind_end}
use Rattle.layouts.specs.Tables.{layout}
use Rattle.layouts.proofs.Parsed.{of_pick}
use Rattle.layouts.specs.End.{End}
use Rattle.layouts.specs.End.{At, Refused}
use Rattle.layouts.specs.declared.form.Form.{Form}
use Rattle.layouts.specs.declared.form.Form.TheVariants as form

-- an end, told with its number and value
pub end-told : {r e : End} → r ≡ e → (r ≡ e) × (listed_end r ≡ listed_end e)
end-told h = (h, ap listed_end h)

-- the last part is FX, a value of one bit
abbrev pub flagged : List Part → Bool
flagged [] = false
flagged (spare k ∷ ps) = flagged ps
flagged (value k ok ∷ []) = eqb k 1
flagged (value k ok ∷ p ∷ ps) = flagged (p ∷ ps)

-- extensions are octets with FX
abbrev pub extensions : List Group → Bool
extensions [] = true
extensions (h ∷ hs) = eqb h.wide 1 && (flagged h.parts && extensions hs)

-- a fixed item and a first part have an octet at least, and what may be extended has FX
abbrev pub sound : Layout → Bool
sound unused = true
sound (fixed g) = leb 1 g.wide
sound (extended g hs) = leb 1 g.wide && (flagged g.parts && extensions hs)
sound (repeated g) = true
sound explicit = true

pub forms-sound : (f : Form) → sound (layout f) ≡ true
forms-sound form.Spare = refl
forms-sound form.Source = refl
forms-sound form.MessageType = refl
forms-sound form.Service = refl
forms-sound form.Identification = refl
forms-sound form.Time = refl
forms-sound form.Batch = refl
forms-sound form.Sdps = refl
forms-sound form.Report = refl
forms-sound form.Station = refl
forms-sound form.Configuration = refl
forms-sound form.Range = refl
forms-sound form.Status = refl
forms-sound form.Statistics = refl
forms-sound form.Versions = refl
forms-sound form.Expansion = refl
forms-sound form.Purpose = refl

fx-behind : (ps : List Part) (v x : ℕ) → flagged ps ≡ true → last_of (v ∷ values ps x) ≡ x % 2
unfolding values
fx-behind [] v x h = absurd (false≢true h)
fx-behind (spare k ∷ ps) v x h = fx-behind ps v x h
fx-behind (value k ok ∷ []) v x h = rw (eqb-true k 1 h, div-one)
fx-behind (value k ok ∷ p ∷ ps) v x h = fx-behind (p ∷ ps) _ x h

last-behind : (vs : List ℕ) → last_of (0 ∷ vs) ≡ last_of vs
last-behind [] = refl
last-behind (v ∷ vs) = refl

-- FX is the low bit of its group's number
pub flagged-fx : (ps : List Part) (x : ℕ) → flagged ps ≡ true → last_of (values ps x) ≡ x % 2
flagged-fx ps x h = sym (last-behind (values ps x)) ∙ fx-behind ps 0 x h

-- the low bit of a number is that of its last octet
pub number-low : (k : ℕ) (s : List ℕ) (o : ℕ) → 1 ≤ k → number k s o % 2 ≡ get_or s (o + (k - 1)) 0 % 2
unfolding number
number-low zero s o h = absurd (omega arith)
number-low (suc k) s o h =
    let e : suc k - 1 ≡ k = omega arith in
    rw e (omega arith)

-- values put in front do not move the end
pub end_then : {A B : Type 0} (f : A → B) (m : Parsed ℕ A) → end_of (and_then m (λ a q. got (f a) q)) ≡ end_of m
end_then f (refused n) = refl
end_then f (got a q) = refl

module _ (len : ℕ) where
  pub none_left : (at : ℕ) → ltb (len - at) 1 ≡ leb len at
  none_left at = go (leb len at) refl
    where
      go : (b : Bool) → leb len at ≡ b → ltb (len - at) 1 ≡ b
      go true e = lt-ltb (len - at) 1 (omega (arith, leb-true len at e))
      go false e = le-ltb (len - at) 1 (omega (arith, leb-false len at e))

  -- room for a octets and then for b more
  room-two : (at a b : ℕ) → pick (ltb (len - at) a) (Refused passes_end) (room_end len (at + a) b) ≡ room_end len at (b + a)
  room-two at a b =
      let Same : End → Type 0 = λ r. r ≡ room_end len at (b + a) in
      choose Same (ltb (len - at) a)
      (λ s. rw (lt-ltb (len - at) (b + a) (omega (arith, ltb-true (len - at) a s))))
      (λ l. choose Same (ltb (len - (at + a)) b)
      (λ s. rw (lt-ltb (len - at) (b + a) (omega (arith, ltb-false (len - at) a l, ltb-true (len - (at + a)) b s))))
      (λ m.
      let same : at + a + b ≡ at + (b + a) = omega arith in
      rw (le-ltb (len - at) (b + a) (omega (arith, ltb-false (len - at) a l, ltb-false (len - (at + a)) b m)), same)))

  -- behind p, and within the block
  abbrev Inside : ℕ → End → Type 0
  Inside p (At q) = (p < q) × (q ≤ len)
  Inside p (Refused n) = Unit {0}

  room-inside : (p at size : ℕ) → at ≤ len → p < at + size → Inside p (room_end len at size)
  room-inside p at size l h = choose (Inside p) (ltb (len - at) size) (λ e. tt) (λ e. (h, omega (arith, ltb-false (len - at) size e)))

module _ (s : List ℕ) (len : ℕ) where
  abbrev end : Format → ℕ → End
  end f at = end_of (run_at s len f at)

  -- one group, and what follows
  end-ask : (g : Group) (k : List ℕ → Format) (at : ℕ)
      → end (ask g k) at
      ≡ pick (ltb (len - at) g.wide) (Refused passes_end) (end (k (values g.parts (number g.wide s at))) (at + g.wide))
  unfolding run_at
  end-ask g k at = of_pick end_of (ltb (len - at) g.wide) _ _ ∙ rw (end_then (λ (tr : Trace). values g.parts (number g.wide s at) ∷ tr))

  -- a group with FX, and what follows by it
  end-fx : (g : Group) (f : Format) (at : ℕ) → 1 ≤ g.wide → flagged g.parts ≡ true
      → end (ask g (λ v. pick (fx v) f done)) at
      ≡ pick (ltb (len - at) g.wide) (Refused passes_end)
      (pick (odd (get_or s (at + (g.wide - 1)) 0)) (end f (at + g.wide)) (At (at + g.wide)))
  unfolding run_at
  end-fx g f at wide h =
      end-ask g (λ v. pick (fx v) f done) at
      ∙ rw (
        flagged-fx g.parts (number g.wide s at) h,
        number-low g.wide s at wide,
        of_pick (λ (k : Format). end k (at + g.wide)) (odd (get_or s (at + (g.wide - 1)) 0)) f done,
      )

  pub end-chain : (n : ℕ) (g : Group) (hs : List Group) (at : ℕ) → 1 ≤ g.wide → (flagged g.parts && extensions hs) ≡ true
      → end_of (run_at s len (chain n g hs) at) ≡ chain_end s len n g.wide (length hs) at
  unfolding chain chain_end run_at
  end-chain n g [] at wide h = end-fx g (stop n) at wide (both (flagged g.parts) true h).0
  end-chain n g (k ∷ ks) at wide h =
      let rest = flagged k.parts && extensions ks in
      let b = both (flagged g.parts) (eqb k.wide 1 && rest) h in
      let c = both (eqb k.wide 1) rest b.1 in
      let one = eqb-true k.wide 1 c.0 in
      end-fx g (chain n k ks) at wide b.0 ∙ rw (end-chain n k ks (at + g.wide) (omega arith) c.1, one)

  end-times : (n : ℕ) (g : Group) (at : ℕ) → end (times n g) at ≡ room_end len at (n * g.wide)
  unfolding times run_at
  end-times zero g at = rw (zero-mul, le-ltb (len - at) 0 (omega arith), add-zero)
  end-times (suc n) g at =
      end-ask g (λ v. times n g) at ∙ rw (end-times n g (at + g.wide), suc-mul) (room-two len at g.wide (n * g.wide))

  module _ (o : Octets s) where
    pub count-is : (at : ℕ) → get_or (values octet.parts (number 1 s at)) 0 0 ≡ get_or s at 0
    unfolding values number
    count-is at = rw add-zero (omega (arith, o at))

    end-counted : (e : ℕ) (g : Group) (at : ℕ) → end (counted e g) at ≡ counted_end s len e g.wide at
    unfolding counted run_at
    end-counted e g at =
        let n = get_or s at 0 in
        end-ask octet (λ v. pick (leb (get_or v 0 0) e) (stop no_count) (times (get_or v 0 0 - e) g)) at
        ∙ rw (
          count-is,
          none_left,
          of_pick (λ (f : Format). end f (at + 1)) (leb n e) (stop no_count) (times (n - e) g),
          end-times,
        )

    pub kind_end_lem : (l : Layout) (at : ℕ) → sound l ≡ true → end_of (run_at s len (format l) at) ≡ kind_end s len (kind_of l) at
    unfolding format run_at
    kind_end_lem unused at h = refl
    kind_end_lem (fixed g) at h = end-ask g (λ v. done) at
    kind_end_lem (extended g hs) at h =
        let b = both (leb 1 g.wide) (flagged g.parts && extensions hs) h in
        end-chain past_last g hs at (leb-true 1 g.wide b.0) b.1
    kind_end_lem (repeated g) at h = end-counted 0 g at
    kind_end_lem explicit at h = end-counted 1 octet at

  chain-inside : (p n size more at : ℕ) → at ≤ len → p < at + size → Inside len p (chain_end s len n size more at)
  unfolding chain_end
  chain-inside p n size zero at l h =
      choose (Inside len p) (ltb (len - at) size) (λ e. tt)
      (λ e. choose (Inside len p) (odd (get_or s (at + (size - 1)) 0)) (λ o. tt) (λ o. (h, omega (arith, ltb-false (len - at) size e))))
  chain-inside p n size (suc more) at l h =
      choose (Inside len p) (ltb (len - at) size) (λ e. tt)
      (λ e.
      let m : at + size ≤ len = omega (arith, ltb-false (len - at) size e) in
      choose (Inside len p) (odd (get_or s (at + (size - 1)) 0)) (λ o. chain-inside p n 1 more (at + size) m (omega arith)) (λ o. (h, m)))

  counted-inside : (e size at : ℕ) → Inside len at (counted_end s len e size at)
  counted-inside e size at =
      choose (Inside len at) (leb len at) (λ a. tt)
      (λ a. choose (Inside len at) (leb (get_or s at 0) e) (λ b. tt)
      (λ b. room-inside len at (at + 1) ((get_or s at 0 - e) * size) (omega (arith, leb-false len at a)) (omega arith)))

  kind_inside : (l : Layout) (at : ℕ) → sound l ≡ true → at ≤ len → Inside len at (kind_end s len (kind_of l) at)
  kind_inside unused at h a = tt
  kind_inside (fixed g) at h a = room-inside len at at g.wide a (omega (arith, leb-true 1 g.wide h))
  kind_inside (extended g hs) at h a =
      let b = both (leb 1 g.wide) (flagged g.parts && extensions hs) h in
      chain-inside at past_last g.wide (length hs) at a (omega (arith, leb-true 1 g.wide b.0))
  kind_inside (repeated g) at h a = counted-inside 0 g.wide at
  kind_inside explicit at h a = counted-inside 1 1 at

  -- an item that ends has an octet at least, and lies within the block
  pub end-room : (f : Form) (at q : ℕ) → kind_end s len (kind_of (layout f)) at ≡ At q → at ≤ len → (at < q) × (q ≤ len)
  end-room f at q h a = subst (Inside len at) h (kind_inside (layout f) at (forms-sound f) a)
