-- The refusal numbers of reading, each "given when, and only then" (01 "Refusal numbers"): of the header, a specification and an item.
-- Those of a record are in RecordFaults. Assumes nothing.
use mathlib.Core.Path.{◌≡◌, refl, sym, ◌∙◌, subst}
use mathlib.Core.Bool.{Bool, true, false, ◌&&◌, false≢true, true≢false}
use mathlib.Core.List.{List}
use mathlib.Core.Logic.Iff
use mathlib.Core.Logic.{◌↔◌, ◌⊎◌, inl, inr}
use Prim.Native.Nat.{ℕ, zero, suc, ◌+◌, ◌*◌, ◌-◌, ◌≤◌, ◌<◌}
use native.Mathlib.Nat.{add-zero, sub-zero}
use native.Mathlib.Omega.{arith}
use borrow.Author.Tests.{ltb-true, ltb-false, leb-true, leb-false, eqb-true, eqb-false, lt-ltb, le-ltb}
use lib.Dec.{ltb, leb, eqb}
use lib.ListN.{length, get_or}
use Rattle.octets.specs.Choice.{pick, odd}
use Rattle.octets.specs.Numbers.{Octets, number}
use Rattle.octets.proofs.Cases.{choose, both}
use Rattle.layouts.specs.Formats.{Parsed, refused, got, and_then, Format, Trace, fits_in}
use Rattle.layouts.specs.Offsets.{run_at, item_at}
use Rattle.layouts.specs.Layouts.{Layout, unused, fixed, extended, repeated, explicit, is_unused, format, kind_of}
use Rattle.layouts.specs.Ends.{end_of, room_end, counted_end, chain_end, kind_end}
use Rattle.layouts.specs.Tables.{layout}
use Rattle.layouts.specs.Categories.{Category, known}
use Rattle.layouts.proofs.KindEnds.{sound, forms-sound, flagged, extensions, kind_end_lem}
use Rattle.layouts.proofs.Windows.{run_trace}
use Rattle.layouts.specs.End.{End}
use Rattle.layouts.specs.End.{At, Refused}
use Rattle.layouts.specs.declared.ends.Kind.{Kind}
use Rattle.layouts.specs.declared.ends.Kind.TheVariants.{Spare, Fixed, Extended, Repeated, Explicit}
use Rattle.layouts.specs.declared.form.Form.{Form}
use Rattle.blocks.specs.Headers.{header_of}
use Rattle.blocks.specs.Offsets.{specification_at}
use Rattle.blocks.specs.Faults.{TooShort, Unknown, LenLow, FxSet, Passes, NoCount, PastLast, OutOfRange, Long, Cut}
use Rattle.blocks.specs.Head.{Head}
use Rattle.blocks.proofs.HeaderLaws.{header_cases, Headed}
use Rattle.blocks.proofs.MarksLaws.{spec-end}

-- A case of a reading: it has the answer and the reason, or neither
pub both_hold : {X A : Type 0} {x : X} → A → (x ≡ x) ↔ A
both_hold a = (λ e. a, λ b. refl)

pub neither : {X A : Type 0} {x y : X} → (x ≡ y → ⊥) → (A → ⊥) → (x ≡ y) ↔ A
neither f g = (λ e. absurd (f e), λ a. absurd (g a))

-- The header

head-differs : {n m : ℕ} → (n ≡ m → ⊥) → Head.Refused n ≡ Head.Refused m → ⊥
head-differs d e = d (cc)

head-good : {n cat len : ℕ} → Head.Good cat len ≡ Head.Refused n → ⊥
head-good e = let z : ◌≡◌ {A = ℕ} 0 1 = cc in omega arith

module _ (s : List ℕ) where
  abbrev cat : ℕ
  cat = get_or s 0 0

  abbrev len_of : ℕ
  len_of = number 2 s 1

  cut_or_short : known cat ≡ true → 4 ≤ len_of → length s < len_of → TooShort s
  cut_or_short k four l = go (ltb (length s) 3) refl
    where
      go : (b : Bool) → ltb (length s) 3 ≡ b → TooShort s
      go true e = inl (ltb-true (length s) 3 e)
      go false e = inr (ltb-false (length s) 3 e, k, four, l)

  -- "1: fewer than 3 octets, or LEN beyond the octets lent"
  pub header_given_1 : (header_of s ≡ Head.Refused 1) ↔ TooShort s
  header_given_1 =
      header_cases s (λ (h : Head). (h ≡ Head.Refused 1) ↔ TooShort s)
      (λ l. both_hold (inl l))
      (λ l k. neither (head-differs (λ e. omega arith)) (unknown l k))
      (λ l k low. neither (head-differs (λ e. omega arith)) (too_low l low))
      (λ k four l. both_hold (cut_or_short k four l))
      (λ w. neither head-good (fitting w))
    where
      unknown : 3 ≤ length s → known cat ≡ false → TooShort s → ⊥
      unknown l k (inl h) = omega arith
      unknown l k (inr h) = false≢true (sym k ∙ h.1)

      too_low : 3 ≤ length s → len_of < 4 → TooShort s → ⊥
      too_low l low (inl h) = omega arith
      too_low l low (inr h) = omega arith

      fitting : Headed s cat len_of → TooShort s → ⊥
      fitting w (inl h) = omega arith
      fitting w (inr h) = omega arith

  -- "2: category other than 23, 65, 242"
  pub header_given_2 : (header_of s ≡ Head.Refused 2) ↔ Unknown s
  header_given_2 =
      header_cases s (λ (h : Head). (h ≡ Head.Refused 2) ↔ Unknown s)
      (λ l. neither (head-differs (λ e. omega arith)) (λ u. omega arith))
      (λ l k. both_hold (l, k))
      (λ l k low. neither (head-differs (λ e. omega arith)) (λ u. false≢true (sym u.1 ∙ k)))
      (λ k four l. neither (head-differs (λ e. omega arith)) (λ u. false≢true (sym u.1 ∙ k)))
      (λ w. neither head-good (λ u. false≢true (sym u.1 ∙ w.known)))

  -- "3: LEN below 4"
  pub header_given_3 : (header_of s ≡ Head.Refused 3) ↔ LenLow s
  header_given_3 =
      header_cases s (λ (h : Head). (h ≡ Head.Refused 3) ↔ LenLow s)
      (λ l. neither (head-differs (λ e. omega arith)) (λ u. omega arith))
      (λ l k. neither (head-differs (λ e. omega arith)) (λ u. false≢true (sym k ∙ u.1)))
      (λ l k low. both_hold (l, k, low))
      (λ k four l. neither (head-differs (λ e. omega arith)) (λ u. omega arith))
      (λ w. neither head-good (λ u. omega arith))

  -- no other number refuses a header
  pub header_refusals : (n : ℕ) → header_of s ≡ Head.Refused n → (1 ≤ n) × (n ≤ 3)
  header_refusals n =
      header_cases s (λ (h : Head). h ≡ Head.Refused n → (1 ≤ n) × (n ≤ 3))
      (λ l e. is 1 e (omega arith))
      (λ l k e. is 2 e (omega arith))
      (λ l k low e. is 3 e (omega arith))
      (λ k four l e. is 1 e (omega arith))
      (λ w e. absurd (head-good e))
    where
      is : (m : ℕ) → Head.Refused m ≡ Head.Refused n → (1 ≤ m) × (m ≤ 3) → (1 ≤ n) × (n ≤ 3)
      is m e h = let z : m ≡ n = cc in omega arith

-- Ends

differs : {n m : ℕ} → (n ≡ m → ⊥) → Refused n ≡ Refused m → ⊥
differs d e = d (cc)

at-refused : {q n : ℕ} → At q ≡ Refused n → ⊥
at-refused e = let z : ◌≡◌ {A = ℕ} 0 1 = cc in omega arith

refused_end : {A : Type 0} (m : Parsed ℕ A) (n : ℕ) → (m ≡ refused n) ↔ (end_of m ≡ Refused n)
refused_end (refused k) n = (λ e. cc, λ e. cc)
refused_end (got a q) n = neither (λ e. (let z : ◌≡◌ {A = ℕ} 0 1 = cc in omega arith)) at-refused

-- a first part has an octet at least
abbrev Sized : Kind → Type 0
Sized Spare = Unit {0}
Sized (Fixed size) = 1 ≤ size
Sized (Extended size more) = 1 ≤ size
Sized (Repeated size) = Unit {0}
Sized Explicit = Unit {0}

module _ (s : List ℕ) (len : ℕ) where
  -- one octet with FX more in front, or less
  fx-more : (n at : ℕ) → at < len → odd (get_or s (at + 0) 0) ≡ true → FxSet s len n (at + 1) → FxSet s len (suc n) at
  fx-more n at l f h zero k = (omega arith, f)
  fx-more n at l f h (suc j) k = let e : at + 1 + j ≡ at + suc j = omega arith in rw e at (h j (omega arith))

  fx-less : (n at : ℕ) → FxSet s len (suc n) at → FxSet s len n (at + 1)
  fx-less n at h j k = let e : at + suc j ≡ at + 1 + j = omega arith in rw e at (h (suc j) (omega arith))

  -- A chain of octets, m more behind the first; r refuses FX in the last

  -- n octets have FX and the next is not there
  abbrev Stops : ℕ → ℕ → Type 0
  Stops m at = (n : ℕ) × (n < suc m) × FxSet s len n at × (len ≤ at + n)

  module _ (at : ℕ) (l : at < len) where
    stops-more : (m : ℕ) → odd (get_or s (at + 0) 0) ≡ true → Stops m (at + 1) ↔ Stops (suc m) at
    stops-more m f = (λ w. (suc w.0, omega arith, fx-more w.0 at l f w.2, omega arith), λ w. go w.0 w.1 w.2 w.3)
      where
        go : (n : ℕ) → n < suc (suc m) → FxSet s len n at → len ≤ at + n → Stops m (at + 1)
        go zero k h e = absurd (omega arith)
        go (suc n) k h e = (n, omega arith, fx-less n at h, omega arith)

    stops_not : (m : ℕ) → odd (get_or s (at + 0) 0) ≡ false → Stops m at → ⊥
    stops_not m f w = go w.0 w.2 w.3
      where
        go : (n : ℕ) → FxSet s len n at → len ≤ at + n → ⊥
        go zero h e = omega arith
        go (suc n) h e = false≢true (sym f ∙ (h 0 (omega arith)).1)

    long-more : (m : ℕ) → odd (get_or s (at + 0) 0) ≡ true → FxSet s len m (at + 1) ↔ FxSet s len (suc m) at
    long-more m f = (fx-more m at l f, fx-less m at)

    long_not : (m : ℕ) → odd (get_or s (at + 0) 0) ≡ false → FxSet s len (suc m) at → ⊥
    long_not m f h = false≢true (sym f ∙ (h 0 (omega arith)).1)

  module _ (r : ℕ) (other : r ≡ 7 → ⊥) where
    octets_7 : (m at : ℕ) → (chain_end s len r 1 m at ≡ Refused 7) ↔ Stops m at
    unfolding chain_end
    octets_7 zero at =
        let Same : End → Type 0 = λ e. (e ≡ Refused 7) ↔ Stops 0 at in
        choose Same (ltb (len - at) 1)
        (λ a. both_hold (0, omega arith, (λ j k. absurd (omega arith)), omega (arith, ltb-true (len - at) 1 a)))
        (λ a. let l : at < len = omega (arith, ltb-false (len - at) 1 a) in
        choose Same (odd (get_or s (at + 0) 0))
        (λ f. neither (differs other) (λ w. omega arith))
        (λ f. neither at-refused (λ w. omega arith)))
    octets_7 (suc m) at =
        let Same : End → Type 0 = λ e. (e ≡ Refused 7) ↔ Stops (suc m) at in
        choose Same (ltb (len - at) 1)
        (λ a. both_hold (0, omega arith, (λ j k. absurd (omega arith)), omega (arith, ltb-true (len - at) 1 a)))
        (λ a. let l : at < len = omega (arith, ltb-false (len - at) 1 a) in
        choose Same (odd (get_or s (at + 0) 0))
        (λ f. Iff.trans (octets_7 m (at + 1)) (stops-more at l m f))
        (λ f. neither at-refused (stops_not at l (suc m) f)))

    octets-long : (m at : ℕ) → (chain_end s len r 1 m at ≡ Refused r) ↔ FxSet s len (suc m) at
    unfolding chain_end
    octets-long zero at =
        let Same : End → Type 0 = λ e. (e ≡ Refused r) ↔ FxSet s len 1 at in
        choose Same (ltb (len - at) 1)
        (λ a. neither (differs (λ e. other (sym e))) (λ h. omega (arith, ltb-true (len - at) 1 a, h 0 (omega arith))))
        (λ a. let l : at < len = omega (arith, ltb-false (len - at) 1 a) in
        choose Same (odd (get_or s (at + 0) 0))
        (λ f. both_hold (fx-more 0 at l f (λ j k. absurd (omega arith))))
        (λ f. neither at-refused (long_not at l 0 f)))
    octets-long (suc m) at =
        let Same : End → Type 0 = λ e. (e ≡ Refused r) ↔ FxSet s len (suc (suc m)) at in
        choose Same (ltb (len - at) 1)
        (λ a. neither (differs (λ e. other (sym e))) (λ h. omega (arith, ltb-true (len - at) 1 a, h 0 (omega arith))))
        (λ a. let l : at < len = omega (arith, ltb-false (len - at) 1 a) in
        choose Same (odd (get_or s (at + 0) 0))
        (λ f. Iff.trans (octets-long m (at + 1)) (long-more at l (suc m) f))
        (λ f. neither at-refused (long_not at l (suc m) f)))

  -- 7, or the number for FX in the last
  abbrev Either : ℕ → End → Type 0
  Either r (At q) = Unit {0}
  Either r (Refused n) = (n ≡ 7) ⊎ (n ≡ r)

  chain_refusals : (r size m at : ℕ) → Either r (chain_end s len r size m at)
  unfolding chain_end
  chain_refusals r size zero at =
      choose (Either r) (ltb (len - at) size) (λ a. inl refl)
      (λ a. choose (Either r) (odd (get_or s (at + (size - 1)) 0)) (λ f. inr refl) (λ f. tt))
  chain_refusals r size (suc m) at =
      choose (Either r) (ltb (len - at) size) (λ a. inl refl)
      (λ a. choose (Either r) (odd (get_or s (at + (size - 1)) 0)) (λ f. chain_refusals r 1 m (at + size)) (λ f. tt))

  -- A specification
  module _ (c : Category) (some : 1 ≤ c.most) (at : ℕ) where
    abbrev specification : Parsed ℕ (List ℕ)
    specification = specification_at s len (c.most - 1) at

    all : suc (c.most - 1) ≡ c.most
    all = omega arith

    spec-given : (n : ℕ) → (specification ≡ refused n) ↔ (chain_end s len 4 1 (c.most - 1) at ≡ Refused n)
    spec-given n = rw (← spec-end s len (c.most - 1) at) (refused_end specification n)

    -- "4: FX set in the last specification octet allowed"
    pub spec-given_4 : (specification ≡ refused 4) ↔ Long s len c at
    spec-given_4 = Iff.trans (spec-given 4) (rw all at (octets-long 4 (λ e. omega arith) (c.most - 1) at))

    -- "7: a specification or item passes LEN"
    pub spec-given_7 : (specification ≡ refused 7) ↔ Cut s len c at
    spec-given_7 = Iff.trans (spec-given 7) (rw all at (octets_7 4 (λ e. omega arith) (c.most - 1) at))

    -- no other number refuses a specification
    pub spec_refusals : (n : ℕ) → specification ≡ refused n → (n ≡ 4) ⊎ (n ≡ 7)
    spec_refusals n h = go (subst (Either 4) ((spec-given n).0 h) (chain_refusals 4 1 (c.most - 1) at))
      where
        go : (n ≡ 7) ⊎ (n ≡ 4) → (n ≡ 4) ⊎ (n ≡ 7)
        go (inl e) = inr e
        go (inr e) = inl e

  -- An item, by its kind

  chain-short : (r size more at : ℕ) → len - at < size → chain_end s len r size more at ≡ Refused 7
  unfolding chain_end
  chain-short r size zero at h = rw (lt-ltb (len - at) size h)
  chain-short r size (suc more) at h = rw (lt-ltb (len - at) size h)

  -- a first part that is there is a chain from its last octet on
  chain-octets : (r size more at : ℕ) → 1 ≤ size → at + size ≤ len
      → chain_end s len r size more at ≡ chain_end s len r 1 more (at + (size - 1))
  unfolding chain_end
  chain-octets r size zero at one h =
      let e : at + (size - 1) + 1 ≡ at + size = omega arith in
      rw (le-ltb (len - at) size (omega arith), le-ltb (len - (at + (size - 1))) 1 (omega arith), add-zero, e)
  chain-octets r size (suc more) at one h =
      let e : at + (size - 1) + 1 ≡ at + size = omega arith in
      rw (le-ltb (len - at) size (omega arith), le-ltb (len - (at + (size - 1))) 1 (omega arith), add-zero, e)

  module _ (size at : ℕ) where
    abbrev last : ℕ
    last = at + (size - 1)

    module _ (more : ℕ) (one : 1 ≤ size) where
      stops-passes : at + size ≤ len → Stops more last ↔ Passes s len (Extended size more) at
      stops-passes l = (λ w. go w.0 w.1 w.2 w.3, back)
        where
          go : (n : ℕ) → n < suc more → FxSet s len n last → len ≤ last + n → Passes s len (Extended size more) at
          go zero k h e = absurd (omega arith)
          go (suc n) k h e = inr (n, omega arith, h, omega arith)

          back : Passes s len (Extended size more) at → Stops more last
          back (inl h) = absurd (omega arith)
          back (inr w) = (suc w.0, omega arith, w.2, omega arith)

      extended_7 : (chain_end s len 9 size more at ≡ Refused 7) ↔ Passes s len (Extended size more) at
      extended_7 = go (ltb (len - at) size) refl
        where
          go : (b : Bool) → ltb (len - at) size ≡ b → (chain_end s len 9 size more at ≡ Refused 7) ↔ Passes s len (Extended size more) at
          go true e =
              let l = ltb-true (len - at) size e in
              (λ h. inl (omega arith), λ w. chain-short 9 size more at l)
          go false e =
              let l : at + size ≤ len = omega (arith, ltb-false (len - at) size e) in
              rw (chain-octets 9 size more at one l) (Iff.trans (octets_7 9 (λ e. omega arith) more last) (stops-passes l))

      extended_9 : (chain_end s len 9 size more at ≡ Refused 9) ↔ PastLast s len (Extended size more) at
      extended_9 = go (ltb (len - at) size) refl
        where
          go : (b : Bool) → ltb (len - at) size ≡ b → (chain_end s len 9 size more at ≡ Refused 9) ↔ PastLast s len (Extended size more) at
          go true e =
              let l = ltb-true (len - at) size e in
              rw (chain-short 9 size more at l) (neither (differs (λ e. omega arith)) (λ w. omega arith))
          go false e =
              let l : at + size ≤ len = omega (arith, ltb-false (len - at) size e) in
              rw (chain-octets 9 size more at one l)
              (Iff.trans (octets-long 9 (λ e. omega arith) more last) (λ h. (l, h), λ w. w.1))

  -- an octet that counts e more than the parts behind it
  module _ (e size at : ℕ) where
    abbrev counts : ℕ
    counts = get_or s at 0

    abbrev Over : Type 0
    Over = (len ≤ at) ⊎ ((at < len) × (e < counts) × (len < at + 1 + (counts - e) * size))

    counted_7 : (counted_end s len e size at ≡ Refused 7) ↔ Over
    counted_7 =
        let Same : End → Type 0 = λ r. (r ≡ Refused 7) ↔ Over in
        choose Same (leb len at) (λ a. both_hold (inl (leb-true len at a))) λ a.
        let l = leb-false len at a in
        choose Same (leb counts e) (λ b. neither (differs (λ e. omega arith)) (few l (leb-true counts e b))) λ b.
        choose Same (ltb (len - (at + 1)) ((counts - e) * size))
        (λ d. both_hold (inr (l, leb-false counts e b, omega (arith, ltb-true (len - (at + 1)) ((counts - e) * size) d))))
        (λ d. neither at-refused (fits l (ltb-false (len - (at + 1)) ((counts - e) * size) d)))
      where
        few : at < len → counts ≤ e → Over → ⊥
        few l h (inl k) = omega arith
        few l h (inr k) = omega arith

        fits : at < len → (counts - e) * size ≤ len - (at + 1) → Over → ⊥
        fits l h (inl k) = omega arith
        fits l h (inr k) = omega arith

    counted_8 : (counted_end s len e size at ≡ Refused 8) ↔ ((at < len) × (counts ≤ e))
    counted_8 =
        let Same : End → Type 0 = λ r. (r ≡ Refused 8) ↔ ((at < len) × (counts ≤ e)) in
        choose Same (leb len at) (λ a. neither (differs (λ e. omega arith)) (λ w. omega (arith, leb-true len at a))) λ a.
        choose Same (leb counts e) (λ b. both_hold (leb-false len at a, leb-true counts e b)) λ b.
        choose Same (ltb (len - (at + 1)) ((counts - e) * size))
        (λ d. neither (differs (λ e. omega arith)) (λ w. omega (arith, leb-false counts e b)))
        (λ d. neither at-refused (λ w. omega (arith, leb-false counts e b)))

  -- the numbers for an end
  abbrev Within : End → Type 0
  Within (At q) = Unit {0}
  Within (Refused n) = (7 ≤ n) × (n ≤ 9)

  room_refusals : (at size : ℕ) → Within (room_end len at size)
  room_refusals at size = choose Within (ltb (len - at) size) (λ a. omega arith) (λ a. tt)

  counted_refusals : (e size at : ℕ) → Within (counted_end s len e size at)
  counted_refusals e size at =
      choose Within (leb len at) (λ a. omega arith)
      (λ a. choose Within (leb (get_or s at 0) e) (λ b. omega arith) (λ b. room_refusals (at + 1) ((get_or s at 0 - e) * size)))

  extended_refusals : (r : End) → Either 9 r → Within r
  extended_refusals (At q) h = tt
  extended_refusals (Refused n) (inl e) = omega arith
  extended_refusals (Refused n) (inr e) = omega arith

  -- by the kind
  kind_given_7 : (k : Kind) (at : ℕ) → Sized k → (kind_end s len k at ≡ Refused 7) ↔ Passes s len k at
  kind_given_7 Spare at h = neither (differs (λ e. omega arith)) (λ w. w)
  kind_given_7 (Fixed size) at h =
      choose (λ (r : End). (r ≡ Refused 7) ↔ (len < at + size)) (ltb (len - at) size)
      (λ a. both_hold (omega (arith, ltb-true (len - at) size a)))
      (λ a. neither at-refused (λ l. omega (arith, ltb-false (len - at) size a)))
  kind_given_7 (Extended size more) at h = extended_7 size at more h
  kind_given_7 (Repeated size) at h = Iff.trans (counted_7 0 size at) (go, back)
    where
      go : Over 0 size at → Passes s len (Repeated size) at
      go (inl l) = inl l
      go (inr w) = inr (w.0, w.1, rw sub-zero at w.2)

      back : Passes s len (Repeated size) at → Over 0 size at
      back (inl l) = inl l
      back (inr w) = inr (w.0, w.1, rw sub-zero w.2)
  kind_given_7 Explicit at h = Iff.trans (counted_7 1 1 at) (go, back)
    where
      go : Over 1 1 at → Passes s len Explicit at
      go (inl l) = inl l
      go (inr w) = inr (w.0, w.1, omega arith)

      back : Passes s len Explicit at → Over 1 1 at
      back (inl l) = inl l
      back (inr w) = inr (w.0, w.1, omega arith)

  kind_given_8 : (k : Kind) (at : ℕ) → (kind_end s len k at ≡ Refused 8) ↔ NoCount s len k at
  kind_given_8 Spare at = neither (differs (λ e. omega arith)) (λ w. w)
  kind_given_8 (Fixed size) at =
      choose (λ (r : End). (r ≡ Refused 8) ↔ ⊥) (ltb (len - at) size)
      (λ a. neither (differs (λ e. omega arith)) (λ w. w))
      (λ a. neither at-refused (λ w. w))
  kind_given_8 (Extended size more) at = (λ h. go (subst (Either 9) h (chain_refusals 9 size more at)), λ w. absurd w)
    where
      go : ◌≡◌ {A = ℕ} 8 7 ⊎ ◌≡◌ {A = ℕ} 8 9 → ⊥
      go (inl e) = omega arith
      go (inr e) = omega arith
  kind_given_8 (Repeated size) at = Iff.trans (counted_8 0 size at) (λ w. (w.0, omega arith), λ w. (w.0, omega arith))
  kind_given_8 Explicit at = Iff.trans (counted_8 1 1 at) (λ w. (w.0, omega arith), λ w. (w.0, omega arith))

  not_counted : (e size at : ℕ) → counted_end s len e size at ≡ Refused 9 → ⊥
  not_counted e size at =
      let Not : End → Type 0 = λ r. r ≡ Refused 9 → ⊥ in
      choose Not (leb len at) (λ a. differs (λ e. omega arith)) λ a.
      choose Not (leb (get_or s at 0) e) (λ b. differs (λ e. omega arith)) λ b.
      choose Not (ltb (len - (at + 1)) ((get_or s at 0 - e) * size)) (λ d. differs (λ e. omega arith)) (λ d. at-refused)

  kind_given_9 : (k : Kind) (at : ℕ) → Sized k → (kind_end s len k at ≡ Refused 9) ↔ PastLast s len k at
  kind_given_9 Spare at h = neither (differs (λ e. omega arith)) (λ w. w)
  kind_given_9 (Fixed size) at h =
      choose (λ (r : End). (r ≡ Refused 9) ↔ ⊥) (ltb (len - at) size)
      (λ a. neither (differs (λ e. omega arith)) (λ w. w))
      (λ a. neither at-refused (λ w. w))
  kind_given_9 (Extended size more) at h = extended_9 size at more h
  kind_given_9 (Repeated size) at h = neither (not_counted 0 size at) (λ w. w)
  kind_given_9 Explicit at h = neither (not_counted 1 1 at) (λ w. w)

  kind_within : (l : Layout) (at : ℕ) → is_unused l ≡ false → Within (kind_end s len (kind_of l) at)
  kind_within unused at h = absurd (true≢false h)
  kind_within (fixed g) at h = room_refusals at g.wide
  kind_within (extended g hs) at h = extended_refusals (chain_end s len 9 g.wide (length hs) at) (chain_refusals 9 g.wide (length hs) at)
  kind_within (repeated g) at h = counted_refusals 0 g.wide at
  kind_within explicit at h = counted_refusals 1 1 at

  kind_refusals : (l : Layout) (at n : ℕ) → is_unused l ≡ false → kind_end s len (kind_of l) at ≡ Refused n → (7 ≤ n) × (n ≤ 9)
  kind_refusals l at n u h = subst Within h (kind_within l at u)

sized : (l : Layout) → sound l ≡ true → Sized (kind_of l)
sized unused h = tt
sized (fixed g) h = leb-true 1 g.wide h
sized (extended g hs) h = leb-true 1 g.wide (both (leb 1 g.wide) (flagged g.parts && extensions hs) h).0
sized (repeated g) h = tt
sized explicit h = tt

-- An item of a form
module _ (s : List ℕ) (len : ℕ) where
  -- "7: a specification or item passes LEN"
  pub form-given_7 : (f : Form) (at : ℕ) → (kind_end s len (kind_of (layout f)) at ≡ Refused 7) ↔ Passes s len (kind_of (layout f)) at
  form-given_7 f at = kind_given_7 s len (kind_of (layout f)) at (sized (layout f) (forms-sound f))

  -- "8: REP 0, or RE/SP length below 2"
  pub form-given_8 : (f : Form) (at : ℕ) → (kind_end s len (kind_of (layout f)) at ≡ Refused 8) ↔ NoCount s len (kind_of (layout f)) at
  form-given_8 f at = kind_given_8 s len (kind_of (layout f)) at

  -- "9: FX set beyond the last extension above"
  pub form-given_9 : (f : Form) (at : ℕ) → (kind_end s len (kind_of (layout f)) at ≡ Refused 9) ↔ PastLast s len (kind_of (layout f)) at
  form-given_9 f at = kind_given_9 s len (kind_of (layout f)) at (sized (layout f) (forms-sound f))

  -- no other number refuses an item that is not spare before its values
  pub form_refusals : (f : Form) (at n : ℕ) → is_unused (layout f) ≡ false → kind_end s len (kind_of (layout f)) at ≡ Refused n
      → (7 ≤ n) × (n ≤ 9)
  form_refusals f at n u h = kind_refusals s len (layout f) at n u h

-- An item, to its end and then its values

answer-differs : {A : Type 0} {n m : ℕ} → (n ≡ m → ⊥) → ◌≡◌ {A = Parsed ℕ A} (refused n) (refused m) → ⊥
answer-differs d e = d (cc)

pub answer-got : {R A : Type 0} {a : A} {r : R} {n : ℕ} → got a r ≡ refused n → ⊥
answer-got e = let z : ◌≡◌ {A = ℕ} 0 1 = cc in omega arith

-- the values of an item that ended are judged
abbrev judged : Format → Trace → ℕ → Parsed ℕ Trace
judged f tr q = pick (fits_in f tr) (got tr q) (refused 11)

judged-other : (f : Format) (n : ℕ) → (n ≡ 11 → ⊥) → (m : Parsed ℕ Trace) → (and_then m (judged f) ≡ refused n) ↔ (end_of m ≡ Refused n)
judged-other f n d (refused k) = (λ e. cc, λ e. cc)
judged-other f n d (got tr q) =
    choose (λ (r : Parsed ℕ Trace). (r ≡ refused n) ↔ (At q ≡ Refused n)) (fits_in f tr)
    (λ a. neither answer-got at-refused)
    (λ a. neither (answer-differs (λ e. d (sym e))) at-refused)

judged_11 : (f : Format) (tr : Trace) (q : ℕ) → (judged f tr q ≡ refused 11) ↔ (fits_in f tr ≡ false)
judged_11 f tr q =
    choose (λ (r : Parsed ℕ Trace). (r ≡ refused 11) ↔ (fits_in f tr ≡ false)) (fits_in f tr)
    (λ a. neither answer-got (λ b. false≢true (sym b ∙ a)))
    (λ a. both_hold a)

module _ (s : List ℕ) (len : ℕ) (o : Octets s) (f : Form) (at : ℕ) where
  abbrev form : Format
  form = format (layout f)

  abbrev end : End
  end = kind_end s len (kind_of (layout f)) at

  ends : end_of (run_at s len form at) ≡ end
  ends = kind_end_lem s len o (layout f) at (forms-sound f)

  -- 7, 8 and 9 of an item are those of its end
  pub item-given : (n : ℕ) → (n ≡ 11 → ⊥) → (item_at s len form at ≡ refused n) ↔ (end ≡ Refused n)
  unfolding item_at
  item-given n d = rw (← ends) (judged-other form n d (run_at s len form at))

  -- "11: a value out of range"
  pub item-given_11 : (item_at s len form at ≡ refused 11) ↔ OutOfRange s len f at
  unfolding item_at
  item-given_11 = go (run_at s len form at) refl
    where
      low : (l : Layout) → kind_end s len (kind_of l) at ≡ Refused 11 → ⊥
      low unused h = differs (λ e. omega arith) h
      low (fixed g) h = omega (arith, kind_refusals s len (fixed g) at 11 refl h)
      low (extended g hs) h = omega (arith, kind_refusals s len (extended g hs) at 11 refl h)
      low (repeated g) h = omega (arith, kind_refusals s len (repeated g) at 11 refl h)
      low explicit h = omega (arith, kind_refusals s len explicit at 11 refl h)

      go : (m : Parsed ℕ Trace) → run_at s len form at ≡ m → (and_then m (judged form) ≡ refused 11) ↔ OutOfRange s len f at
      go (refused k) e =
          let is : Refused k ≡ end = rw e at ends in
          (λ h. absurd (low (layout f) (cc)), λ w. absurd (at-refused (sym w.1 ∙ sym is)))
      go (got tr q) e =
          let is : At q ≡ end = rw e at ends in
          Iff.trans (judged_11 form tr q)
          (rw (run_trace s len form at tr q e) ((λ h. (q, sym is, h)), (λ w. w.2)))

  -- no other number refuses an item that is not spare
  pub item_refusals : (n : ℕ) → is_unused (layout f) ≡ false → item_at s len form at ≡ refused n → ((7 ≤ n) × (n ≤ 9)) ⊎ (n ≡ 11)
  item_refusals n u h = go (eqb n 11) refl
    where
      go : (b : Bool) → eqb n 11 ≡ b → ((7 ≤ n) × (n ≤ 9)) ⊎ (n ≡ 11)
      go true e = inr (eqb-true n 11 e)
      go false e = inl (form_refusals s len f at n u ((item-given n (eqb-false n 11 e)).0 h))
