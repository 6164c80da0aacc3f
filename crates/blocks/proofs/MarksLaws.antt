-- Marks as a number and marks as seven to a number are the same marks. Assumes nothing.
use mathlib.Core.Path.{◌≡◌, refl, sym, ap, ap₂, ◌∙◌, subst}
use mathlib.Core.Bool.{Bool, true, false, ◌&&◌, not}
use mathlib.Core.List.{List, [], ◌∷◌, ◌++◌}
use Prim.Native.Nat.{ℕ, zero, suc, ◌+◌, ◌-◌, ◌*◌, ◌/◌, ◌%◌, ◌^◌, ◌≤◌, ◌<◌, min}
use native.Mathlib.Nat.{zero-mul, zero-add, suc-add, add-zero, div-one, div-div-eq-div-mul, pow-suc, pow-succ'}
use native.Mathlib.Omega.{arith}
use borrow.Author.Tests.{leb-false, eqb-true, eqb-false, eq-eqb, ne_eqb}
use lib.Bits.{bit_and, and_step}
use lib.Dec.{leb, eqb}
use lib.ListN.{length, get_or, replicate, length-replicate}
use Rattle.octets.specs.Choice.{pick, odd}
use Rattle.octets.specs.Numbers.{Octets}
use Rattle.octets.specs.Refusals.{long_specification, spare_marked, none_marked}
use Rattle.octets.proofs.Cases.{test, choose}
use Rattle.layouts.specs.Formats.{Parsed, refused, got, and_then}
use Rattle.layouts.specs.Ends.{end_of, chain_end}
use Rattle.layouts.specs.Categories.{Category}
use Rattle.layouts.specs.declared.form.Form.{Form}
use Rattle.layouts.proofs.Parsed.{OfGot, of_pick}
use Rattle.layouts.proofs.KindEnds.{none_left, end_then}
use Rattle.blocks.specs.Specification.{flags}
use Rattle.layouts.specs.Presence.{FieldNeed, meets}
use Rattle.blocks.specs.Marks.{marks_of, flags_of, groups_of, marked as isMarked}
use Rattle.blocks.specs.Records.{formats, marks_spare, unmarked, flags_refusal, marks_refusal}
use Rattle.blocks.specs.Offsets.{specification_at}

-- a mark as a number is the low bit that it tests
pub bit : (x : ℕ) → pick (odd x) 1 0 ≡ x % 2
bit x =
    choose (λ (n : ℕ). n ≡ x % 2) (odd x)
    (λ e. omega (arith, eqb-true (x % 2) 1 e))
    (λ e. let d = eqb-false (x % 2) 1 e in omega arith)

pub flags_long : (gs : List ℕ) → length (flags gs) ≡ 7 * length gs
unfolding flags
flags_long [] = refl
flags_long (g ∷ gs) = omega (arith, flags_long gs)

-- the number 0 marks nothing
pub no-flags : (n : ℕ) → flags_of n 0 ≡ replicate n false
unfolding flags_of
no-flags zero = refl
no-flags (suc n) = ap (λ (bs : List Bool). false ∷ bs) (no-flags n)

-- a field's mark is a bit of the number
pub flags-at : (n m i : ℕ) → i < n → get_or (flags_of n m) i false ≡ odd (m / 2 ^ i)
unfolding flags_of
flags-at zero m i h = absurd (omega arith)
flags-at (suc n) m zero h = rw div-one
flags-at (suc n) m (suc i) h = rw (flags-at n (m / 2) i (omega arith), div-div-eq-div-mul, pow-succ')

-- the fields are counted from 1, their marks from 0
pub marked-at : (m f : ℕ) → 1 ≤ f → isMarked m f ≡ get_or (flags_of 32 m) (f - 1) false
marked-at m zero h = absurd (omega arith)
marked-at m (suc f) h = let e : suc f - 1 ≡ f = omega arith in rw e

-- a mark in front: it is the low bit, and the others are the half
pub first-mark : (b : Bool) (m : ℕ) → (odd (pick b 1 0 + m * 2) ≡ b) × ((pick b 1 0 + m * 2) / 2 ≡ m)
first-mark true m = (eq-eqb ((1 + m * 2) % 2) 1 (omega arith), omega arith)
first-mark false m = (ne_eqb ((0 + m * 2) % 2) 1 (λ e. omega arith), omega arith)

-- tests of two equalities that say the same
same_test : (p q x y : ℕ) → (p ≡ q → x ≡ y) → (x ≡ y → p ≡ q) → eqb p q ≡ eqb x y
same_test p q x y to from =
    test (eqb x y) (λ e. eq-eqb p q (from (eqb-true x y e)) ∙ sym e) (λ e. ne_eqb p q (λ h. eqb-false x y e (to h)) ∙ sym e)

-- marks are the same where the first is, and the others
pub same-marks : (a b : Bool) (x y : ℕ) → eqb (pick a 1 0 + x * 2) (pick b 1 0 + y * 2) ≡ (pick b a (not a) && eqb x y)
same-marks true true x y = same_test (1 + x * 2) (1 + y * 2) x y (λ e. omega arith) (λ e. omega arith)
same-marks true false x y = ne_eqb (1 + x * 2) (0 + y * 2) (λ e. omega arith)
same-marks false true x y = ne_eqb (0 + x * 2) (1 + y * 2) (λ e. omega arith)
same-marks false false x y = same_test (0 + x * 2) (0 + y * 2) x y (λ e. omega arith) (λ e. omega arith)

-- no field is marked where the number of the marks is 0, and of marks in a number where it is
pub none-marks : (bs : List Bool) → unmarked bs ≡ eqb (marks_of bs) 0
unfolding unmarked marks_of
none-marks [] = refl
none-marks (b ∷ bs) = rw (none-marks bs) (sym (same-marks b false (marks_of bs) 0))

pub none-flags : (n m : ℕ) → m < 2 ^ n → unmarked (flags_of n m) ≡ eqb m 0
unfolding unmarked flags_of
none-flags zero m l = sym (eq-eqb m 0 (omega arith))
none-flags (suc n) m l =
    let whole : pick (odd m) 1 0 + m / 2 * 2 ≡ m = omega (arith, bit m) in
    rw (none-flags n (m / 2) (omega (arith, pow-suc 2 n))) (sym (same-marks (odd m) false (m / 2) 0) ∙ ap (λ (k : ℕ). eqb k 0) whole)

-- so 6 is tested on the number
pub marks-refused : (c : Category) (m : ℕ) → m < 4294967296
    → marks_refusal c m ≡ pick (eqb m 0) none_marked (pick (marks_spare (flags_of 32 m) c.fields) spare_marked 0)
marks-refused c m l = rw (none-flags 32 m l)

-- the marks that two numbers have in common: the first, and the others
pub common : (m k : ℕ) → bit_and m k ≡ pick (odd m && odd k) 1 0 + bit_and (m / 2) (k / 2) * 2
common m k = and_step m k ∙ rw (ap₂ min (sym (bit m)) (sym (bit k)) ∙ go (odd m) (odd k)) (omega arith)
  where
    go : (a b : Bool) → min (pick a 1 0) (pick b 1 0) ≡ pick (a && b) 1 0
    go true true = refl
    go true false = refl
    go false true = refl
    go false false = refl

-- marks as a number and back
flags-marks : (bs : List Bool) (n : ℕ) → flags_of (length bs + n) (marks_of bs) ≡ bs ++ replicate n false
unfolding marks_of flags_of
flags-marks [] n = rw zero-add (no-flags n)
flags-marks (b ∷ bs) n =
    let f = first-mark b (marks_of bs) in
    rw (suc-add (length bs) n, f.0, f.1, flags-marks bs n)

-- the marks of at most four octets, as a number and back
pub flags_32 : (gs : List ℕ) → length gs ≤ 4 → flags_of 32 (marks_of (flags gs)) ≡ flags gs ++ replicate (32 - 7 * length gs) false
flags_32 gs h =
    let all : length (flags gs) + (32 - 7 * length gs) ≡ 32 = omega (arith, flags_long gs) in
    rw all at (flags-marks (flags gs) (32 - 7 * length gs))

-- fields that are not marked behind the last change nothing
pub formats-more : (bs : List Bool) (n : ℕ) (fs : List Form) → length fs ≤ length bs → formats (bs ++ replicate n false) fs ≡ formats bs fs
unfolding formats
formats-more [] zero fs h = refl
formats-more [] (suc n) [] h = refl
formats-more [] (suc n) (f ∷ fs) h = absurd (omega arith)
formats-more (b ∷ bs) n [] h = refl
formats-more (b ∷ bs) n (f ∷ fs) h = rw (formats-more bs n fs (omega arith))

none_more : (bs : List Bool) (n : ℕ) → unmarked (bs ++ replicate n false) ≡ unmarked bs
unfolding unmarked
none_more [] zero = refl
none_more [] (suc n) = none_more [] n
none_more (b ∷ bs) n = rw (none_more bs n)

spare_more : (bs : List Bool) (n : ℕ) (fs : List Form) → marks_spare (bs ++ replicate n false) fs ≡ marks_spare bs fs
unfolding marks_spare
spare_more [] zero fs = refl
spare_more [] (suc n) [] = spare_more [] n []
spare_more [] (suc n) (f ∷ fs) = spare_more [] n fs
spare_more (b ∷ bs) n [] = rw (spare_more bs n [])
spare_more (b ∷ bs) n (f ∷ fs) = rw (spare_more bs n fs)

pub refusal-more : (c : Category) (bs : List Bool) (n : ℕ) → flags_refusal c (bs ++ replicate n false) ≡ flags_refusal c bs
refusal-more c bs n = rw (none_more bs n, spare_more bs n c.fields)

pub mark-more : (bs : List Bool) (n i : ℕ) → get_or (bs ++ replicate n false) i false ≡ get_or bs i false
mark-more [] zero i = refl
mark-more [] (suc n) zero = refl
mark-more [] (suc n) (suc i) = mark-more [] n i
mark-more (b ∷ bs) n zero = refl
mark-more (b ∷ bs) n (suc i) = mark-more bs n i

pub meets-more : (rs : List FieldNeed) (t : ℕ) (bs : List Bool) (n : ℕ) → meets rs t (bs ++ replicate n false) ≡ meets rs t bs
unfolding meets
meets-more [] t bs n = refl
meets-more (r ∷ rs) t bs n = rw (mark-more bs n (r.field - 1), meets-more rs t bs n)

-- seven marks as a number
pub marks-one : (g : ℕ) → marks_of (flags (g ∷ []))
    ≡ g / 64 % 2 + g / 32 % 2 * 2 + g / 16 % 2 * 4 + g / 8 % 2 * 8 + g / 4 % 2 * 16 + g / 2 % 2 * 32 + g % 2 * 64
unfolding marks_of flags
marks-one g = rw (bit (g / 64), bit (g / 32), bit (g / 16), bit (g / 8), bit (g / 4), bit (g / 2), bit g) (omega arith)

-- and those behind them
pub marks_cons : (g : ℕ) (gs : List ℕ) → marks_of (flags (g ∷ gs)) ≡ marks_of (flags gs) * 128 + marks_of (flags (g ∷ []))
unfolding marks_of flags
marks_cons g gs = omega arith

-- octets that mark nothing
marks-none : (n : ℕ) → marks_of (flags (replicate n 0)) ≡ 0
unfolding marks_of flags
marks-none zero = refl
marks-none (suc n) = rw (marks-none n)

-- what reading a specification says of its marks
pub record Marked (s : List ℕ) (len n at : ℕ) (gs : List ℕ) (q : ℕ) : Type 0 where
  pub long : length gs ≡ suc n
  pub same : marks_of (flags gs) ≡ marks_of (flags (groups_of (q - at) s at))
  pub forward : at < q
  pub few : q ≤ at + suc n
  pub within : q ≤ len

module _ (s : List ℕ) (len : ℕ) (o : Octets s) where
  -- the last octet
  marked-last : (n at : ℕ) → leb len at ≡ false → Marked s len n at (get_or s at 0 / 2 ∷ replicate n 0) (at + 1)
  unfolding groups_of
  marked-last n at e =
      let g = get_or s at 0 / 2 in
      let one : at + 1 - at ≡ 1 = omega arith in
      let inside : at < len = leb-false len at e in
      record {
        long = ap suc (length-replicate n 0);
        same = rw (one, marks_cons g (replicate n 0), marks-none n, zero-mul, zero-add);
        forward = omega arith;
        few = omega arith;
        within = omega arith;
      }

  -- an octet before others
  marked_then : (n at : ℕ) (m : Parsed ℕ (List ℕ)) → OfGot (Marked s len n (at + 1)) m
      → OfGot (Marked s len (suc n) at) (and_then m (λ gs q. got (get_or s at 0 / 2 ∷ gs) q))
  unfolding groups_of
  marked_then n at (refused k) m = tt
  marked_then n at (got gs q) m =
      let g = get_or s at 0 / 2 in
      let one : q - at ≡ suc (q - (at + 1)) = omega arith in
      record {
        long = ap suc m.long;
        same = rw (one, marks_cons g gs, m.same, ← marks_cons g (groups_of (q - (at + 1)) s (at + 1)));
        forward = omega arith;
        few = omega arith;
        within = m.within;
      }

  marked : (n at : ℕ) → OfGot (Marked s len n at) (specification_at s len n at)
  unfolding specification_at
  marked zero at =
      choose (OfGot (Marked s len 0 at)) (leb len at) (λ e. tt)
      (λ e. choose (OfGot (Marked s len 0 at)) (odd (get_or s at 0)) (λ f. tt) (λ f. marked-last 0 at e))
  marked (suc n) at =
      choose (OfGot (Marked s len (suc n) at)) (leb len at) (λ e. tt)
      (λ e. choose (OfGot (Marked s len (suc n) at)) (odd (get_or s at 0))
      (λ f. marked_then n at (specification_at s len n (at + 1)) (marked n (at + 1)))
      (λ f. marked-last (suc n) at e))

pub specification-marked : (s : List ℕ) (len n at : ℕ) (gs : List ℕ) (q : ℕ) → Octets s → specification_at s len n at ≡ got gs q → Marked s len n at gs q
specification-marked s len n at gs q o h = subst (OfGot (Marked s len n at)) h (marked s len o n at)

-- where a specification ends is where its chain of octets ends
pub spec-end : (s : List ℕ) (len n at : ℕ) → end_of (specification_at s len n at) ≡ chain_end s len long_specification 1 n at
unfolding specification_at chain_end
spec-end s len zero at = rw (none_left, add-zero, of_pick end_of (leb len at), of_pick end_of (odd (get_or s at 0)))
spec-end s len (suc n) at =
    rw (
      none_left,
      add-zero,
      of_pick end_of (leb len at),
      of_pick end_of (odd (get_or s at 0)),
      end_then (λ (gs : List ℕ). get_or s at 0 / 2 ∷ gs),
      spec-end s len n (at + 1),
    )
