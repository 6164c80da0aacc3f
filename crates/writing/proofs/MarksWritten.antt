-- The specification of a typed record, written: seven marks to a number, up to the last that marks something. Assumes nothing.
use mathlib.Core.Path.{◌≡◌, refl, sym, ap, ◌∙◌}
use mathlib.Core.Bool.{Bool, true, false, ◌&&◌}
use mathlib.Core.List.{List, [], ◌∷◌, ◌++◌}
use Prim.Native.Nat.{ℕ, zero, suc, ◌+◌, ◌-◌, ◌*◌, ◌/◌, ◌%◌, ◌^◌, ◌≤◌, ◌<◌}
use native.Mathlib.Nat.{zero-add, suc-add, pow-suc, div-div-eq-div-mul, div-lt_iff_lt-mul, zero-lt-suc, lt_of_lt_of_le, pow-le-pow_right}
use native.Mathlib.Omega.{arith}
use borrow.Author.Tests.{ltb-true, ltb-false, eqb-true, eqb-false, eq-eqb, ne_eqb}
use lib.Dec.{ltb, eqb}
use lib.ListN.{length, set, replicate}
use Rattle.octets.specs.Choice.{pick, odd}
use Rattle.octets.specs.Numbers.{laid}
use Rattle.octets.proofs.Laying.{laid_one, laid-laid}
use Rattle.octets.proofs.Cases.{neither}
use Rattle.layouts.specs.Layouts.{is_unused}
use Rattle.layouts.specs.Tables.{layout}
use Rattle.layouts.specs.Categories.{Category, known, category}
use Rattle.layouts.specs.declared.form.Form.{Form}
use Rattle.items.specs.Typed.{trace_of}
use Rattle.blocks.specs.Specification.{zeros, put_marks, flags}
use Rattle.layouts.specs.Presence.{FieldNeed, needs_of, meets}
use Rattle.blocks.specs.Marks.{flags_of}
use Rattle.blocks.specs.Records.{formats, marks_spare, layout_of, flags_refusal, specification_refusal, value_or, type_of, present, put_rec}
use Rattle.blocks.specs.Meaning.{item_in, sevens, values_of, rec_of}
use Rattle.blocks.specs.declared.record.Record.{Record}
use Rattle.blocks.proofs.MeaningLaws.{two, low_bit}
use Rattle.blocks.proofs.MarksLaws.{flags_long, no-flags, formats-more, refusal-more, meets-more}
use Rattle.blocks.proofs.WalkSteps.{by-known, Table, table, no-spare}
use Rattle.writing.specs.Judged.{items_octets, marked_refusal, record_octets, marked_type, specification_octet}

-- Seven bits

-- the low seven marks of a number, the first in the high bit
abbrev turn : ℕ → ℕ
turn m = m % 2 * 64 + m / 2 % 2 * 32 + m / 4 % 2 * 16 + m / 8 % 2 * 8 + m / 16 % 2 * 4 + m / 32 % 2 * 2 + m / 64 % 2

-- and as they stand
abbrev low : ℕ → ℕ
low m = m % 2 + m / 2 % 2 * 2 + m / 4 % 2 * 4 + m / 8 % 2 * 8 + m / 16 % 2 * 16 + m / 32 % 2 * 32 + m / 64 % 2 * 64

join : (m a b c d e f k x y z u v w o : ℕ) → m ≡ a * 2 + x → a ≡ b * 2 + y → b ≡ c * 2 + z → c ≡ d * 2 + u → d ≡ e * 2 + v → e ≡ f * 2 + w
    → f ≡ k * 2 + o → m ≡ k * 128 + (x + y * 2 + z * 4 + u * 8 + v * 16 + w * 32 + o * 64)
join m a b c d e f k x y z u v w o ha hb hc hd he hf hg = rw (ha, hb, hc, hd, he, hf, hg) (omega arith)

half : (m k n : ℕ) → n ≡ m / k / 2 → m / k ≡ n * 2 + m / k % 2
half m k n h = omega arith

whole : (m : ℕ) → m ≡ m / 128 * 128 + low m
whole m =
    join m (m / 2) (m / 4) (m / 8) (m / 16) (m / 32) (m / 64) (m / 128) _ _ _ _ _ _ _
    (omega arith) (half m 2 _ (omega arith)) (half m 4 _ (omega arith)) (half m 8 _ (omega arith))
    (half m 16 _ (omega arith)) (half m 32 _ (omega arith)) (half m 64 _ (omega arith))

-- a number of seven bits, by its bits
module _ (a b c d e f g : ℕ) (la : a < 2) (lb : b < 2) (lc : c < 2) (ld : d < 2) (le : e < 2) (lf : f < 2) (lg : g < 2)
    (n : ℕ) (is : n ≡ a + b * 2 + c * 4 + d * 8 + e * 16 + f * 32 + g * 64) where
  bits : (n % 2 ≡ a) × (n / 2 % 2 ≡ b) × (n / 4 % 2 ≡ c) × (n / 8 % 2 ≡ d) × (n / 16 % 2 ≡ e) × (n / 32 % 2 ≡ f) × (n / 64 % 2 ≡ g)
  bits = (
    low_bit n a (b + c * 2 + d * 4 + e * 8 + f * 16 + g * 32) la (omega arith),
    low_bit (n / 2) b (c + d * 2 + e * 4 + f * 8 + g * 16) lb (omega arith),
    low_bit (n / 4) c (d + e * 2 + f * 4 + g * 8) lc (omega arith),
    low_bit (n / 8) d (e + f * 2 + g * 4) ld (omega arith),
    low_bit (n / 16) e (f + g * 2) le (omega arith),
    low_bit (n / 32) f g lf (omega arith),
    low_bit (n / 64) g 0 lg (omega arith),
  )

-- the low seven marks turned are those of the number turned
turn_low : (m : ℕ) → turn (m % 128) ≡ turn m
turn_low m =
    let w = bits _ _ _ _ _ _ _ (two m) (two (m / 2)) (two (m / 4)) (two (m / 8)) (two (m / 16)) (two (m / 32)) (two (m / 64)) (m % 128) (omega (arith, whole m)) in
    rw (w.0, w.1, w.2, w.3, w.4, w.5, w.6)

-- the bits of seven marks turned, the high one first
turn-bits : (m : ℕ) → (turn m % 2 ≡ m / 64 % 2) × (turn m / 2 % 2 ≡ m / 32 % 2) × (turn m / 4 % 2 ≡ m / 16 % 2) × (turn m / 8 % 2 ≡ m / 8 % 2)
    × (turn m / 16 % 2 ≡ m / 4 % 2) × (turn m / 32 % 2 ≡ m / 2 % 2) × (turn m / 64 % 2 ≡ m % 2)
turn-bits m =
    bits _ _ _ _ _ _ _ (two (m / 64)) (two (m / 32)) (two (m / 16)) (two (m / 8)) (two (m / 4)) (two (m / 2)) (two m) (turn m) (omega arith)

-- Marks as a number, and seven to a number

pub length-marks : (n m : ℕ) → length (sevens n m) ≡ n
unfolding sevens
length-marks zero m = refl
length-marks (suc n) m = ap suc (length-marks n (m / 128))

-- seven to a number, they are the same marks
pub flags-sevens : (n m : ℕ) → flags (sevens n m) ≡ flags_of (7 * n) m
unfolding flags sevens flags_of
flags-sevens zero m = refl
flags-sevens (suc n) m =
    let w = turn-bits m in
    let e : 7 * suc n ≡ suc (suc (suc (suc (suc (suc (suc (7 * n))))))) = omega arith in
    rw (e, w.0, w.1, w.2, w.3, w.4, w.5, w.6, flags-sevens n (m / 128)) (simp div-div-eq-div-mul)

-- nothing is marked where the number is 0
turn-none : (m : ℕ) → turn m ≡ 0 → m / 128 ≡ 0 → m ≡ 0
turn-none m h e = none m (m / 128) _ _ _ _ _ _ _ h e (whole m)
  where
    none : (m k a b c d e f g : ℕ) → a * 64 + b * 32 + c * 16 + d * 8 + e * 4 + f * 2 + g ≡ 0 → k ≡ 0
        → m ≡ k * 128 + (a + b * 2 + c * 4 + d * 8 + e * 16 + f * 32 + g * 64) → m ≡ 0
    none m k a b c d e f g h z is = omega arith

less : (n m : ℕ) → m < 128 ^ suc n → m / 128 < 128 ^ n
less n m l = (div-lt_iff_lt-mul {k = 128} (zero-lt-suc 127)).1 (rw pow-suc at l)

zeros-sevens : (n m : ℕ) → m < 128 ^ n → zeros (sevens n m) ≡ eqb m 0
unfolding zeros sevens
zeros-sevens zero m l = sym (eq-eqb m 0 (omega arith))
zeros-sevens (suc n) m l = rw (zeros-sevens n (m / 128) (less n m l)) (go (eqb (turn m) 0) (eqb (m / 128) 0) refl refl)
  where
    go : (x y : Bool) → eqb (turn m) 0 ≡ x → eqb (m / 128) 0 ≡ y → (x && y) ≡ eqb m 0
    go true true e f = sym (eq-eqb m 0 (turn-none m (eqb-true (turn m) 0 e) (eqb-true (m / 128) 0 f)))
    go true false e f = sym (ne_eqb m 0 (λ z. eqb-false (m / 128) 0 f (omega arith)))
    go false y e f = sym (ne_eqb m 0 (λ z. eqb-false (turn m) 0 e (rw z)))

-- The octets of marks: the last, and one before others

puts-last : (n m : ℕ) → m < 128 → put_marks (sevens (suc n) m) ≡ turn m * 2 ∷ []
unfolding put_marks sevens
puts-last n m l =
    let e : m / 128 ≡ 0 = omega arith in
    let small : 0 < 128 ^ n = lt_of_lt_of_le (zero-lt-suc 0) (pow-le-pow_right (zero-lt-suc 127) {i = 0} (omega arith)) in
    rw (e, zeros-sevens n 0 small)

puts_then : (n m : ℕ) → 128 ≤ m → m < 128 ^ suc n → put_marks (sevens (suc n) m) ≡ (turn m * 2 + 1) ∷ put_marks (sevens n (m / 128))
unfolding put_marks sevens
puts_then n m h l = rw (zeros-sevens n (m / 128) (less n m l), ne_eqb (m / 128) 0 (λ e. omega arith))

-- octets that mark nothing are not put
pub puts-same : (n k m : ℕ) → m < 128 ^ suc n → m < 128 ^ suc k → put_marks (sevens (suc n) m) ≡ put_marks (sevens (suc k) m)
puts-same zero k m l h = puts-last 0 m (omega arith) ∙ sym (puts-last k m (omega arith))
puts-same (suc n) zero m l h = puts-last (suc n) m (omega arith) ∙ sym (puts-last 0 m (omega arith))
puts-same (suc n) (suc k) m l h = go (ltb m 128) refl (puts-same n k (m / 128) (less (suc n) m l) (less (suc k) m h))
  where
    go : (b : Bool) → ltb m 128 ≡ b → put_marks (sevens (suc n) (m / 128)) ≡ put_marks (sevens (suc k) (m / 128))
        → put_marks (sevens (suc (suc n)) m) ≡ put_marks (sevens (suc (suc k)) m)
    go true e same =
        let s = ltb-true m 128 e in
        puts-last (suc n) m s ∙ sym (puts-last (suc k) m s)
    go false e same =
        let s = ltb-false m 128 e in
        puts_then (suc n) m s l
        ∙ ap (λ (xs : List ℕ). (turn m * 2 + 1) ∷ xs) same
        ∙ sym (puts_then (suc k) m s h)

puts-four : (n m : ℕ) → 1 ≤ n → m < 128 ^ n → m < 128 ^ 4 → put_marks (sevens n m) ≡ put_marks (sevens 4 m)
puts-four zero m some l h = absurd (omega arith)
puts-four (suc n) m some l h = puts-same n 3 m l h

pub one-long : (n m : ℕ) → m < 128 → length (put_marks (sevens (suc n) m)) ≡ 1
one-long n m l = rw (puts-last n m l)

pub more-long : (n m : ℕ) → 128 ≤ m → m < 128 ^ suc n → length (put_marks (sevens (suc n) m)) ≡ suc (length (put_marks (sevens n (m / 128))))
more-long n m h l = rw (puts_then n m h l)

-- one octet: the low seven marks, and whether others follow
octet-last : (n m : ℕ) → m < 128 → put_marks (sevens (suc n) m) ≡ specification_octet m ∷ []
unfolding sevens
octet-last n m l = puts-last n m l ∙ ap (λ (x : ℕ). x ∷ []) (omega arith)

octet_then : (n m : ℕ) → 128 ≤ m → m < 128 ^ suc (suc n)
    → put_marks (sevens (suc (suc n)) m) ≡ (specification_octet (m % 128) + 1) ∷ put_marks (sevens (suc (suc n)) (m / 128))
unfolding sevens
octet_then n m h l =
    let small = less (suc n) m l in
    let more : m / 128 < 128 ^ suc (suc n) = lt_of_lt_of_le small (pow-le-pow_right (zero-lt-suc 127) (omega arith)) in
    puts_then (suc n) m h l ∙ rw (turn_low m, puts-same n (suc n) (m / 128) small more)

-- an octet put, and the others behind it
pub put_last : (l : List ℕ) (p m x : ℕ) → x ≡ specification_octet m → m < 128 → p < length l → laid l p (put_marks (sevens 4 m)) ≡ set l p x
put_last l p m x e z h = rw (octet-last 3 m z, e) (laid_one l p (specification_octet m) h)

pub put_then : (l : List ℕ) (p m x : ℕ) → x ≡ specification_octet (m % 128) + 1 → 128 ≤ m → m < 128 ^ 4 → p < length l
    → laid l p (put_marks (sevens 4 m)) ≡ laid (set l p x) (p + 1) (put_marks (sevens 4 (m / 128)))
put_then l p m x e z b h =
    rw (octet_then 2 m z b, ← e, ← laid_one l p x h) (sym (laid-laid l p (x ∷ []) (put_marks (sevens 4 (m / 128))) (omega arith)))

-- and how many: one, and those behind it
pub puts-longer : (m : ℕ) → 128 ≤ m → m < 128 ^ 4 → length (put_marks (sevens 4 m)) ≡ suc (length (put_marks (sevens 4 (m / 128))))
puts-longer m z b = rw (octet_then 2 m z b)

-- there is an octet
pub puts-some : (m : ℕ) → m < 128 ^ 4 → 1 ≤ length (put_marks (sevens 4 m))
puts-some m b = grind (arith, one-long 3 m, puts-longer m)

-- one for seven marks or less, and more for more
pub puts-few : (m : ℕ) → m < 128 ^ 4 → length (put_marks (sevens 4 m)) ≤ 1 → m < 128
puts-few m b h = grind (arith, puts-longer m, puts-some (m / 128))

pub puts-many : (m : ℕ) → 1 < length (put_marks (sevens 4 m)) → 128 ≤ m
puts-many m h = grind (arith, one-long 3 m)

-- fields past those marked
flags-more : (n k m : ℕ) → m < 2 ^ n → flags_of (n + k) m ≡ flags_of n m ++ replicate k false
unfolding flags_of
flags-more zero k m l =
    let e : m ≡ 0 = omega arith in
    rw (e, zero-add) (no-flags k)
flags-more (suc n) k m l =
    let s : m / 2 < 2 ^ n = (div-lt_iff_lt-mul {k = 2} (zero-lt-suc 1)).1 (rw pow-suc at l) in
    rw (suc-add n k, flags-more n k (m / 2) s)

-- no field past the last is marked
spare-small : (n m : ℕ) (fs : List Form) → m < 2 ^ n → marks_spare (flags_of n m) fs ≡ false → m < 2 ^ length fs
unfolding marks_spare flags_of
spare-small zero m fs l h = lt_of_lt_of_le l (pow-le-pow_right (zero-lt-suc 1) {i = 0} (omega arith))
spare-small (suc n) m [] l h =
    let s : m / 2 < 2 ^ n = (div-lt_iff_lt-mul {k = 2} (zero-lt-suc 1)).1 (rw pow-suc at l) in
    let w = neither (odd m) (marks_spare (flags_of n (m / 2)) []) h in
    omega (arith, spare-small n (m / 2) [] s w.1, eqb-false (m % 2) 1 w.0)
spare-small (suc n) m (f ∷ fs) l h =
    let s : m / 2 < 2 ^ n = (div-lt_iff_lt-mul {k = 2} (zero-lt-suc 1)).1 (rw pow-suc at l) in
    let w = neither (odd m && is_unused (layout f)) (marks_spare (flags_of n (m / 2)) fs) h in
    rw pow-suc ((div-lt_iff_lt-mul {k = 2} (zero-lt-suc 1)).0 (spare-small n (m / 2) fs s w.1))

-- marks of a category's fields
module _ (n m : ℕ) (c : Category) (w : Table n c) (l : m < 2 ^ length c.fields) where
  -- the marks that are put, and fields that are not marked
  flags-put : flags_of 32 m ≡ flags (sevens c.most m) ++ replicate (32 - 7 * c.most) false
  flags-put =
      let all : 7 * c.most + (32 - 7 * c.most) ≡ 32 = omega arith in
      let long : 7 * c.most ≡ length c.fields = omega arith in
      rw flags-sevens (rw all at (flags-more (7 * c.most) (32 - 7 * c.most) m (rw long l)))

  formats-put : formats (flags (sevens c.most m)) c.fields ≡ formats (flags_of 32 m) c.fields
  formats-put =
      let long : length c.fields ≤ length (flags (sevens c.most m)) =
      omega (arith, flags_long (sevens c.most m), length-marks c.most m, w.long) in
      rw (flags-put, formats-more (flags (sevens c.most m)) (32 - 7 * c.most) c.fields long)

  refusal-put : flags_refusal c (flags (sevens c.most m)) ≡ flags_refusal c (flags_of 32 m)
  refusal-put = rw (flags-put, refusal-more)

  meets-put : (rs : List FieldNeed) (kind : ℕ) → meets rs kind (flags (sevens c.most m)) ≡ meets rs kind (flags_of 32 m)
  meets-put rs kind = rw (flags-put, meets-more)

-- the value of item 000
module _ (s : List ℕ) (t : Record) where
  field-two : (b : Bool) → value_or 0 (pick b (trace_of s (item_in t Form.MessageType)) []) ≡ pick b t.message_type 0
  field-two true = refl
  field-two false = refl

  type_in_lem : (n : ℕ) → known n ≡ true
      → type_of (category n) (values_of s t (flags_of 32 t.marks) (category n).fields) ≡ marked_type n t.marks t.message_type
  unfolding values_of flags_of
  type_in_lem =
      by-known
      (λ (n : ℕ). type_of (category n) (values_of s t (flags_of 32 t.marks) (category n).fields) ≡ marked_type n t.marks t.message_type)
      (field-two (odd (t.marks / 2)))
      (field-two (odd (t.marks / 2)))
      refl

-- A typed record whose marks are not refused
module _ (s : List ℕ) (t : Record) (k : known t.category ≡ true) (small : t.marks < 4294967296) (fine : marked_refusal s t ≡ 0) where
  pub by-fields : t.marks < 2 ^ length (category t.category).fields
  by-fields = spare-small 32 t.marks (category t.category).fields small (no-spare (category t.category) t.marks fine)

  -- no field past the category's last is marked
  pub marks-small : t.marks < 128 ^ (category t.category).most
  marks-small =
      by-known (λ (n : ℕ). t.marks < 2 ^ length (category n).fields → t.marks < 128 ^ (category n).most) (λ h. h) (λ h. h) (λ h. h)
      t.category k by-fields

  pub marks-few : t.marks < 128 ^ 4
  marks-few = lt_of_lt_of_le marks-small (pow-le-pow_right (zero-lt-suc 127) {j = 4} (omega (arith, (table t.category k).few)))

  -- in normal form: the specification, and the items behind it
  pub record_parts : record_octets s t ≡ put_marks (sevens 4 t.marks) ++ items_octets s t
  unfolding record_octets put_rec rec_of layout_of
  record_parts =
      let w = table t.category k in
      rw (
        puts-four (category t.category).most t.marks w.some marks-small marks-few,
        formats-put t.category t.marks (category t.category) w by-fields,
      )

  -- the formats of the record that is meant are those of its marks
  pub layout-same : layout_of (category t.category) (rec_of s t).marks ≡ formats (flags_of 32 t.marks) (category t.category).fields
  unfolding rec_of layout_of
  layout-same = formats-put t.category t.marks (category t.category) (table t.category k) by-fields

  pub marks-good : specification_refusal (category t.category) (rec_of s t).marks ≡ 0
  unfolding specification_refusal rec_of
  marks-good = refusal-put t.category t.marks (category t.category) (table t.category k) by-fields ∙ fine

  -- presence, as the code tests it
  pub present_by_type : present (category t.category) (rec_of s t).marks (rec_of s t).items
      ≡ meets (needs_of t.category) (marked_type t.category t.marks t.message_type) (flags_of 32 t.marks)
  unfolding present rec_of
  present_by_type =
      let w = table t.category k in
      rw (type_in_lem s t t.category k, w.cat, meets-put t.category t.marks (category t.category) w by-fields)
