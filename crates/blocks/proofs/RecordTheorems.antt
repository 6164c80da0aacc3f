-- The theorems on one record: it is read back as written, its normal form is never longer, and its spare bits change nothing.
-- Assumes nothing.
use mathlib.Core.Path.{◌≡◌, refl, sym, ap, ◌∙◌}
use mathlib.Core.Bool.{true, false}
use mathlib.Core.List.{List, [], ◌∷◌, ◌++◌, append_assoc}
use Prim.Native.Nat.{ℕ, zero, suc, ◌+◌, ◌-◌, ◌/◌, ◌%◌, ◌≤◌}
use native.Mathlib.Omega.{arith}
use borrow.Author.Tests.{eqb-true, eqb-false, eq-eqb}
use lib.Dec.{eqb}
use lib.ListN.{length, get_or, drop, length-append}
use lib.Seq.{take-length}
use Rattle.octets.specs.Choice.{odd}
use Rattle.octets.specs.Numbers.{Octets}
use Rattle.octets.proofs.Cases.{both}
use Rattle.layouts.specs.Formats.{got, Format, Trace}
use Rattle.layouts.specs.Categories.{Category}
use Rattle.layouts.proofs.Formats.{put-length}
use Rattle.layouts.proofs.Windows.{behind, behind-got}
use Rattle.blocks.specs.Specification.{put_marks}
use Rattle.blocks.specs.Records.{Rec, layout_of, put_items, put_rec}
use Rattle.blocks.specs.Offsets.{record_at}
use Rattle.blocks.proofs.GoodRecords.{good}
use Rattle.blocks.proofs.Suffixes.{specification, record_of}
use Rattle.blocks.proofs.WindowLaws.{record_at_lem}
use Rattle.blocks.proofs.RecordLaws.{Octets-tail, specification-put, record_any, record_held}

pub good-long : (c : Category) (r : Rec) → good c r ≡ true → length r.marks ≡ suc (c.most - 1)
unfolding good
good-long c r h =
    let n = length r.marks in
    eqb-true n (suc (c.most - 1)) (both (eqb n (suc (c.most - 1))) _ h).0

-- Reading back what was written: accepted, one record, the same.
pub read_back : (c : Category) (r : Rec) → good c r ≡ true → (t : List ℕ) → record_of c (put_rec c r ++ t) ≡ got r t
unfolding put_rec
read_back c r h t =
    rw (append_assoc (put_marks r.marks) (put_items (layout_of c r.marks) r.items []) t)
    (record_any c r (put_marks r.marks) (λ q. specification-put (c.most - 1) r.marks q (good-long c r h)) h [] t)

-- the record of octets from their first on, and the octets behind it
record_whole : (c : Category) (s : List ℕ) → record_of c s ≡ behind s (length s) (record_at s (length s) c 0)
record_whole c s = rw take-length at (record_at_lem s (length s) (omega arith) c 0)

record_lands : (c : Category) (s : List ℕ) (r : Rec) (t : List ℕ) → record_of c s ≡ got r t
    → (q : ℕ) × (record_at s (length s) c 0 ≡ got r q) × (drop q s ≡ t)
record_lands c s r t h =
    let (q, e, rest) = behind-got s (length s) (record_at s (length s) c 0) r t (sym (record_whole c s) ∙ h) in
    (q, e, rw take-length at rest)

-- Spare bits: the octets of an accepted record are its specification and its values with some spare bits; with any others
-- they are the same record, and the same octets are behind it.
pub spare-bits : (c : Category) (s : List ℕ) (r : Rec) (q : ℕ) → Octets s → record_at s (length s) c 0 ≡ got r q
    → (spec : List ℕ) × ((xs : List (List ℕ)) × (s ≡ spec ++ (put_items (layout_of c r.marks) r.items xs ++ drop q s)))
    × ((xs : List (List ℕ)) (t : List ℕ) → t ≡ spec ++ (put_items (layout_of c r.marks) r.items xs ++ drop q s)
    → (p : ℕ) × (record_at t (length t) c 0 ≡ got r p) × (drop p t ≡ drop q s))
spare-bits c s r q o h =
    let w = record_held c s r (drop q s) o (record_whole c s ∙ rw (h, take-length)) in (
      w.spec,
      (w.bits, w.is),
      λ xs t e. record_lands c t r (drop q s) (ap (record_of c) e ∙ record_any c r w.spec w.reads w.fine xs (drop q s)),
    )

-- how many octets does not depend on the spare bits
pub put_items-length : (fs : List Format) (trs : List Trace) (xs ys : List (List ℕ))
    → length (put_items fs trs xs) ≡ length (put_items fs trs ys)
unfolding put_items
put_items-length [] trs xs ys = refl
put_items-length (f ∷ fs) [] xs ys = refl
put_items-length (f ∷ fs) (tr ∷ trs) xs ys =
    simp (length-append, put-length f tr (get_or xs 0 []) (get_or ys 0 []), put_items-length fs trs (drop 1 xs) (drop 1 ys))

-- Rewriting never lengthens.
pub normal_short : (c : Category) (s : List ℕ) (r : Rec) (t : List ℕ) → Octets s → record_of c s ≡ got r t
    → length (put_rec c r) + length t ≤ length s
unfolding put_rec
normal_short c s r t o h =
    let w = record_held c s r t o h in
    let fs = layout_of c r.marks in
    let l = simp length-append at (ap length w.is) in
    rw length-append (omega (arith, l, put_items-length fs r.items w.bits [], w.short))

pub rest-octets : (c : Category) (s : List ℕ) (r : Rec) (t : List ℕ) → Octets s → record_of c s ≡ got r t → Octets t
rest-octets c s r t o h =
    let w = record_held c s r t o h in
    let items = put_items (layout_of c r.marks) r.items w.bits in
    Octets-tail items t (items ++ t) refl (Octets-tail w.spec (items ++ t) s w.is o)

-- FX set, and the same marks
more : (x : ℕ) → odd x ≡ false → (odd (x + 1) ≡ true) × ((x + 1) / 2 ≡ x / 2)
more x h = let e = eqb-false (x % 2) 1 h in (eq-eqb ((x + 1) % 2) 1 (omega arith), omega arith)

-- A second specification octet of zero reads as none: the marks, the items and what stands behind are the same.
specification-zero : (n x : ℕ) (s : List ℕ) → odd x ≡ false → specification (suc n) ((x + 1) ∷ 0 ∷ s) ≡ specification (suc n) (x ∷ s)
unfolding specification
specification-zero zero x s h = rw (h, (more x h).0, (more x h).1)
specification-zero (suc n) x s h = rw (h, (more x h).0, (more x h).1)

pub second-zero : (c : Category) → 2 ≤ c.most → (x : ℕ) (s : List ℕ) → odd x ≡ false → record_of c ((x + 1) ∷ 0 ∷ s) ≡ record_of c (x ∷ s)
unfolding record_of
second-zero c two x s h =
    let e : c.most - 1 ≡ suc (c.most - 2) = omega arith in
    rw (e, specification-zero (c.most - 2) x s h)
