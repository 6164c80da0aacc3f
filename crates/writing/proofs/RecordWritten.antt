-- A record judged and written, branch by branch. Assumes nothing.
use mathlib.Core.Path.{◌≡◌, refl, sym, ap, ◌∙◌}
use mathlib.Core.Bool.{Bool, true, false}
use mathlib.Core.List.{List, [], ◌∷◌, append-nil}
use Prim.Native.Nat.{ℕ, ◌+◌, ◌≤◌, ◌<◌}
use native.Mathlib.Omega.{arith}
use borrow.Author.Tests.{eq-eqb, ne_eqb, eqb-true, eqb-false}
use lib.Dec.{eqb}
use lib.ListN.{length, length-append}
use Rattle.octets.specs.Choice.{pick}
use Rattle.octets.specs.Numbers.{laid}
use Rattle.octets.specs.Refusals.{unknown_category, presence_broken}
use Rattle.octets.proofs.Laying.{length-laid, laid-laid}
use Rattle.layouts.specs.Categories.{known, category}
use Rattle.items.specs.Size.{Size}
use Rattle.blocks.specs.Specification.{put_marks}
use Rattle.layouts.specs.Presence.{needs_of, meets}
use Rattle.blocks.specs.Marks.{flags_of}
use Rattle.blocks.specs.Records.{present, put_rec}
use Rattle.blocks.specs.Blocks.{put_recs, put_block}
use Rattle.blocks.specs.Meaning.{sevens, rec_of}
use Rattle.blocks.specs.declared.record.Record.{Record}
use Rattle.blocks.proofs.WalkSteps.{table}
use Rattle.writing.specs.Judged.{or_else, marked_type, items_refusal, items_size, flags, fields, items_octets, marked_refusal, presence_refusal, record_refusal, record_octets, record_size}
use Rattle.octets.specs.Outcomes.{no, puts}
use Rattle.writing.specs.Written.{write_of}
use Rattle.writing.proofs.MarksWritten.{record_parts, present_by_type}
use Rattle.writing.proofs.ItemsWritten.{none_of, items_bound}

-- a size is that of no refusal, or the refusal
pub refused-size : (n k m : ℕ) → Size.Refused m ≡ pick (eqb n 0) (Size.Octets k) (Size.Refused n) → (n ≡ m) × (m ≡ 0 → ⊥)
refused-size n k m = go (eqb n 0) (eqb-false n 0)
  where
    go : (b : Bool) → (b ≡ false → n ≡ 0 → ⊥) → Size.Refused m ≡ pick b (Size.Octets k) (Size.Refused n) → (n ≡ m) × (m ≡ 0 → ⊥)
    go true f h = absurd (let z : ◌≡◌ {A = ℕ} 0 1 = cc in omega arith)
    go false f h = let e : n ≡ m = cc in (e, λ z. f refl (e ∙ z))

octets-size : (n k m : ℕ) → Size.Octets m ≡ pick (eqb n 0) (Size.Octets k) (Size.Refused n) → (n ≡ 0) × (m ≡ k)
octets-size n k m = go (eqb n 0) (eqb-true n 0)
  where
    go : (b : Bool) → (b ≡ true → n ≡ 0) → Size.Octets m ≡ pick b (Size.Octets k) (Size.Refused n) → (n ≡ 0) × (m ≡ k)
    go true f h = (f refl, cc)
    go false f h = absurd (let z : ◌≡◌ {A = ℕ} 0 1 = cc in omega arith)

-- the first of two refusals, and the second where the first is none
or_first : (n m k : ℕ) → k ≡ n → (k ≡ 0 → ⊥) → or_else n m ≡ k
or_first n m k e h = rw (← e, ne_eqb k 0 h)

or_second : (n m : ℕ) → n ≡ 0 → or_else n m ≡ m
or_second n m e = rw (eq-eqb n 0 e)

module _ (s : List ℕ) (t : Record) where
  size-refused : (n : ℕ) → record_refusal s t ≡ n → (n ≡ 0 → ⊥) → Size.Refused n ≡ record_size s t
  unfolding record_size
  size-refused n e h = rw (e, ne_eqb n 0 h)

  pub size-unknown : known t.category ≡ false → Size.Refused unknown_category ≡ record_size s t
  unfolding record_refusal
  size-unknown h = size-refused unknown_category (rw h) (λ e. omega arith)

  module _ (k : known t.category ≡ true) where
    abbrev of_items : ℕ
    of_items = items_refusal s t (flags s t) (fields s t)

    by-marks : record_refusal s t ≡ or_else (marked_refusal s t) (or_else of_items (presence_refusal s t))
    unfolding record_refusal
    by-marks = rw k

    pub size-marks : (m : ℕ) → m ≡ marked_refusal s t → (m ≡ 0 → ⊥) → Size.Refused m ≡ record_size s t
    size-marks m e h = size-refused m (by-marks ∙ or_first (marked_refusal s t) _ m e h) h

    -- so few octets that no sum of them wraps
    pub size_few : (n : ℕ) → Size.Octets n ≡ items_size s t (flags s t) (fields s t) → n ≤ 28000
    unfolding items_size
    size_few n h =
        let (e, f) = octets-size of_items _ n h in
        let w = table t.category k in
        rw f (omega (arith, items_bound s t (flags s t) (fields s t) e))

    module _ (fine : marked_refusal s t ≡ 0) where
      by-items : record_refusal s t ≡ or_else of_items (presence_refusal s t)
      by-items = by-marks ∙ or_second (marked_refusal s t) _ fine

      pub size-items : (n : ℕ) → Size.Refused n ≡ items_size s t (flags s t) (fields s t) → Size.Refused n ≡ record_size s t
      unfolding items_size
      size-items n h =
          let (e, f) = refused-size of_items _ n h in
          size-refused n (by-items ∙ or_first of_items _ n (sym e) f) f

      module _ (small : t.marks < 4294967296) (n : ℕ) (is : Size.Octets n ≡ items_size s t (flags s t) (fields s t))
          (b : Bool) (e : b ≡ meets (needs_of t.category) (marked_type t.category t.marks t.message_type) (flags_of 32 t.marks)) where
        items-fine : (of_items ≡ 0) × (n ≡ length (items_octets s t))
        unfolding items_size
        items-fine = octets-size of_items _ n is

        by_presence : record_refusal s t ≡ pick b 0 presence_broken
        by_presence =
            by-items ∙ or_second of_items _ items-fine.0 ∙ ap (λ (x : Bool). pick x 0 presence_broken) (present_by_type s t k small fine ∙ sym e)

        pub size-absent : b ≡ false → Size.Refused presence_broken ≡ record_size s t
        size-absent h = size-refused presence_broken (by_presence ∙ rw h) (λ e. omega arith)

        pub size-octets : b ≡ true → (m : ℕ) → m ≡ length (put_marks (sevens 4 t.marks)) → Size.Octets (m + n) ≡ record_size s t
        unfolding record_size
        size-octets h m l =
            rw (by_presence, h, record_parts s t k small fine, length-append, ← l, ← items-fine.1)

  -- a record that is not refused: each of its refusals is none
  pub record Fine : Type 0 where
    pub known : known t.category ≡ true
    pub marks : marked_refusal s t ≡ 0
    pub items : items_refusal s t (flags s t) (fields s t) ≡ 0
    pub present : present (category t.category) (rec_of s t).marks (rec_of s t).items ≡ true

  pub fine : record_refusal s t ≡ 0 → Fine
  unfolding record_refusal
  fine h = by-known (known t.category) refl h
    where
      by-present : (b : Bool) → present (category t.category) (rec_of s t).marks (rec_of s t).items ≡ b → pick b 0 presence_broken ≡ 0
          → present (category t.category) (rec_of s t).marks (rec_of s t).items ≡ true
      by-present true e h = e
      by-present false e h = absurd (omega arith)

      by-known : (b : Bool) → known t.category ≡ b
          → pick b (or_else (marked_refusal s t) (or_else (items_refusal s t (flags s t) (fields s t)) (presence_refusal s t))) unknown_category ≡ 0 → Fine
      by-known true e h =
          let (a, b) = none_of (marked_refusal s t) _ h in
          let (c, d) = none_of (items_refusal s t (flags s t) (fields s t)) _ b in
          record { known = e; marks = a; items = c; present = by-present _ refl d }
      by-known false e h = absurd (omega arith)

  -- The record is its specification and its items, one behind the other
  module _ (w : Fine) (small : t.marks < 4294967296) where
    pub parts-room : (at n : ℕ) → at + length (record_octets s t) ≤ n
        → at + length (put_marks (sevens 4 t.marks)) + length (items_octets s t) ≤ n
    parts-room at n h = omega (arith, rw (record_parts s t w.known small w.marks, length-append) at h)

    -- the specification laid, and then the items
    module _ (l l1 : List ℕ) (at p : ℕ) (room : at + length (record_octets s t) ≤ length l)
        (a : (l1 ≡ laid l at (put_marks (sevens 4 t.marks))) × (p ≡ at + length (put_marks (sevens 4 t.marks)))) where
      long-first : length l1 ≡ length l
      long-first = ap length a.0 ∙ length-laid l at (put_marks (sevens 4 t.marks)) (omega (arith, parts-room at (length l) room))

      pub parts-second : p + length (items_octets s t) ≤ length l1
      parts-second = omega (arith, long-first, parts-room at (length l) room, a.1)

      module _ (l2 : List ℕ) (r : ℕ) (b : (l2 ≡ laid l1 p (items_octets s t)) × (r ≡ p + length (items_octets s t))) where
        pub parts-laid : (l2 ≡ laid l at (record_octets s t)) × (r ≡ at + length (record_octets s t))
        parts-laid =
            let is = record_parts s t w.known small w.marks in (
              b.0 ∙ rw (a.0, a.1, is) (laid-laid l at (put_marks (sevens 4 t.marks)) (items_octets s t) (omega (arith, parts-room at (length l) room))),
              rw (is, length-append) (omega (arith, a.1, b.1)),
            )

-- what a size says of the block to be written
module _ (s : List ℕ) (t : Record) (n : ℕ) where
  pub write_refused : Size.Refused n ≡ record_size s t → write_of s t ≡ no n
  unfolding write_of record_size
  write_refused h = let (e, f) = refused-size (record_refusal s t) _ n h in rw (e, ne_eqb n 0 f)

  -- a record that is not refused is a block of one record, which has so many octets behind its header
  pub record Good : Type 0 where
    pub fine : record_refusal s t ≡ 0
    pub is : write_of s t ≡ puts (put_block t.category (rec_of s t ∷ []))
    pub long : n ≡ length (record_octets s t)
    pub same : put_recs (category t.category) (rec_of s t ∷ []) ≡ record_octets s t

  pub write_good : Size.Octets n ≡ record_size s t → Good
  unfolding write_of record_size record_octets put_recs
  write_good h =
      let (e, f) = octets-size (record_refusal s t) _ n h in
      record { fine = e; is = rw e; long = f; same = append-nil (put_rec (category t.category) (rec_of s t)) }
