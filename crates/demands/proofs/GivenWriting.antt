-- The refusal numbers of writing and of rewriting, each given when document 01's table says, and only then (specs/GivenWriting.antt). Assumes nothing.
use mathlib.Core.Bool.{Bool, true, false, false≢true}
use mathlib.Core.List.{List}
use mathlib.Core.Logic.{◌↔◌}
use mathlib.Core.Path.{◌≡◌, refl, sym, ap, ◌∙◌}
use Prim.Native.Nat.{ℕ, zero, suc, ◌≤◌, ◌<◌}
use native.Mathlib.Omega.{arith}
use borrow.Author.Tests.{eqb-true, eqb-false, eq-eqb, ne_eqb}
use lib.Dec.{eqb}
use lib.ListN.{length, get_or}
use Rattle.octets.specs.Choice.{pick}
use Rattle.octets.specs.Numbers.{Octets, number}
use Rattle.octets.specs.Outcomes.{no, puts}
use Rattle.octets.specs.Refusals.{unknown_category, none_marked, spare_marked, presence_broken}
use Rattle.octets.specs.Written.{Written}
use Rattle.octets.proofs.Cases.{test, choose}
use Rattle.octets.proofs.Outcomes.{no_same, not_puts}
use Rattle.layouts.specs.Layouts.{is_unused}
use Rattle.layouts.specs.Tables.{layout}
use Rattle.layouts.specs.Categories.{known, category, layout_at}
use Rattle.layouts.specs.declared.form.Form.{Form}
use Rattle.blocks.specs.Blocks.{Block, wrong, all, block_of}
use Rattle.blocks.specs.Marks.{flags_of}
use Rattle.layouts.specs.Presence.{needs_of, meets}
use Rattle.blocks.specs.Records.{marks_spare, unmarked}
use Rattle.blocks.specs.Walks.{answer_of, read_of}
use Rattle.blocks.specs.declared.record.Record.{Record}
use Rattle.blocks.proofs.BoundaryLaws.{not_accepted, read-filled}
use Rattle.blocks.proofs.ListedLaws.{read-block}
use Rattle.blocks.proofs.MarksLaws.{none-flags}
use Rattle.blocks.proofs.RecordFaults.{marks-zero, zero-marks, spare-at, at-spare}
use Rattle.writing.specs.Judged.{marked_type, items_refusal, marked_refusal, record_refusal}
use Rattle.writing.specs.Written.{write_of, rewrite_from, rewrite_of}
use Rattle.writing.proofs.MarksWritten.{present_by_type}
use Rattle.writing.proofs.ReadBackTheorems.{marks-flags}
use Rattle.demands.specs.Operations.{Writes, Rewrites}
use Rattle.demands.specs.GivenWriting.{ItemFault, Marked, item_on, NothingMarked, SpareOnMark, GoodMarks, FirstFaulty, GoodItems, its_block, TypedFault, Writable, WriteFault, normal_of, Unread, Accepted, RewriteFault}
use Rattle.demands.proofs.GivenBlocks.{reading-given, full-read}
use Rattle.demands.proofs.GivenItems.{item-fault, fault-item, not_zero, item_given_0, on, first_of, of_first, all-good, good-all, there}
use Rattle.demands.proofs.GivenOutputs.{output_given, output_written}

-- A typed record; its marks have 32 bits

module _ (s : List ℕ) (t : Record) (small : t.marks < 4294967296) where
  abbrev marks : List Bool
  marks = flags_of 32 t.marks

  abbrev forms : List Form
  forms = (category t.category).fields

  none-zero : NothingMarked s t → t.marks ≡ 0
  none-zero h = sym (marks-flags 32 t.marks small) ∙ zero-marks marks (λ i. h (suc i))

  zero-none : t.marks ≡ 0 → NothingMarked s t
  zero-none z zero m = false≢true m
  zero-none z (suc i) m = marks-zero marks (marks-flags 32 t.marks small ∙ z) i m

  spare-there : marks_spare marks forms ≡ true → SpareOnMark s t
  spare-there h = let w = spare-at marks forms h in (suc w.0, w.1, w.2)

  there-spare : SpareOnMark s t → marks_spare marks forms ≡ true
  there-spare w = go w.0 w.1 w.2
    where
      go : (f : ℕ) → Marked s t f → is_unused (layout_at (category t.category) f) ≡ true → marks_spare marks forms ≡ true
      go zero m u = absurd (false≢true m)
      go (suc i) m u = at-spare marks forms i m u

  -- the tests on the marks, and the same in words
  good-marks : known t.category ≡ true → (t.marks ≡ 0 → ⊥) → marks_spare marks forms ≡ false → GoodMarks s t
  good-marks k d f = (k, (λ h. d (none-zero h)), λ w. false≢true (sym f ∙ there-spare w))

  marks-good : GoodMarks s t → (t.marks ≡ 0 → ⊥) × (marks_spare marks forms ≡ false)
  marks-good (k, d, f) = (λ z. d (zero-none z), test (marks_spare marks forms) (λ e. absurd (f (spare-there e))) (λ e. e))

  -- a marked field is one of the category's
  used : GoodMarks s t → (i : ℕ) → get_or marks i false ≡ true → i < length forms
  used g i m =
      there forms i (test (is_unused (layout (get_or forms i Form.Spare))) (λ e. absurd (g.2 (suc i, m, e))) (λ e. e))

  -- The refusal, case by case
  by-unknown : known t.category ≡ false → record_refusal s t ≡ unknown_category
  unfolding record_refusal
  by-unknown k = rw k

  -- whether a field is marked, by the number
  no-mark : unmarked marks ≡ eqb t.marks 0
  no-mark = none-flags 32 t.marks small

  by-none : known t.category ≡ true → t.marks ≡ 0 → record_refusal s t ≡ none_marked
  unfolding record_refusal
  by-none k z = rw (k, no-mark ∙ eq-eqb t.marks 0 z)

  module _ (k : known t.category ≡ true) (d : t.marks ≡ 0 → ⊥) where
    some-mark : unmarked marks ≡ false
    some-mark = no-mark ∙ ne_eqb t.marks 0 d

    by-spare : marks_spare marks forms ≡ true → record_refusal s t ≡ spare_marked
    unfolding record_refusal
    by-spare f = rw (k, some-mark, f)

    module _ (f : marks_spare marks forms ≡ false) where
      by-item : (n : ℕ) → items_refusal s t marks forms ≡ n → (n ≡ 0 → ⊥) → record_refusal s t ≡ n
      unfolding record_refusal
      by-item n e z = rw (k, some-mark, f, e, ne_eqb n 0 z)

      fine : marked_refusal s t ≡ 0
      fine = rw (some-mark, f)

      by-present : items_refusal s t marks forms ≡ 0
          → (b : Bool) → meets (needs_of t.category) (marked_type t.category t.marks t.message_type) marks ≡ b
          → record_refusal s t ≡ pick b 0 presence_broken
      unfolding record_refusal
      by-present e b h = rw (k, some-mark, f, e, present_by_type s t k small fine, h)

  -- items by field, and by place in the list of fields
  marked-first : GoodMarks s t → (n : ℕ) → (n ≡ 0 → ⊥) → items_refusal s t marks forms ≡ n → FirstFaulty s t n
  marked-first g n z e =
      let (i, m, before, is) = first_of s t marks forms n z e in
      record { field = suc i; marked = m; before = earlier i before; fault = item-fault s (item_on s t (suc i)) n is z }
    where
      earlier : (i : ℕ) → ((j : ℕ) → j < i → get_or marks j false ≡ true → on s t forms j ≡ 0)
          → (f : ℕ) → f < suc i → Marked s t f → (m : ℕ) → ItemFault s (item_on s t f) m → ⊥
      earlier i before zero l m = absurd (false≢true m)
      earlier i before (suc j) l m = (item_given_0 s (item_on s t (suc j))).0 (before j (omega arith) m)

  first-marked : GoodMarks s t → (n : ℕ) → FirstFaulty s t n → items_refusal s t marks forms ≡ n
  first-marked g n w = go w.field w.marked w.before w.fault
    where
      go : (f : ℕ) → Marked s t f → ((g : ℕ) → g < f → Marked s t g → (m : ℕ) → ItemFault s (item_on s t g) m → ⊥) → ItemFault s (item_on s t f) n
          → items_refusal s t marks forms ≡ n
      go zero m before x = absurd (false≢true m)
      go (suc i) m before x =
          of_first s t marks forms n i (not_zero s (item_on s t (suc i)) n x) (used g i m) m
          (λ j l b. (item_given_0 s (item_on s t (suc j))).1 (before (suc j) (omega arith) b)) (fault-item s (item_on s t (suc i)) n x)

  items-good : GoodMarks s t → items_refusal s t marks forms ≡ 0 → GoodItems s t
  items-good g e zero m = absurd (false≢true m)
  items-good g e (suc i) m = (item_given_0 s (item_on s t (suc i))).0 (all-good s t marks forms e i (used g i m) m)

  good-items : GoodItems s t → items_refusal s t marks forms ≡ 0
  good-items h = good-all s t marks forms (λ i l m. (item_given_0 s (item_on s t (suc i))).1 (h (suc i) m))

  typed-fault : (n : ℕ) → record_refusal s t ≡ n → (n ≡ 0 → ⊥) → TypedFault s t n
  typed-fault n e z =
      test (known t.category)
      (λ k. test (eqb t.marks 0) (λ a. let o = eqb-true _ _ a in TypedFault.none k (zero-none o) (sym e ∙ by-none k o)) λ a.
      let d = eqb-false _ _ a in
      test (marks_spare marks forms) (λ b. TypedFault.spare k (spare-there b) (sym e ∙ by-spare k d b)) λ b.
      let g = good-marks k d b in
      test (eqb (items_refusal s t marks forms) 0)
      (λ c. let f = eqb-true _ _ c in
      test (meets (needs_of t.category) (marked_type t.category t.marks t.message_type) marks)
      (λ p. absurd (z (sym e ∙ by-present k d b f true p)))
      (λ p. TypedFault.absent g (items-good g f) p (sym e ∙ by-present k d b f false p)))
      (λ c. TypedFault.item g (marked-first g n z (sym (by-item k d b _ refl (eqb-false _ _ c)) ∙ e))))
      (λ k. TypedFault.unknown k (sym e ∙ by-unknown k))

  fault-typed : (n : ℕ) → TypedFault s t n → (record_refusal s t ≡ n) × (n ≡ 0 → ⊥)
  fault-typed n (TypedFault.unknown k e) = (by-unknown k ∙ sym e, λ z. omega arith)
  fault-typed n (TypedFault.none k h e) = (by-none k (none-zero h) ∙ sym e, λ z. omega arith)
  fault-typed n (TypedFault.spare k w e) = (by-spare k (λ z. zero-none z w.0 w.1) (there-spare w) ∙ sym e, λ z. omega arith)
  fault-typed n (TypedFault.item g w) =
      let (d, f) = marks-good g in
      let z = not_zero s (item_on s t w.field) n w.fault in
      (by-item g.0 d f n (first-marked g n w) z, z)
  fault-typed n (TypedFault.absent g h p e) =
      let (d, f) = marks-good g in
      (by-present g.0 d f (good-items h) false p ∙ sym e, λ z. omega arith)

  -- 2, 6, 5, then by item 7, 8, 11; then 10.
  pub typed-given : (n : ℕ) → ((record_refusal s t ≡ n) × (n ≡ 0 → ⊥)) ↔ TypedFault s t n
  typed-given n = (λ w. typed-fault n w.0 w.1, fault-typed n)

  pub typed_given_0 : (record_refusal s t ≡ 0) ↔ Writable s t
  typed_given_0 = (
    λ e m w. let (f, z) = fault-typed m w in z (sym f ∙ e),
    λ h. test (eqb (record_refusal s t) 0) (eqb-true _ _) (λ e. absurd (h (record_refusal s t) (typed-fault _ refl (eqb-false _ _ e)))),
  )

  -- what is to be put out
  write_no : (n : ℕ) → (write_of s t ≡ no n) ↔ TypedFault s t n
  unfolding write_of
  write_no n =
      choose (λ x. (x ≡ no n) ↔ TypedFault s t n) (eqb (record_refusal s t) 0)
      (λ a. (λ e. absurd (not_puts (sym e)), λ w. let (f, z) = fault-typed n w in absurd (z (sym f ∙ eqb-true _ _ a))))
      (λ a. (λ e. let is = no_same e in typed-fault n is (λ z. eqb-false _ _ a (is ∙ z)), λ w. ap no (fault-typed n w).0))

  write_puts : (xs : List ℕ) → (write_of s t ≡ puts xs) ↔ (Writable s t × (its_block s t ≡ xs))
  unfolding write_of
  write_puts xs =
      choose (λ x. (x ≡ puts xs) ↔ (Writable s t × (its_block s t ≡ xs))) (eqb (record_refusal s t) 0)
      (λ a. (λ e. (typed_given_0.0 (eqb-true _ _ a), cc), λ w. ap puts w.1))
      (λ a. (λ e. absurd (not_puts e), λ w. absurd (eqb-false _ _ a (typed_given_0.1 w.0))))

  module _ (l out : List ℕ) (n : ℕ) (r : Written) (h : Writes s t l out r) where
    -- 2, 6, 5, 7, 8, 11, 10 and 12 of a record to be written: given when, and only then; and no other number.
    pub write_given : (r ≡ Written.Refused n) ↔ WriteFault s t l n
    write_given = output_given (write_of s t) (TypedFault s t) (Writable s t) (its_block s t) write_no write_puts l n r h.1

    -- Else the record goes out as a block, and its length is answered.
    pub write_written : (r ≡ Written.Octets n) ↔ (Writable s t × (length (its_block s t) ≤ length l) × (n ≡ length (its_block s t)))
    write_written = output_written (write_of s t) (TypedFault s t) (Writable s t) (its_block s t) write_no write_puts l n r h.1

-- Rewriting

module _ (s : List ℕ) (o : Octets s) where
  by-block : (b : Block) → block_of s ≡ b → read_of s ≡ answer_of (number 2 s 1) b
  by-block b e = read-block s ∙ ap (answer_of (number 2 s 1)) e

  rewrite_no : (n : ℕ) → (rewrite_of s ≡ no n) ↔ Unread s n
  unfolding rewrite_of
  rewrite_no n = go (block_of s) refl
    where
      go : (b : Block) → block_of s ≡ b → (rewrite_from b ≡ no n) ↔ Unread s n
      go (wrong m at) e = (
        λ is. (at, (reading-given s n at o).0 (rw (no_same is) at (by-block (wrong m at) e))),
        λ w. let q = sym (by-block (wrong m at) e) ∙ (reading-given s n w.0 o).1 w.1 in cc,
      )
      go (all cat rs) e = (
        λ is. absurd (not_puts (sym is)),
        λ w. absurd (not_accepted (sym ((reading-given s n w.0 o).1 w.1) ∙ by-block (all cat rs) e)),
      )

  rewrite_puts : (xs : List ℕ) → (rewrite_of s ≡ puts xs) ↔ (Accepted s × (normal_of (block_of s) ≡ xs))
  unfolding rewrite_of
  rewrite_puts xs = go (block_of s) refl
    where
      go : (b : Block) → block_of s ≡ b → (rewrite_from b ≡ puts xs) ↔ (Accepted s × (normal_of b ≡ xs))
      go (wrong m at) e = (
        λ is. absurd (not_puts is),
        λ w. let (len, count, f) = w.0 in absurd (not_accepted (sym (by-block (wrong m at) e) ∙ full-read s len count f)),
      )
      go (all cat rs) e = (
        λ is. ((number 2 s 1, length rs, read-filled s (number 2 s 1) (length rs) o (by-block (all cat rs) e)), cc),
        λ w. ap puts w.1,
      )

  module _ (l out : List ℕ) (n : ℕ) (r : Written) (h : Rewrites s l out r) where
    -- 1 to 11 of the block, then 12.
    pub rewrite_given : (r ≡ Written.Refused n) ↔ RewriteFault s l n
    rewrite_given = output_given (rewrite_of s) (Unread s) (Accepted s) (normal_of (block_of s)) rewrite_no rewrite_puts l n r h.1

    -- Else the normal form goes out, and its length is answered.
    pub rewrite_written : (r ≡ Written.Octets n) ↔ (Accepted s × (length (normal_of (block_of s)) ≤ length l) × (n ≡ length (normal_of (block_of s))))
    rewrite_written = output_written (rewrite_of s) (Unread s) (Accepted s) (normal_of (block_of s)) rewrite_no rewrite_puts l n r h.1
