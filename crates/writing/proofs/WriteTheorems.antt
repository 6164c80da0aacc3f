-- The theorems on writing one record: what is put out is accepted as one record, which means what was given; it is its own rewriting.
-- Assumes nothing.
use mathlib.Core.Path.{◌≡◌, refl, sym, ap, ◌∙◌}
use mathlib.Core.Bool.{Bool, true, false}
use mathlib.Core.List.{List, [], ◌∷◌, ◌++◌, append-nil}
use Prim.Native.Nat.{ℕ, suc, ◌+◌, ◌-◌, ◌<◌}
use native.Mathlib.Omega.{arith}
use borrow.Author.Tests.{eq-eqb, eqb-true}
use lib.Dec.{eqb}
use lib.ListN.{length, length-append}
use Rattle.octets.specs.Choice.{pick}
use Rattle.octets.specs.Numbers.{Octets, number}
use Rattle.layouts.specs.Categories.{category}
use Rattle.layouts.proofs.Parsed.{and_yes}
use Rattle.blocks.specs.Records.{layout_of, specification_refusal, put_rec}
use Rattle.blocks.specs.Blocks.{Block, all, block_of, put_recs, put_block}
use Rattle.blocks.proofs.GoodRecords.{items_fit, good, all_good}
use Rattle.blocks.specs.Walks.{answer_of, read_of}
use Rattle.blocks.specs.Meaning.{sevens, rec_of}
use Rattle.blocks.specs.declared.record.Record.{Record}
use Rattle.blocks.specs.Reading.{Reading}
use Rattle.blocks.proofs.WalkSteps.{by-known, table}
use Rattle.blocks.proofs.BlockLaws.{record_some, block-put, put-len}
use Rattle.blocks.proofs.ListedLaws.{read-block}
use Rattle.writing.specs.Judged.{record_refusal, record_octets, flags, fields}
use Rattle.octets.specs.Outcomes.{no, puts}
use Rattle.writing.specs.Written.{write_of, rewrite_of}
use Rattle.writing.proofs.MarksWritten.{length-marks, layout-same, marks-good, record_parts}
use Rattle.writing.proofs.ItemsWritten.{items-fit, items_bound}
use Rattle.writing.proofs.RecordWritten.{fine}
use Rattle.writing.proofs.OctetsWritten.{marks-short, sevens-are, block-are}
use Rattle.writing.proofs.BlockSteps.{block-long}
use Rattle.writing.proofs.RewriteTheorems.{not_puts, rewrite_read}

module _ (s : List ℕ) (t : Record) (small : t.marks < 4294967296) where
  -- a record that is not refused is one that may be put, and its octets fit LEN
  pub written-good : record_refusal s t ≡ 0 → good (category t.category) (rec_of s t) ≡ true
  unfolding good rec_of
  written-good h =
      let w = fine s t h in
      let c = category t.category in
      let some : suc (c.most - 1) ≡ c.most = omega (arith, (table t.category w.known).some) in
      let r = rec_of s t in
      let long : eqb (length r.marks) (suc (c.most - 1)) ≡ true = eq-eqb (length r.marks) (suc (c.most - 1)) (length-marks c.most t.marks ∙ sym some) in
      let marks : eqb (specification_refusal c r.marks) 0 ≡ true
      = eq-eqb (specification_refusal c r.marks) 0 (marks-good s t w.known small w.marks) in
      let items : items_fit (layout_of c r.marks) r.items ≡ true
      = rw (layout-same s t w.known small w.marks) (items-fit s t (flags s t) (fields s t) w.items) in
      and_yes long (and_yes marks (and_yes items w.present))

  pub written-short : record_refusal s t ≡ 0 → length (record_octets s t) < 65000
  written-short h =
      let w = fine s t h in
      let few = table t.category w.known in
      rw (record_parts s t w.known small w.marks, length-append)
      (omega (arith, marks-short (sevens 4 t.marks), length-marks 4 t.marks, items_bound s t (flags s t) (fields s t) w.items))

  module _ (xs : List ℕ) (h : write_of s t ≡ puts xs) where
    -- what was written: a record that is not refused
    pub accepted : (record_refusal s t ≡ 0) × (xs ≡ put_block t.category (rec_of s t ∷ []))
    unfolding write_of
    accepted = go (eqb (record_refusal s t) 0) (eqb-true (record_refusal s t) 0) h
      where
        go : (b : Bool) → (b ≡ true → record_refusal s t ≡ 0)
            → pick b (puts (put_block t.category (rec_of s t ∷ []))) (no (record_refusal s t)) ≡ puts xs
            → (record_refusal s t ≡ 0) × (xs ≡ put_block t.category (rec_of s t ∷ []))
        go true f e = (f refl, cc)
        go false f e = absurd (not_puts e)

    same : put_recs (category t.category) (rec_of s t ∷ []) ≡ record_octets s t
    unfolding put_recs record_octets
    same = append-nil (put_rec (category t.category) (rec_of s t))

    fits : 3 + length (put_recs (category t.category) (rec_of s t ∷ [])) < 65536
    fits = rw same (omega (arith, written-short accepted.0))

    -- It is accepted as one record, which has the marks and the values that were given, whatever stands behind it.
    pub write_accepted : (u : List ℕ) → block_of (xs ++ u) ≡ all t.category (rec_of s t ∷ [])
    unfolding all_good record_octets
    write_accepted u =
        let g = written-good accepted.0 in
        rw accepted.1
        (block-put t.category (rec_of s t ∷ []) u (fine s t accepted.0).known (and_yes g refl)
        (rw same (record_some (category t.category) (rec_of s t) g)) fits)

    -- It is its own rewriting.
    pub write_normal : (u : List ℕ) → rewrite_of (xs ++ u) ≡ puts xs
    write_normal u = rewrite_read (xs ++ u) t.category (rec_of s t ∷ []) (write_accepted u) ∙ ap puts (sym accepted.1)

    -- Its answer: its own length, and one record.
    pub write_reading : (u : List ℕ) → read_of (xs ++ u) ≡ Reading.Accepted (length xs) 1
    write_reading u =
        let long : length xs ≡ length (put_recs (category t.category) (rec_of s t ∷ [])) + 3
        = ap length accepted.1 ∙ block-long t.category (rec_of s t ∷ []) in
        let len : number 2 (xs ++ u) 1 ≡ length xs
        = ap (λ (x : List ℕ). number 2 (x ++ u) 1) accepted.1 ∙ put-len t.category (rec_of s t ∷ []) u fits ∙ omega arith in
        read-block (xs ++ u) ∙ ap (λ (b : Block). answer_of (number 2 (xs ++ u) 1) b) (write_accepted u)
        ∙ ap (λ (n : ℕ). Reading.Accepted n 1) len

    -- What is put out are octets.
    pub write_octets : Octets xs
    unfolding rec_of
    write_octets =
        let w = fine s t accepted.0 in
        let cat : t.category < 256 = by-known (λ (n : ℕ). n < 256) (omega arith) (omega arith) (omega arith) t.category w.known in
        rw accepted.1 (block-are t.category (rec_of s t ∷ []) cat (sevens-are (category t.category).most t.marks, tt))
