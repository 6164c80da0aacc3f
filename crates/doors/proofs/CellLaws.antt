-- A record goes through its cells unchanged, and so it is written through them as it is written itself. Assumes nothing.
use mathlib.Core.Path.{◌≡◌, refl}
use mathlib.Core.Bool.{Bool, true, false, ◌||◌, or-true}
use mathlib.Core.List.{List, [], ◌∷◌}
use Prim.Native.Nat.{ℕ, ◌%◌, ◌^◌, ◌<◌}
use native.Mathlib.Nat.{mod-eq_of_lt}
use native.Mathlib.Omega.{arith}
use lib.Dec.{ltb, eqb}
use borrow.Author.Tests.{ltb-true, lt-ltb, lt-leb}
use Rattle.octets.specs.Choice.{pick}
use Rattle.octets.specs.Outcomes.{Outcome, no}
use Rattle.octets.specs.Refusals.{unknown_category}
use Rattle.octets.proofs.Cases.{test}
use Rattle.layouts.specs.Categories.{known, category}
use Rattle.layouts.specs.declared.form.Form.{Form}
use Rattle.layouts.specs.declared.form.Form.TheVariants.{Spare, Source, MessageType, Service, Identification, Time, Batch, Sdps, Report, Station, Configuration, Range, Status, Statistics, Versions, Expansion, Purpose}
use Rattle.blocks.specs.Marks.{flags_of}
use Rattle.blocks.specs.Records.{marks_refusal}
use Rattle.blocks.proofs.MarksLaws.{marks-refused}
use Rattle.blocks.specs.declared.record.Record.{Record}
use Rattle.writing.specs.Judged.{record_refusal}
use Rattle.writing.specs.Written.{write_of}
use Rattle.doors.specs.Cell as wear
use Rattle.doors.specs.Cells.{cell, record_cells, record_of, octet_fits, extension_fits, item_fits, all_fit, cells_refusal}
use Rattle.doors.specs.Answers.{cells_written}

-- the bits of a cell's place: 32 for marks and time, else 8; offsets and counts, which come last, have all of a cell
abbrev pub bits : ℕ → ℕ
bits i = pick (eqb i wear.marks || eqb i wear.time) 32 8

-- each value of a record fits its place, as the code's types have it
abbrev pub Held : Record → Type 0
Held t = (i : ℕ) → i < wear.entries_at → cell (record_cells t) i < 2 ^ bits i

-- what is refused by its category or marks is so in the cells and in the record
first_tests : (k : Bool) (n r : ℕ) (x : Outcome)
    → (let q = pick k (pick (eqb n 0) r n) unknown_category in
    pick (eqb (pick k n unknown_category) 0) (pick (eqb q 0) x (no q)) (no (pick k n unknown_category)) ≡ pick (eqb q 0) x (no q))
first_tests true n r x = test (eqb n 0) (λ e. rw e) (λ e. rw (e, e))
first_tests false n r x = refl

module _ (t : Record) (held : Held t) where
  abbrev cs : List ℕ
  cs = record_cells t

  low : (i : ℕ) → ltb i wear.entries_at ≡ true → cell cs i % 2 ^ bits i ≡ cell cs i
  low i h = mod-eq_of_lt (held i (ltb-true i wear.entries_at h))

  -- The record of a record's cells is the record.
  pub cells_record : record_of cs ≡ t
  unfolding record_of
  cells_record =
      simp (
        low wear.category refl,
        low wear.marks refl,
        low wear.sac refl,
        low wear.sic refl,
        low wear.type refl,
        low wear.service refl,
        low wear.sid refl,
        low wear.styp refl,
        low wear.time refl,
        low wear.batch refl,
        low wear.nogo refl,
        low wear.ovl refl,
        low wear.tsv refl,
        low wear.pss refl,
        low wear.sttn refl,
        low wear.report refl,
        low wear.gs_nogo refl,
        low wear.gs_odp refl,
        low wear.gs_oxt refl,
        low wear.gs_msc refl,
        low wear.gs_tsv refl,
        low wear.gs_spo refl,
        low wear.gs_rn refl,
        low wear.gs_extended refl,
        low wear.gssp refl,
        low wear.rp refl,
        low wear.sc refl,
        low wear.sc_extended refl,
        low wear.ssrp refl,
        low wear.range refl,
        low wear.stat refl,
      )

  small : (i : ℕ) → ltb i wear.entries_at ≡ true → bits i ≡ 8 → octet_fits cs i ≡ true
  small i h e = lt-ltb (cell cs i) (2 ^ 8) (rw e at (held i (ltb-true i wear.entries_at h)))

  extension : (e i : ℕ) → octet_fits cs e ≡ true → octet_fits cs i ≡ true → extension_fits cs e i ≡ true
  extension e i a b = simp (a, b, or-true)

  item-held : (f : Form) → item_fits cs f ≡ true
  item-held Spare = refl
  item-held Source = simp (small wear.sac refl refl, small wear.sic refl refl)
  item-held MessageType = small wear.type refl refl
  item-held Service = simp (small wear.sid refl refl, small wear.styp refl refl)
  item-held Identification = small wear.service refl refl
  item-held Time = lt-ltb (cell cs wear.time) (2 ^ 32) (held wear.time (omega arith))
  item-held Batch = small wear.batch refl refl
  item-held Sdps =
      simp (
        small wear.nogo refl refl,
        small wear.ovl refl refl,
        small wear.tsv refl refl,
        small wear.pss refl refl,
        small wear.sttn refl refl,
      )
  item-held Report = small wear.report refl refl
  item-held Station =
      rw (
        small wear.gs_nogo refl refl,
        small wear.gs_odp refl refl,
        small wear.gs_oxt refl refl,
        small wear.gs_msc refl refl,
        small wear.gs_tsv refl refl,
        small wear.gs_spo refl refl,
        small wear.gs_rn refl refl,
      )
      (extension wear.gs_extended wear.gssp (small wear.gs_extended refl refl) (small wear.gssp refl refl))
  item-held Configuration =
      rw (small wear.rp refl refl, small wear.sc refl refl)
      (extension wear.sc_extended wear.ssrp (small wear.sc_extended refl refl) (small wear.ssrp refl refl))
  item-held Range = small wear.range refl refl
  item-held Status = small wear.stat refl refl
  item-held Statistics = refl
  item-held Versions = refl
  item-held Expansion = refl
  item-held Purpose = refl

  all_held : (bs : List Bool) (fs : List Form) → all_fit cs bs fs ≡ true
  unfolding all_fit
  all_held [] fs = refl
  all_held (b ∷ bs) [] = refl
  all_held (true ∷ bs) (f ∷ fs) = rw (item-held f) (all_held bs fs)
  all_held (false ∷ bs) (f ∷ fs) = all_held bs fs

  by_record : cells_refusal cs ≡ pick (known t.category) (marks_refusal (category t.category) t.marks) unknown_category
  unfolding cells_refusal
  by_record =
      let small = held wear.marks (omega arith) in
      rw (marks-refused _ t.marks small, lt-leb (2 ^ 32) t.marks small, all_held (flags_of 32 t.marks) (category t.category).fields)

  -- Writing a record's cells is writing the record.
  pub write_taken : (s : List ℕ) → cells_written cs s ≡ write_of s t
  unfolding cells_written write_of record_refusal
  write_taken s = rw (cells_record, by_record) (first_tests (known t.category) (marks_refusal (category t.category) t.marks) _ _)
