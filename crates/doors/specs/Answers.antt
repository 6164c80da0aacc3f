-- What each door answers, and what it leaves in the cells and the output that were lent to it.
use Rattle.std.specs.Prelude.{Bool, List, [], ◌∷◌, ℕ, ◌+◌, ltb, eqb, length}
use Rattle.octets.specs.Choice.{pick}
use Rattle.octets.specs.Numbers.{laid}
use Rattle.octets.specs.Outcomes.{Outcome, no, output_of, outcome_listed}
use Rattle.octets.specs.Refusals.{output_too_short}
use Rattle.blocks.specs.Walks.{ReadListed}
use Rattle.blocks.specs.Steps.{StepListed, EntryListed}
use Rattle.writing.specs.Written.{write_of}
use Rattle.pages.specs.Pages.{new, load_of, store_of}
use Rattle.ledger.specs.Posts.{post_of}
use Rattle.ledger.specs.Answer.{Answer}
use Rattle.doors.specs.Cells.{record_cells, record_of, cells_refusal}

-- WEAR_VERSION
abbrev pub version : ℕ
version = 3

-- Fewer cells than needed: 12 before all else, and nothing changed

abbrev pub is_few : ℕ → List ℕ → Bool
is_few k cells = ltb (length cells) k

abbrev pub refusal_or : Bool → ℕ → ℕ
refusal_or few n = pick few output_too_short n

-- the first of the cells that were lent take the values
abbrev pub cells_or : Bool → List ℕ → List ℕ → List ℕ
cells_or few cells values = pick few cells (laid cells 0 values)

-- The values that are handed out

abbrev pub read_cells : ReadListed → List ℕ
read_cells r = r.offset ∷ r.len ∷ r.count ∷ []

abbrev pub step_cells : StepListed → List ℕ
step_cells r = r.offset ∷ r.next ∷ record_cells r.taken

-- TYPE, REF and count, or category, main and sub version: of the two kinds one is all zero
abbrev pub entry_cells : EntryListed → List ℕ
entry_cells r =
    let c = r.counter in
    let v = r.version in
    r.offset ∷ (c.typ + v.category) ∷ (c.reference + v.main) ∷ (c.count + v.sub) ∷ []

-- Where an output is lent: the refusal, the output, and the cell of its length

abbrev pub put_refusal : Bool → Outcome → ℕ
put_refusal few x = refusal_or few (outcome_listed x).refusal

abbrev pub put_output : Bool → List ℕ → Outcome → List ℕ
put_output few out x = pick few out (output_of out x)

abbrev pub put_length : Bool → List ℕ → Outcome → List ℕ
put_length few cells x = cells_or few cells ((outcome_listed x).length ∷ [])

-- What is put out

-- the record of the cells, and its source
unfoldable pub cells_written : List ℕ → List ℕ → Outcome
cells_written cs s = pick (eqb (cells_refusal cs) 0) (write_of s (record_of cs)) (no (cells_refusal cs))

-- load, post, store
abbrev pub post_stored : Answer → Outcome
post_stored a = pick (eqb a.refusal 0) (store_of new a.ledger.cells) (no a.refusal)

abbrev pub load_posted : List ℕ → ℕ → Answer → Outcome
load_posted s k a = pick (eqb a.refusal 0) (post_stored (post_of a.ledger.cells s k)) (no a.refusal)

unfoldable pub page_posted : List ℕ → List ℕ → ℕ → Outcome
page_posted page s k = load_posted s k (load_of new page)
