-- What the doors say, case by case: cells that take the values, an output with a cell for its length, a feed. Assumes nothing.
use mathlib.Core.Path.{◌≡◌, refl, sym, ap}
use mathlib.Core.Bool.{Bool, true, false}
use mathlib.Core.List.{List, []}
use Prim.Native.Nat.{ℕ, ◌≤◌}
use borrow.Author.Tests.{le-ltb, eq-eqb, ne_eqb}
use lib.ListN.{length, set}
use Rattle.octets.specs.Numbers.{Octets, laid}
use Rattle.octets.specs.Outcomes.{Outcome, no, puts, within, output_of, listed_written}
use Rattle.octets.specs.Written.{Written}
use Rattle.octets.proofs.Laying.{laid_one}
use Rattle.octets.proofs.Outcomes.{Says}
use Rattle.blocks.specs.declared.record.Record.{Record}
use Rattle.writing.specs.Written.{write_of}
use Rattle.octets.specs.Refusals.{rules_broken}
use Rattle.ledger.specs.Ledgers.{rows_of, cells_of, answer}
use Rattle.pages.specs.Pages.{new, cells_in, page_keeps, load_of, store_of}
use Rattle.pages.specs.declared.forms.Form.{Form}
use Rattle.ledger.specs.Posts.{post_of}
use Rattle.ledger.specs.Steps.{Kept}
use Rattle.ledger.specs.Answer.{Answer}
use Rattle.pages.proofs.PageTheorems.{loaded-good}
use Rattle.feed.specs.Runs.{state, Run, run_over, zeros, done_of}
use Rattle.feed.specs.declared.run.Done.{Done}
use Rattle.doors.specs.Cells.{record_of, cells_refusal}
use Rattle.doors.specs.Answers.{is_few, refusal_or, cells_or, put_refusal, put_output, put_length, cells_written, page_posted}
use Rattle.doors.specs.Feeds.{feed_run, page_fed, fed_by, fed_of}
use Rattle.doors.specs.Fed.{Fed}

-- an answer in its cases: what is listed of it goes into the cells
module _ {A B : Type 0} (listed : A → B) (refusal : B → ℕ) (values : B → List ℕ) where
  pub filled : (k : ℕ) (l l' : List ℕ) {r a : A} {b : B} → k ≤ length l → r ≡ a → listed r ≡ b → l' ≡ laid l 0 (values (listed a))
      → (refusal (listed a) ≡ refusal_or (is_few k l) (refusal b)) × (l' ≡ cells_or (is_few k l) l (values b))
  filled k l l' h e is done =
      let same = rw e at is in
      rw (le-ltb (length l) k h, ← same) (refl, done)

-- an output lent with a cell for the length: what was said of the output, and the length put into the cell
module _ (out size : List ℕ) (x : Outcome) (some : 1 ≤ length size) {w : Written} {r n : ℕ} {out' : List ℕ}
    (says : Says out out' w (within (length out) x)) (put : (r ≡ (listed_written w).refusal) × (n ≡ (listed_written w).length)) where
  abbrev Puts : Bool → Type 0
  Puts few =
      let y = within (length out) x in
      (r ≡ put_refusal few y) × (out' ≡ put_output few out y) × (set size 0 n ≡ put_length few size y)

  pub put_all : (few : Bool) → few ≡ false → Puts few
  put_all few e =
      let said = says.2 in
      rw (e, put.0, put.1, said) (refl, says.0, sym (laid_one size 0 _ some))

  pub put_one : Puts (is_few 1 size)
  put_one = put_all _ (le-ltb (length size) 1 some)

-- the cells are refused, or their record is written
module _ (cs s : List ℕ) {n : ℕ} (judged : n ≡ cells_refusal cs) where
  pub cells_refused : (n ≡ 0 → ⊥) → cells_written cs s ≡ no n
  unfolding cells_written
  cells_refused h = rw (← judged, ne_eqb n 0 h)

  pub cells_taken : n ≡ 0 → {t : Record} → t ≡ record_of cs → cells_written cs s ≡ write_of s t
  unfolding cells_written
  cells_taken h e = rw (← judged, eq-eqb n 0 h, e)

-- what loading a page says, by the ledger that it has, which keeps the rules; and where it has none
module _ (page : List ℕ) where
  pub kept-loaded : {cells : List ℕ} → (page_keeps new page ≡ true) × (cells ≡ cells_in new page) → answer 0 cells ≡ load_of new page
  unfolding load_of
  kept-loaded w = rw w.0 (ap (answer 0) w.1)

  pub broken-loaded : page_keeps new page ≡ false → answer rules_broken (cells_of []) ≡ load_of new page
  unfolding load_of
  broken-loaded e = rw e refl

-- the page is refused, or the posting, or the ledger is stored
module _ (page s : List ℕ) (k : ℕ) {a : Answer} (loaded : a ≡ load_of new page) where
  pub load_refused : (a.refusal ≡ 0 → ⊥) → page_posted page s k ≡ no a.refusal
  unfolding page_posted
  load_refused h = rw (← loaded, ne_eqb a.refusal 0 h)

  module _ (good : a.refusal ≡ 0) {b : Answer} (posted : b ≡ post_of a.ledger.cells s k) where
    pub post_refused : (b.refusal ≡ 0 → ⊥) → page_posted page s k ≡ no b.refusal
    unfolding page_posted
    post_refused h = rw (← loaded, eq-eqb a.refusal 0 good, ← posted, ne_eqb b.refusal 0 h)

    pub post_stored_lem : b.refusal ≡ 0 → page_posted page s k ≡ store_of new b.ledger.cells
    unfolding page_posted
    post_stored_lem h = rw (← loaded, eq-eqb a.refusal 0 good, ← posted, eq-eqb b.refusal 0 h)

-- a feed: the page is refused, or the ledger that the run leaves is stored
module _ (page s : List ℕ) (over : Bool) (l : List ℕ) {a : Answer} (loaded : a ≡ load_of new page) where
  -- what became of it: the output, and what is handed on
  abbrev Becomes : List ℕ → Fed → Type 0
  Becomes out f =
      let x = within (length l) (page_fed page s over) in
      (out ≡ output_of l x) × (f ≡ fed_of x (feed_run page s over))

  pub feed-kept : Octets page → Kept a.ledger.cells
  feed-kept o = rw loaded (loaded-good Form.New page o)

  pub feed-refused : (a.refusal ≡ 0 → ⊥) → Becomes l (Fed.Refused a.refusal)
  unfolding page_fed
  feed-refused h = rw (← loaded, ne_eqb a.refusal 0 h) (refl, refl)

  -- by what the run did, and what storing said
  pub feed-stored : a.refusal ≡ 0 → {cells : List ℕ} {d : Done}
      → (let r = run_over s over (state (rows_of a.ledger.cells) zeros) in (cells ≡ cells_of r.state.rows) × (d ≡ done_of r))
      → (w : Written) {out : List ℕ} {said : Written} → Says l out said (within (length l) (store_of new cells)) → said ≡ w → Becomes out (fed_by d w)
  unfolding page_fed
  feed-stored h ran w says told =
      rw (← loaded, eq-eqb a.refusal 0 h, ← ran.0, ← told, ← ran.1, ← says.1) (says.0, refl)

-- what is handed on as a refusal is what there was to put out
pub fed-refused : (x : Outcome) (r : Run) {n : ℕ} → Fed.Refused n ≡ fed_of x r → x ≡ no n
fed-refused (no m) r e = cc
fed-refused (puts xs) r e = cc
