-- Demand 1: a refusal leaves the output and the ledger as they stood. That an operation answers at all, for every input, is its contract: none has a
-- `requires`. That what breaks a rule gets the number of its first fault is in the files Given*.antt. Assumes nothing.
use mathlib.Core.Bool.{Bool, true, false}
use mathlib.Core.List.{List, [], ◌∷◌}
use mathlib.Core.Path.{◌≡◌, ap, sym, ◌∙◌}
use Prim.Native.Nat.{ℕ, ◌≤◌, ◌<◌}
use borrow.Author.Tests.{lt-ltb, le-ltb}
use lib.ListN.{length, take, replicate}
use Rattle.octets.specs.Numbers.{Octets, laid}
use Rattle.octets.specs.Outcomes.{Outcome, no, puts, within, output_of, outcome_listed}
use Rattle.octets.specs.Refusals.{output_too_short}
use Rattle.blocks.specs.declared.record.Record.{Record}
use Rattle.writing.specs.Written.{write_of, rewrite_of}
use Rattle.octets.specs.Written.{Written}
use Rattle.ledger.specs.Ledgers.{answer, Held}
use Rattle.pages.specs.Pages.{new, store_of, load_of, turn_of}
use Rattle.pages.specs.declared.forms.Form.{Form}
use Rattle.pages.specs.declared.forms.Table.{Table}
use Rattle.ledger.specs.Answer.{Answer}
use Rattle.ledger.specs.declared.Ledger.{Ledger}
use Rattle.ledger.proofs.CellLaws.{ledger_same}
use Rattle.pages.proofs.PageTheorems.{store_load, load_store}
use Rattle.ledger.proofs.PostTheorems.{posted-same}
use Rattle.doors.specs.Cell.{feed_cell_count}
use Rattle.doors.specs.Feeds.{is_over, feed_run, page_fed, feed_cells}
use Rattle.demands.specs.Operations.{Writes, Rewrites, Posts, Loads, Stores, Turns, WearFeeds, PutsOut}
use Rattle.octets.proofs.Outcomes.{refused-same}
use Rattle.demands.proofs.GivenOutputs.{goes_out, went_out}
use Rattle.demands.proofs.GivenPages.{store_puts}

-- A refusal leaves the output as it stood.
pub refused-writing : (s : List ℕ) (t : Record) (l out : List ℕ) (n : ℕ) → Writes s t l out (Written.Refused n) → out ≡ l
refused-writing s t l out n h = refused-same (write_of s t) l out n h.0 h.1

pub refused-rewriting : (s l out : List ℕ) (n : ℕ) → Rewrites s l out (Written.Refused n) → out ≡ l
refused-rewriting s l out n h = refused-same (rewrite_of s) l out n h.0 h.1

pub refused-storing : (l : Ledger) (o out : List ℕ) (n : ℕ) → Stores l o out (Written.Refused n) → out ≡ o
refused-storing l o out n h = refused-same (store_of new l.cells) o out n h.0 h.1

pub refused_turning : (from to : List Table) (s o out : List ℕ) (n : ℕ) → Turns from to s o out (Written.Refused n) → out ≡ o
refused_turning from to s o out n h = refused-same (turn_of from to s) o out n h.0 h.1

-- A refused door that puts out leaves the output as it stood, and a length of 0; with fewer cells than it needs the answer is 12, and nothing is changed.
module _ (few : Bool) (x : Outcome) (l size out after : List ℕ) (r : ℕ) (h : PutsOut few x l size out after r) where
  pub refused_putting : few ≡ false → (r ≡ 0 → ⊥) → (out ≡ l) × (after ≡ laid size 0 (0 ∷ []))
  refused_putting enough not-0 = go (within (length l) x) (rw enough at h)
    where
      go : (y : Outcome) → (r ≡ (outcome_listed y).refusal) × (out ≡ output_of l y) × (after ≡ laid size 0 ((outcome_listed y).length ∷ []))
          → (out ≡ l) × (after ≡ laid size 0 (0 ∷ []))
      go (no n) w = (w.1, w.2)
      go (puts xs) w = absurd (not-0 w.0)

  pub few_putting : few ≡ true → (r ≡ output_too_short) × (out ≡ l) × (after ≡ size)
  few_putting e = rw e at h

-- A refused post gives the ledger back unchanged, whichever entry refused it.
pub refused-posting : (l : Ledger) → Held l.cells → (s : List ℕ) (k n : ℕ) (m : Ledger) → Posts l s k (answer n m.cells) → (n ≡ 0 → ⊥)
    → m ≡ l
refused-posting l held s k n m h not-0 =
    ap (λ (a : Answer). a.ledger) h ∙ ledger_same (posted-same s k l.cells held (λ e. not-0 (ap (λ (a : Answer). a.refusal) h ∙ e)))

-- A refused feed leaves the output as it stood, and zeros in its cells; with fewer cells than it needs the answer is 12, and nothing is changed.
module _ (page s : List ℕ) (more : ℕ) (l cells out after : List ℕ) (r : ℕ) (h : WearFeeds page s more l cells out after r) where
  pub refused_feeding : feed_cell_count ≤ length cells → (r ≡ 0 → ⊥) → (out ≡ l) × (after ≡ laid cells 0 (replicate feed_cell_count 0))
  refused_feeding enough not-0 = go (within (length l) (page_fed page s (is_over more))) (rw (le-ltb (length cells) feed_cell_count enough) at h)
    where
      go : (x : Outcome) → (r ≡ (outcome_listed x).refusal) × (out ≡ output_of l x) × (after ≡ laid cells 0 (feed_cells x (feed_run page s (is_over more))))
          → (out ≡ l) × (after ≡ laid cells 0 (replicate feed_cell_count 0))
      go (no n) w = (w.1, w.2)
      go (puts xs) w = absurd (not-0 w.0)

  pub few_feeding : length cells < feed_cell_count → (r ≡ output_too_short) × (out ≡ l) × (after ≡ cells)
  few_feeding few = rw (lt-ltb (length cells) feed_cell_count few) at h

-- Load after store gives the ledger back, with its times: of the n octets that were stored;
pub stored_loaded : (l : Ledger) → Held l.cells → (o out : List ℕ) (n : ℕ) → Stores l o out (Written.Octets n)
    → (r : Answer) → Loads (take n out) r → r ≡ answer 0 l.cells
stored_loaded l held o out n h r e =
    let p = (store_puts l (take n out)).0 (went_out (store_of new l.cells) o out n h.0 h.1) in
    e ∙ ap (load_of new) (sym p.1) ∙ store_load l.cells held p.0

-- and store after load the octets, wherever there is room for them.
pub loaded-stored : (s : List ℕ) → Octets s → (l : Ledger) → Loads s (answer 0 l.cells)
    → (o out : List ℕ) (r : Written) → length s ≤ length o → Stores l o out r → (r ≡ Written.Octets (length s)) × (take (length s) out ≡ s)
loaded-stored s okay l h o out r room k =
    goes_out (store_of new l.cells) s o out r (load_store Form.New s okay l.cells (sym h)) room k.0 k.1
