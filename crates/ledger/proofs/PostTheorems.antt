-- What a post does to a ledger: the rows' laws, at the ledger. Assumes nothing.
use mathlib.Core.Bool.{false}
use mathlib.Core.List.{List}
use mathlib.Core.Path.{◌≡◌, ap, sym, ◌∙◌, subst}
use Prim.Native.Nat.{ℕ, ◌≤◌}
use native.Mathlib.Omega.{arith}
use Rattle.octets.specs.Numbers.{Octets}
use Rattle.octets.specs.Refusals.{rules_broken}
use Rattle.octets.proofs.Cases.{test}
use Rattle.rows.specs.Rows.{row_of, life_of, add_up}
use Rattle.rows.specs.Posting.{Posted, post_rows}
use Rattle.rows.proofs.Theorems.{all_or_nothing, never_falls, adding_key, adding_grows}
use Rattle.ledger.specs.Ledgers.{answer, rows_of, cells_of, keeps_rules, Held}
use Rattle.ledger.specs.Posts.{post_of}
use Rattle.ledger.specs.Reports.{report_of}
use Rattle.ledger.specs.Steps.{Kept}
use Rattle.ledger.specs.Answer.{Answer}
use Rattle.ledger.proofs.CellLaws.{rows_back, kept_of}
use Rattle.ledger.proofs.NarrowLaws.{octets-fit, post_ruled}
use Rattle.ledger.proofs.RuleLaws.{kept-rules, rules-kept}

module _ (s : List ℕ) (k : ℕ) where
  abbrev on_rows : List ℕ → Posted
  on_rows cells = post_rows add_up (rows_of cells) (report_of s k)

  abbrev posted : List ℕ → List ℕ
  posted cells = (post_of cells s k).ledger.cells

  -- A ledger that keeps the rules
  module _ (cells : List ℕ) (kept : Kept cells) where
    -- the answer is that of posting to its rows, and the ledger is that of the rows left
    pub posted-is : post_of cells s k ≡ answer (on_rows cells).refusal (cells_of (on_rows cells).rows)
    unfolding post_of
    posted-is = rw (rules-kept cells kept)

    pub posted-rows : rows_of (posted cells) ≡ (on_rows cells).rows
    posted-rows = ap (λ (a : Answer). rows_of a.ledger.cells) posted-is ∙ rows_back (on_rows cells).rows

    pub posted-kept : Octets s → Kept (posted cells)
    posted-kept o =
        subst (λ (a : Answer). Kept a.ledger.cells) (sym posted-is) (kept_of (on_rows cells).rows (post_ruled (rows_of cells) (report_of s k) (kept.good, kept.narrow) (octets-fit s k o)))

    same_kept : ((post_of cells s k).refusal ≡ 0 → ⊥) → posted cells ≡ cells
    same_kept h =
        ap (λ (a : Answer). a.ledger.cells) posted-is
        ∙ ap cells_of (all_or_nothing add_up (rows_of cells) (report_of s k) (λ e. h (ap (λ (a : Answer). a.refusal) posted-is ∙ e))) ∙ sym kept.rest

    grows_kept : (c : ℕ) → life_of (row_of (rows_of cells) c) ≤ life_of (row_of (rows_of (posted cells)) c)
    grows_kept c = rw posted-rows (never_falls add_up adding_key adding_grows (rows_of cells) (report_of s k) kept.good.rises c)

  -- Any ledger: one that breaks the rules is answered 16 and given back
  module _ (cells : List ℕ) (held : Held cells) where
    broken : keeps_rules cells ≡ false → post_of cells s k ≡ answer rules_broken cells
    unfolding post_of
    broken f = rw f

    -- a refused post gives the ledger back unchanged
    pub posted-same : ((post_of cells s k).refusal ≡ 0 → ⊥) → posted cells ≡ cells
    posted-same h =
        test (keeps_rules cells) (λ t. same_kept cells (kept-rules cells held t) h) (λ f. ap (λ (a : Answer). a.ledger.cells) (broken f))

    -- no post lowers a life count
    pub posted_grows : (c : ℕ) → life_of (row_of (rows_of cells) c) ≤ life_of (row_of (rows_of (posted cells)) c)
    posted_grows c =
        test (keeps_rules cells) (λ t. grows_kept cells (kept-rules cells held t) c) (λ f. rw (posted, broken f) (omega arith))
