-- The numbers of a post: each case of a verdict (specs/Verdicts.antt) implies that answer, no two cases hold together, and the answer is the verdict's.
-- Assumes nothing.
use mathlib.Core.List.{List}
use mathlib.Core.Logic.{◌↔◌}
use mathlib.Core.Path.{◌≡◌, sym, ap, ◌∙◌}
use Prim.Native.Nat.{ℕ, ◌≤◌}
use native.Mathlib.Omega.{arith}
use borrow.Author.Tests.{ne_eqb}
use lib.Dec.{eqb}
use Rattle.octets.specs.Choice.{pick}
use Rattle.octets.specs.Numbers.{Octets}
use Rattle.blocks.proofs.BoundaryLaws.{read-stopped}
use Rattle.ledger.specs.Ledgers.{answer}
use Rattle.ledger.specs.Answer.{Answer}
use Rattle.ledger.specs.declared.Ledger.{Ledger}
use Rattle.demands.specs.Operations.{Posts}
use Rattle.demands.specs.Verdicts.{Verdict, broken, unread, missing, other, full, past, added, case}
use Rattle.demands.proofs.GivenBlocks.{read_refusals}
use Rattle.demands.proofs.Verdicts.{refusal_of, verdict}

-- an answer is its refusal and its ledger
made-answer : (n : ℕ) (r : Answer) → r.refusal ≡ n → answer n r.ledger.cells ≡ r
made-answer n r e = ap (λ m. answer m r.ledger.cells) (sym e)

module _ (l : Ledger) (s : List ℕ) (k : ℕ) (o : Octets s) where
  -- A post is answered n exactly where n is its verdict.
  pub posts_given : (n : ℕ) (r : Answer) → Posts l s k r → (r.refusal ≡ n) ↔ Verdict l s k n
  posts_given n r h = (
    λ e. verdict l s k n o r.ledger (made-answer n r e ∙ h),
    λ v. ap (λ (a : Answer). a.refusal) h ∙ refusal_of l s k n o v,
  )

  -- Two verdicts have the same refusal,
  pub one-refusal : (n m : ℕ) → Verdict l s k n → Verdict l s k m → n ≡ m
  one-refusal n m v w = sym (refusal_of l s k n o v) ∙ refusal_of l s k m o w

  -- the case that a refusal tells
  abbrev case_of : ℕ → ℕ
  case_of n = pick (eqb n 16) 1 (pick (eqb n 17) 3 (pick (eqb n 13) 4 (pick (eqb n 14) 5 (pick (eqb n 15) 6 (pick (eqb n 0) 7 2)))))

  read-case : (n : ℕ) → (1 ≤ n) × (n ≤ 11) → 2 ≡ case_of n
  read-case n h =
      rw (
        ne_eqb n 16 (λ e. omega arith),
        ne_eqb n 17 (λ e. omega arith),
        ne_eqb n 13 (λ e. omega arith),
        ne_eqb n 14 (λ e. omega arith),
        ne_eqb n 15 (λ e. omega arith),
        ne_eqb n 0 (λ e. omega arith),
      )

  case_of_lem : (n : ℕ) (v : Verdict l s k n) → case v ≡ case_of n
  case_of_lem n (broken f e) = rw e
  case_of_lem n (unread y at e) = read-case n (read_refusals s n at o (read-stopped s n at o e))
  case_of_lem n (missing y len count r h e) = rw e
  case_of_lem n (other t c f e) = rw e
  case_of_lem n (full t c y h e) = rw e
  case_of_lem n (past t c y h p e) = rw e
  case_of_lem n (added t c y h p e) = rw e

  -- and are the same case: no two of the cases hold together.
  pub one-case : (n m : ℕ) (v : Verdict l s k n) (w : Verdict l s k m) → case v ≡ case w
  one-case n m v w = case_of_lem n v ∙ ap case_of (one-refusal n m v w) ∙ sym (case_of_lem m w)
