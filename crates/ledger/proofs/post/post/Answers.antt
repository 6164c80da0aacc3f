-- `post`: a ledger that keeps the rules, and one that breaks them. Assumes nothing.
use mathlib.Core.Path.{sym, ap, ◌∙◌}
use Rattle.ledger.specs.Ledgers.{answer}
use Rattle.ledger.proofs.HeldLaws.{held}
use Rattle.ledger.proofs.RuleLaws.{kept-rules}
use Rattle.ledger.proofs.PostSteps.{post_broken, post_kept}
use Rattle.ledger.proofs.post.post.Goals as goal

pub returns-then-not-is_kept : goal.returns-then-not-is_kept
returns-then-not-is_kept c = post_broken _ _ _ (sym c.is_kept.ensures ∙ c.if-not-is_kept.true)

pub invariant_of-kept : goal.invariant_of-kept
invariant_of-kept c = record { kept = kept-rules _ (held c.args.ledger _ c.well_formed.0) (sym c.is_kept.ensures ∙ c.if-not-is_kept.false) }

pub returns : goal.returns
returns c =
    ap (answer _) c.from.ensures ∙ c.post_record-answer.ensures ∙ post_kept _ _ _ (sym c.is_kept.ensures ∙ c.if-not-is_kept.false)
