-- `store`: 16, or what is stored of a ledger that keeps the rules. Assumes nothing.
use mathlib.Core.Path.{sym, ◌∙◌}
use Rattle.octets.proofs.Outcomes.{says-no}
use Rattle.ledger.proofs.HeldLaws.{held}
use Rattle.ledger.proofs.RuleLaws.{kept-rules}
use Rattle.pages.specs.Pages.{new}
use Rattle.pages.proofs.PutSteps.{store_broken, store_puts}
use Rattle.pages.proofs.store.Goals as goal

pub returns-then-not-is_kept : goal.returns-then-not-is_kept
returns-then-not-is_kept c = says-no _ _ _ (store_broken new _ (sym c.is_kept.ensures ∙ c.if-not-is_kept.true))

pub invariant_of-kept : goal.invariant_of-kept
invariant_of-kept c = record { kept = kept-rules _ (held c.args.ledger _ c.well_formed.0) (sym c.is_kept.ensures ∙ c.if-not-is_kept.false) }

pub returns : goal.returns
returns c = rw (store_puts new c.args.ledger.cells (sym c.is_kept.ensures ∙ c.if-not-is_kept.false)) c.store_kept.ensures
