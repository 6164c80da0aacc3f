use mathlib.Core.Path.{sym, ◌∙◌}
use Rattle.ledger.proofs.HeldLaws.{held}
use Rattle.ledger.proofs.RuleLaws.{kept-rules}
use Rattle.ledger.proofs.kept.KeptLedger.of.Goals as goal

pub invariant_of-result : goal.invariant_of-result
invariant_of-result c = record { kept = kept-rules _ (held c.args.ledger _ c.well_formed.0) (sym c.is_kept.ensures ∙ c.if-is_kept.true) }
