use mathlib.Core.List.{[]}
use mathlib.Core.Path.{sym, subst}
use Rattle.ledger.specs.Steps.{Kept}
use Rattle.ledger.proofs.CellLaws.{kept_of, ruled-none}
use Rattle.ledger.proofs.kept.KeptLedger.fresh.Goals as goal

pub invariant_of-result : goal.invariant_of-result
invariant_of-result c = record { kept = subst Kept (sym c.fresh.ensures) (kept_of [] ruled-none) }
