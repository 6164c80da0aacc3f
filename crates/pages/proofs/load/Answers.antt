-- `load`: the ledger of the page, or a fresh one. Assumes nothing.
use mathlib.Core.Path.{ap, ◌∙◌}
use Rattle.octets.specs.Refusals.{rules_broken}
use Rattle.ledger.specs.Ledgers.{answer}
use Rattle.pages.specs.Pages.{load_of}
use Rattle.pages.proofs.load.Goals as goal

pub returns-in-Ok : goal.returns-in-Ok
unfolding load_of
returns-in-Ok c = let w = c.in-Ok.ensures.kept in rw w.0 (ap (answer 0) (c.from.ensures ∙ w.1))

pub returns-in-Err : goal.returns-in-Err
unfolding load_of
returns-in-Err c = let w = c.in-Err.ensures.broken in rw (w.0, w.1) (ap (answer rules_broken) c.fresh.ensures)
