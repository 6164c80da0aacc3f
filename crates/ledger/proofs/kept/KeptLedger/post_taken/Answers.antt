-- `post_taken`: a record that is no statistics report; a report posted. Assumes nothing.
use mathlib.Core.Path.{sym, ◌∙◌}
use Rattle.ledger.proofs.PostSteps.{post_other, post_statistics}
use Rattle.ledger.proofs.kept.KeptLedger.post_taken.Goals as goal

pub returns-then-not-is_statistics : goal.returns-then-not-is_statistics
returns-then-not-is_statistics c = post_other _ c.args.self.now.kept _ _ (sym c.is_statistics.ensures ∙ c.if-not-is_statistics.true)

pub returns : goal.returns
returns c =
    post_statistics _ c.args.self.now.kept _ _ (sym c.is_statistics.ensures ∙ c.if-not-is_statistics.false)
    _ c.statistics_of.ensures _ c.post_report.ensures
