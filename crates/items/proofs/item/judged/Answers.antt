-- `judged`: a refusal stays, and an end by the item's values. Assumes nothing.
use mathlib.Core.Path.{refl, sym, ap, ◌∙◌}
use Rattle.std.proofs.lemmas.Result.{err_from_is_err_and}
use Rattle.layouts.specs.End.{as_end}
use Rattle.items.proofs.Passed.{pass_refused, pass_at}
use Rattle.items.proofs.item.judged.Goals as goal

pub returns-in_err-q : goal.returns-in_err-q
returns-in_err-q c =
    let a = c.args in
    let p = err_from_is_err_and c.from_residual.result c.from_residual.ensures.1 in
    rw (p.1, p.2)
    (pass_refused a.window.now.octets.now a.window.now.len a.window.now.small a.form a.at _ refl _ (sym c.requires.1 ∙ ap as_end c.in_err-q.was))

pub returns-then-varying_fits : goal.returns-then-varying_fits
returns-then-varying_fits c =
    let a = c.args in
    rw c.if-varying_fits.true at
    (pass_at a.window.now.octets.now a.window.now.len a.window.now.small a.form a.at _ refl _ _ (sym c.requires.1 ∙ ap as_end c.in_ok-q.was) c.varying_fits.ensures)

pub returns-else-varying_fits : goal.returns-else-varying_fits
returns-else-varying_fits c =
    let a = c.args in
    rw c.if-varying_fits.false at
    (pass_at a.window.now.octets.now a.window.now.len a.window.now.small a.form a.at _ refl _ _ (sym c.requires.1 ∙ ap as_end c.in_ok-q.was) c.varying_fits.ensures)
