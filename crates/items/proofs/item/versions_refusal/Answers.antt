-- `versions_refusal`: what refuses the place, and then a version out of range. Assumes nothing.
use mathlib.Core.Path.{refl}
use Rattle.std.proofs.lemmas.Result.{err_from_is_err_and}
use Rattle.octets.proofs.Refusals.{number-some}
use Rattle.items.proofs.Judged.{versions-refused, versions-judged}
use Rattle.items.proofs.item.versions_refusal.Goals as goal

pub returns-in_err-place_refusal : goal.returns-in_err-place_refusal
returns-in_err-place_refusal c =
    let p = err_from_is_err_and c.from_residual.result c.from_residual.ensures.1 in
    rw (p.1, p.2)
    (versions-refused c.args.source.now c.args.place _ _ c.requires c.in_err-place_refusal.ensures (number-some _))

pub returns-then-versions_fit : goal.returns-then-versions_fit
returns-then-versions_fit c = rw c.if-versions_fit.true at (versions-judged c.args.source.now c.args.place _ _ c.requires c.in_ok-place_refusal.ensures refl _ c.versions_fit.ensures)

pub returns-else-versions_fit : goal.returns-else-versions_fit
returns-else-versions_fit c = rw c.if-versions_fit.false at (versions-judged c.args.source.now c.args.place _ _ c.requires c.in_ok-place_refusal.ensures refl _ c.versions_fit.ensures)
