-- `load_kept`: a page's cells that keep the rules are a ledger's. Assumes nothing.
use Rattle.std.proofs.Common.{rules, ◌≡◌, ◌∙◌}
use mathlib.Core.Path.{sym, subst}
use Rattle.octets.specs.Numbers.{Octets}
use Rattle.ledger.specs.Ledgers.{Held}
use Rattle.ledger.proofs.RuleLaws.{kept-rules}
use Rattle.pages.proofs.PageTheorems.{page-held}
use Rattle.pages.proofs.reading.load_kept.Goals as goal

pub invariant_of-result : goal.invariant_of-result
invariant_of-result c =
    let p = c.in_ok-page.page in
    let same : p.octets.now ≡ c.args.octets.now = search rules in
    let o : Octets p.octets.now = subst Octets (sym same) (λ j. (c.type_inv.octets j).fits) in
    let h = page-held p.form p.octets.now o p.headed in
    record { kept = kept-rules _ (subst Held (sym c.ledger-ledger.ensures) h) (sym c.is_kept.ensures ∙ c.if-is_kept.true) }
