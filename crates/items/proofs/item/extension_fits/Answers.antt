-- `extension_fits`: by FX, and then by the octet behind it. Assumes nothing.
use mathlib.Core.Path.{sym, ◌∙◌}
use Prim.Native.Nat.{◌+◌, ◌%◌}
use native.Mathlib.Omega.{arith}
use lib.ListN.{get_or}
use borrow.Author.Tests.{eq-eqb}
use Rattle.items.proofs.Ranges.{before-fx}
use Rattle.items.proofs.item.extension_fits.Goals as goal

pub returns-else-s-last-eq0 : goal.returns-else-s-last-eq0
returns-else-s-last-eq0 c =
    let a = c.args in
    rw (eq-eqb (get_or a.s.now a.last 0 % 2) 1 (omega (arith, c.if-s-last-eq0.false)))
    (c.within.ensures ∙ sym (before-fx _ _ _ (c.type_inv.s (a.last + 1)).fits))
