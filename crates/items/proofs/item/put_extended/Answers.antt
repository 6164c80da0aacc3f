-- `put_extended`: the part, and the extension behind it. Assumes nothing.
use native.Mathlib.Omega.{arith}
use Rattle.items.proofs.Written.{laid-extended}
use Rattle.items.proofs.item.put_extended.Goals as goal

pub returns-then-first-eq1 : goal.returns-then-first-eq1
returns-then-first-eq1 c =
    let a = c.args in (
      laid-extended a.out.now _ a.at a.size a.first c.write.ensures _ _ c.write-then-first-eq1.ensures (omega arith) c.if-first-eq1.true,
      omega arith,
    )
