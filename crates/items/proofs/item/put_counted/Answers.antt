-- `put_counted`: the count octet, and the entries behind it. Assumes nothing.
use native.Mathlib.Omega.{arith}
use Rattle.items.proofs.Written.{laid-behind}
use Rattle.items.proofs.item.put_counted.Goals as goal

pub returns : goal.returns
returns c =
    let a = c.args in (
      laid-behind a.out.now _ a.at 1 _ c.write.ensures _ _ c.put_entries.ensures (omega arith),
      omega arith,
    )
