-- `put_entries`: the entries before i lie there. Assumes nothing.
use mathlib.Core.Path.{◌≡◌}
use Rattle.octets.specs.Numbers.{laid}
use Rattle.layouts.specs.Layouts.{entry_group}
use Rattle.layouts.specs.Tables.{layout}
use Rattle.items.proofs.Entries.{entries}
use Rattle.items.proofs.item.put_entries.Given as goal

abbrev pub invariant-loop-i : goal.invariant-loop-i
invariant-loop-i l = l.out ≡ laid l.initial.out l.at (entries l.i (entry_group (layout l.form)) l.source l.from)
