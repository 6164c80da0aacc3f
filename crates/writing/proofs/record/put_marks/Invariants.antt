-- `put_marks`: laying all octets is laying those of the marks left at p, since those before lie there. Assumes nothing.
use mathlib.Core.Path.{◌≡◌}
use Prim.Native.Nat.{◌+◌, ◌^◌, ◌<◌}
use lib.ListN.{length}
use Rattle.octets.specs.Numbers.{laid}
use Rattle.blocks.specs.Specification.{put_marks}
use Rattle.blocks.specs.Meaning.{sevens}
use Rattle.writing.proofs.record.put_marks.Given as goal

abbrev pub invariant-loop-p : goal.invariant-loop-p
invariant-loop-p l =
    (l.left < 128 ^ 4)
    × (l.at + length (put_marks (sevens 4 l.marks)) ≡ l.p + length (put_marks (sevens 4 l.left)))
    × (laid l.initial.out l.at (put_marks (sevens 4 l.marks)) ≡ laid l.out l.p (put_marks (sevens 4 l.left)))
