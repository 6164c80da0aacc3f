-- `octets_of` by the item's kind. Assumes nothing.
use mathlib.Core.Path.{sym}
use Rattle.items.proofs.Written.{length_at}
use Rattle.items.proofs.item.octets_of.Goals as goal

pub returns-in-Spare : goal.returns-in-Spare
returns-in-Spare c = sym (length_at c.args.source.now c.args.item c.args.field _ c.requires.0 c.requires.1 c.in-Spare.is)

pub returns-in-Fixed : goal.returns-in-Fixed
returns-in-Fixed c = sym (length_at c.args.source.now c.args.item c.args.field _ c.requires.0 c.requires.1 c.in-Fixed.is)

pub returns-in-Extended : goal.returns-in-Extended
returns-in-Extended c = rw c.first_of.ensures (sym (length_at c.args.source.now c.args.item c.args.field _ c.requires.0 c.requires.1 c.in-Extended.is))

pub returns-in-Repeated : goal.returns-in-Repeated
returns-in-Repeated c = rw c.place_of-place.ensures (sym (length_at c.args.source.now c.args.item c.args.field _ c.requires.0 c.requires.1 c.in-Repeated.is))

pub returns-in-Explicit : goal.returns-in-Explicit
returns-in-Explicit c = rw c.place_of-place.ensures (sym (length_at c.args.source.now c.args.item c.args.field _ c.requires.0 c.requires.1 c.in-Explicit.is))
