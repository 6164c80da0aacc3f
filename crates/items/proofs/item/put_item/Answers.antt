-- `put_item` by the item's kind. Assumes nothing.
use mathlib.Core.Path.{refl, sym, ap}
use native.Mathlib.Nat.{mul-one}
use native.Mathlib.Omega.{arith}
use Rattle.octets.specs.Numbers.{octets}
use Rattle.octets.proofs.Laying.{laid_none}
use Rattle.items.proofs.Written.{length_at, room_at, entry-wide, put-at}
use Rattle.items.proofs.item.put_item.Goals as goal

pub write-requires : goal.write-requires
write-requires c = omega (arith, length_at c.args.source.now c.args.item c.args.field _ c.requires.0 c.requires.1 c.in-Fixed.is, c.requires.2)

pub put_extended-requires : goal.put_extended-requires
put_extended-requires c = omega (arith, length_at c.args.source.now c.args.item c.args.field _ c.requires.0 c.requires.1 c.in-Extended.is, c.first_of-first.ensures, c.requires.2)

pub put_counted-requires : goal.put_counted-requires
put_counted-requires c =
    let place = c.place_of-place.ensures in
    let room = room_at c.args.source.now c.args.item c.args.field _ c.requires.0 c.requires.1 c.in-Repeated.is _ place in
    (entry-wide c.args.source.now c.args.item c.args.field _ c.requires.0 c.requires.1 c.in-Repeated.is, room.0, rw place (omega (arith, length_at c.args.source.now c.args.item c.args.field _ c.requires.0 c.requires.1 c.in-Repeated.is, c.requires.2)), room.1)

pub put_counted-requires-in-Explicit : goal.put_counted-requires-in-Explicit
put_counted-requires-in-Explicit c =
    let place = c.place_of-place.ensures in
    let room = room_at c.args.source.now c.args.item c.args.field _ c.requires.0 c.requires.1 c.in-Explicit.is _ place in
    (entry-wide c.args.source.now c.args.item c.args.field _ c.requires.0 c.requires.1 c.in-Explicit.is, room.0, rw place (omega (arith, length_at c.args.source.now c.args.item c.args.field _ c.requires.0 c.requires.1 c.in-Explicit.is, c.requires.2)), room.1)

pub returns-in-Spare : goal.returns-in-Spare
unfolding octets
returns-in-Spare c =
    let a = c.args in
    put-at c.args.source.now c.args.item c.args.field _ c.requires.0 c.requires.1 c.in-Spare.is a.out.now _ _ a.at _ 0 (sym (laid_none a.out.now a.at 0)) refl (omega arith) refl

pub returns-in-Fixed : goal.returns-in-Fixed
returns-in-Fixed c =
    let a = c.args in
    put-at c.args.source.now c.args.item c.args.field _ c.requires.0 c.requires.1 c.in-Fixed.is a.out.now _ _ a.at _ _ c.write.ensures (ap (octets _) c.first_of-first.ensures) refl refl

pub returns-in-Extended : goal.returns-in-Extended
returns-in-Extended c =
    let a = c.args in
    put-at c.args.source.now c.args.item c.args.field _ c.requires.0 c.requires.1 c.in-Extended.is a.out.now _ _ a.at _ _ c.put_extended.ensures.0 (rw (c.first_of-first.ensures, c.second_of-second.ensures)) c.put_extended.ensures.1 (rw c.first_of-first.ensures)

pub returns-in-Repeated : goal.returns-in-Repeated
returns-in-Repeated c =
    let a = c.args in
    put-at c.args.source.now c.args.item c.args.field _ c.requires.0 c.requires.1 c.in-Repeated.is a.out.now _ _ a.at _ _ c.put_counted.ensures.0 (rw (c.place_of-place.ensures, c.requires.0)) c.put_counted.ensures.1 (rw c.place_of-place.ensures)

pub returns-in-Explicit : goal.returns-in-Explicit
returns-in-Explicit c =
    let a = c.args in
    put-at c.args.source.now c.args.item c.args.field _ c.requires.0 c.requires.1 c.in-Explicit.is a.out.now _ _ a.at _ _ c.put_counted-in-Explicit.ensures.0 (rw (c.place_of-place.ensures, c.requires.0)) c.put_counted-in-Explicit.ensures.1 (rw (c.place_of-place.ensures, mul-one))
