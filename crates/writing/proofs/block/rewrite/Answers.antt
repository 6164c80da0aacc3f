-- `rewrite`: the block is read, its records in normal form are counted, and then written behind the header. Assumes nothing.
use Rattle.std.proofs.Common.{sym, get_or, arith}
use Rattle.std.proofs.lemmas.Result.{err_from_is_err_and}
use Rattle.octets.specs.Numbers.{Octets}
use Rattle.octets.proofs.Outcomes.{says-no}
use Rattle.writing.proofs.GoodLaws.{Accepted, read-accepted}
use Rattle.writing.proofs.RewriteSteps.{rewrite_refused, rewrite_low, rewrite_short, rewrite_room, rewrite_whole}
use Rattle.writing.proofs.block.rewrite.Goals as goal
use Rattle.writing.proofs.block.rewrite.Goals.{In_ok-reading}

pub returns-in_err-reading : goal.returns-in_err-reading
returns-in_err-reading c =
    let p = err_from_is_err_and c.from_residual.result c.from_residual.ensures.1 in
    rw (p.1, p.2) (says-no _ _ _ (rewrite_refused _ _ _ (sym c.in_err-reading.ensures.0)))

-- the block was accepted
accepted : (c : In_ok-reading) → Octets c.args.s.now → Accepted c.args.s.now (get_or c.args.s.now 0 0) c.in_ok-reading.reading.len
accepted c o = read-accepted _ _ _ o (sym c.in_ok-reading.ensures.0)

pub bounds-s-0 : goal.bounds-s-0
bounds-s-0 c =
    let w = accepted (goal.at.bounds-s-0 c).In_ok-reading (λ j. (c.type_inv.s j).fits) in
    omega (arith, w.least, w.fits)

pub invariant_of-window : goal.invariant_of-window
invariant_of-window c =
    let o : Octets c.args.s.now = λ j. (c.type_inv.s j).fits in
    record { inside = (accepted (goal.at.invariant_of-window c).In_ok-reading o).fits; small = o }

pub invariant_of-block : goal.invariant_of-block
invariant_of-block c = record { known = (accepted (goal.at.invariant_of-block c).In_ok-reading (λ j. (c.type_inv.s j).fits)).known }

-- what is counted: no more than LEN
pub overflow_add-total : goal.overflow_add-total
overflow_add-total c =
    let o : Octets c.args.s.now = λ j. (c.type_inv.s j).fits in
    let w = accepted (goal.at.overflow_add-total c).In_ok-reading o in
    omega (arith, rewrite_low _ _ _ o w _ c.normal_size-total.ensures, w.low)

-- the output is too short
pub returns-then-out-total : goal.returns-then-out-total
returns-then-out-total c =
    let o : Octets c.args.s.now = λ j. (c.type_inv.s j).fits in
    let w = accepted (goal.at.returns-then-out-total c).In_ok-reading o in
    rewrite_short _ _ _ o w _ c.normal_size-total.ensures _ c.if-out-total.true

pub put_header-requires : goal.put_header-requires
put_header-requires c =
    let o : Octets c.args.s.now = λ j. (c.type_inv.s j).fits in
    let w = accepted (goal.at.put_header-requires c).In_ok-reading o in
    (omega (arith, c.if-out-total.false), omega (arith, rewrite_low _ _ _ o w _ c.normal_size-total.ensures, w.low))

pub put_records-requires : goal.put_records-requires
put_records-requires c =
    let o : Octets c.args.s.now = λ j. (c.type_inv.s j).fits in
    let w = accepted (goal.at.put_records-requires c).In_ok-reading o in
    rewrite_room _ _ _ o w _ c.normal_size-total.ensures _ _ c.if-out-total.false c.put_header.ensures

pub returns : goal.returns
returns c =
    let o : Octets c.args.s.now = λ j. (c.type_inv.s j).fits in
    let w = accepted (goal.at.returns c).In_ok-reading o in
    rewrite_whole _ _ _ o w _ c.normal_size-total.ensures _ _ c.if-out-total.false c.put_header.ensures _ c.put_records.ensures
