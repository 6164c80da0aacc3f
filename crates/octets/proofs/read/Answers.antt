use Rattle.std.proofs.Common.{arith}
use Rattle.octets.proofs.Numbers.{below, number_past, next_lt}
use Rattle.octets.proofs.read.Goals as goal

pub overflow_mul-v : goal.overflow_mul-v
overflow_mul-v c = omega (arith, below 7 c.loop.invariant.1 (omega arith))

pub loop-preserved : goal.loop-preserved
loop-preserved c =
    let l = c.loop in
    (number_past _ _ _ _ l.invariant.0 (omega arith), omega (arith, next_lt l.counter l.v 0 l.invariant.1 (omega arith)))
