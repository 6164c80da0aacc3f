use Rattle.std.proofs.Common.{rules, arith, refl, ◌+◌}
use Rattle.octets.specs.Numbers.{number}
use Rattle.octets.proofs.Numbers.{below, number-next, next_lt}
use Rattle.octets.proofs.spelled.Goals as goal

pub loop-i-init : goal.loop-i-init
unfolding number
loop-i-init c = (refl, search rules)

pub overflow_mul-v : goal.overflow_mul-v
overflow_mul-v c = omega (arith, below 7 c.loop-i.invariant.1 (omega arith))

pub overflow_add-v-in-loop-i : goal.overflow_add-v-in-loop-i
overflow_add-v-in-loop-i c = omega (arith, below 7 c.loop-i.invariant.1 (omega arith), c.type_inv.s (c.args.at + c.loop-i.i))

pub loop-i-preserved : goal.loop-i-preserved
loop-i-preserved c =
    let l = c.loop-i in
    let a = c.args in
    (number-next l.i a.s.now a.at l.v l.invariant.0, next_lt l.i l.v _ l.invariant.1 (c.type_inv.s (a.at + l.i)).fits)
