use Rattle.std.proofs.Common.{ℕ, ◌≡◌, ◌∙◌, ◌+◌, ◌-◌, ◌<◌, arith, ap, sym, length}
use Prim.Native.Nat.{suc}
use Rattle.octets.specs.Numbers.{octets, laid}
use Rattle.octets.proofs.Laying.{laid-last, laid_none}
use Rattle.octets.proofs.write.Goals as goal

pub loop-i-preserved : goal.loop-i-preserved
loop-i-preserved c =
    let a = c.args in
    let l = c.loop-i in
    let j = l.i - 1 in
    let e : l.i ≡ suc j = omega arith in
    let inside : a.at + j < length l.out = omega arith in
    l.invariant ∙ ap (λ (n : ℕ). laid l.out a.at (octets n l.w)) e ∙ laid-last j l.out a.at l.w inside

pub returns : goal.returns
returns c =
    let l = c.loop-i in
    let z : l.i ≡ 0 = omega arith in
    sym (l.invariant ∙ ap (λ (n : ℕ). laid l.out c.args.at (octets n l.w)) z ∙ laid_none l.out c.args.at l.w)
