use mathlib.Core.Path.{◌≡◌, sym, ◌∙◌}
use mathlib.Core.List.{List}
use Prim.Native.Nat.{ℕ, zero, suc, ◌+◌, ◌-◌, ◌%◌, ◌≤◌, ◌<◌}
use native.Mathlib.Omega.{arith}
use lib.ListN.{get_or}
use borrow.Author.Tests.{le-ltb, lt-ltb}
use Rattle.octets.specs.Choice.{pick, odd}
use Rattle.octets.specs.Refusals.{passes_end}
use Rattle.layouts.specs.Ends.{chain_end}
use Rattle.layouts.specs.End.{End, At, Refused}
use Rattle.layouts.proofs.ends.Window.chain_end.Goals as goal

module _ (s : List ℕ) (len past size at : ℕ) where
  -- what stands behind a part where FX is set in it
  abbrev behind : ℕ → End
  behind zero = Refused past
  behind (suc more) = chain_end s len past 1 more (at + size)

  -- a step of the loop: no room; and FX by the part's last octet
  short : (more : ℕ) → len - at < size → chain_end s len past size more at ≡ Refused passes_end
  unfolding chain_end
  short zero h = rw (lt-ltb (len - at) size h)
  short (suc more) h = rw (lt-ltb (len - at) size h)

  step : (more i x : ℕ) → size ≤ len - at → i ≡ size - 1 → x ≡ get_or s (at + i) 0
      → chain_end s len past size more at ≡ pick (odd x) (behind more) (At (at + size))
  unfolding chain_end
  step zero i x room last is = rw (le-ltb (len - at) size room, ← last, ← is)
  step (suc more) i x room last is = rw (le-ltb (len - at) size room, ← last, ← is)

pub returns-then-self-p : goal.returns-then-self-p
returns-then-self-p c = sym (c.loop.invariant.1 ∙ short _ _ _ _ _ _ c.if-self-p.true)

pub returns-then-flag-eq0 : goal.returns-then-flag-eq0
returns-then-flag-eq0 c =
    sym (c.loop.invariant.1 ∙ step _ _ _ _ _ _ _ _ c.if-self-p.false c.last_of.ensures c.octet-flag.ensures.0 ∙ rw c.if-flag-eq0.true)

pub loop-preserved : goal.loop-preserved
loop-preserved c =
    let l = c.loop in
    let set : c.octet-flag.result % 2 ≡ 1 = omega arith in
    let one_less : c.args.more - l.counter ≡ suc (c.args.more - (l.counter + 1)) = omega arith in
    (omega arith, l.invariant.1 ∙ step _ _ _ _ _ _ _ _ c.if-self-p.false c.last_of.ensures c.octet-flag.ensures.0 ∙ rw (set, one_less))

pub returns-else-flag-eq0 : goal.returns-else-flag-eq0
returns-else-flag-eq0 c =
    let l = c.loop in
    let set : c.octet-flag.result % 2 ≡ 1 = omega arith in
    let none : c.args.more - l.counter ≡ 0 = omega arith in
    sym (l.invariant.1 ∙ step _ _ _ _ _ _ _ _ c.if-self-p.false c.last_of.ensures c.octet-flag.ensures.0 ∙ rw (set, none))
