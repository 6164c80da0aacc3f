use Rattle.std.proofs.Common.{◌≡◌, [], ◌∙◌, sym, refl, true≢false, rules, arith}
use Rattle.wear.specs.declared.reads.Going.{Going}
use Rattle.wear.proofs.TurnLaws as laws
use Rattle.wear.proofs.turns.Goals as goal

-- no octet has come
pub turns-init : goal.turns-init
turns-init c = (refl, ([], laws.waits-none c.args.buffer.now _ _ c.requires.1 c.none.ensures, omega arith))

pub take_turn-now-requires : goal.take_turn-now-requires
take_turn-now-requires c =
    let l = c.turns in
    laws.waits-room _ l.buffer _ _ l.invariant.1.1 (l.auto.buffer ∙ c.requires.0)

-- the turn goes on
pub turns-preserved : goal.turns-preserved
turns-preserved c =
    let l = c.turns in
    let on : c.take_turn-now.result.going ≡ Going.On = search (rules, c.if-ne.ensures) in
    let u = laws.turn_on _ l.buffer _ _ l.invariant.1.1 _ _ _ c.take_turn-now.ensures on in
    (on, (u.0, u.1, omega (arith, u.2, l.invariant.1.2)))

-- it does not
pub returns-then-ne : goal.returns-then-ne
returns-then-ne c =
    let l = c.turns in
    laws.turn-ends _ l.buffer _ _ l.invariant.1.1 _ _ _ c.take_turn-now.ensures
    (λ o. true≢false (sym c.if-ne.true ∙ (rw o at c.ne.ensures)))

-- turns are used up
pub returns : goal.returns
returns c =
    let l = c.turns in
    laws.waits-last _ l.buffer _ _ l.invariant.1.1 (omega (arith, l.invariant.1.2)) l.invariant.0
