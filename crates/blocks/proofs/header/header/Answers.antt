-- `header`: test after test. Assumes nothing.
use mathlib.Core.Path.{refl, sym, ◌∙◌}
use native.Mathlib.Omega.{arith}
use Rattle.blocks.proofs.HeaderLaws.{header-short, header-unknown, header-low, header-cut, header-fits, header-told}
use Rattle.blocks.proofs.header.header.Goals as goal

pub returns-then-s-lt3 : goal.returns-then-s-lt3
returns-then-s-lt3 c = header-told _ _ (header-short _ c.if-s-lt3.true) tt

pub returns-then-not-is_known : goal.returns-then-not-is_known
returns-then-not-is_known c = header-told _ _ (header-unknown _ (omega arith) (sym c.is_known.ensures ∙ c.if-not-is_known.true)) tt

pub returns-then-len-lt4 : goal.returns-then-len-lt4
returns-then-len-lt4 c = header-told _ _ (header-low _ (omega arith) (sym c.is_known.ensures ∙ c.if-not-is_known.false) _ c.read-len.ensures.0 c.if-len-lt4.true) tt

pub returns-then-s-len : goal.returns-then-s-len
returns-then-s-len c = header-told _ _ (header-cut _ (omega arith) (sym c.is_known.ensures ∙ c.if-not-is_known.false) _ c.read-len.ensures.0 c.if-len-lt4.false c.if-s-len.true) tt

pub returns : goal.returns
returns c = header-told _ _ (header-fits _ (omega arith) (sym c.is_known.ensures ∙ c.if-not-is_known.false) _ c.read-len.ensures.0 c.if-len-lt4.false c.if-s-len.false) refl
