-- `is_present`: the mandatory items are compared at once, and then each field is held to its rule. Assumes nothing.
use mathlib.Core.Path.{◌∙◌}
use Prim.Native.Nat.{◌+◌}
use native.Mathlib.Omega.{arith}
use borrow.Author.Rules.{rules}
use borrow.Author.Tests.{tests}
use Rattle.std.proofs.lemmas.Iterator.{YieldsList-from_range}
use Rattle.std.proofs.lemmas.Iterator.Search.{all_from_yields_List}
use Rattle.blocks.proofs.PresenceLaws.{lacks_one, met_at_field, met_all}
use Rattle.blocks.proofs.presence.is_present.Goals as goal

pub returns-then-has_all : goal.returns-then-has_all
returns-then-has_all c =
    let a = c.args in
    all_from_yields_List (met_at_field a.cat a.message_type a.marks) _ _ _ c.all.ensures.ran
    (YieldsList-from_range 1 (c.last_field.result + 1) c.last_field.result (cc) (omega arith)) (λ x b q k. search (rules, tests))
    ∙ met_all a.cat a.message_type a.marks _ c.last_field.ensures.0

pub returns-else-has_all : goal.returns-else-has_all
returns-else-has_all c =
    let a = c.args in
    lacks_one a.cat a.message_type a.marks c.mandatory_of.ensures c.has_all.ensures c.if-has_all.false
