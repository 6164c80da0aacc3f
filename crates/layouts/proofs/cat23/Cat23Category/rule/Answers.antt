-- `Cat23::rule` is the category's tables, of needs and of fields. Assumes nothing.
use mathlib.Core.Path.{refl}
use Prim.Native.Nat.{zero-le}
use Rattle.layouts.proofs.Rules.{arm, behind, past}
use borrow.Author.Rules.{rules}
use Rattle.layouts.proofs.cat23.Cat23Category.rule.Goals as goal

pub returns-in-1 : goal.returns-in-1
returns-in-1 c = arm 23 c.args._message_type 1 1 refl (search rules)

pub returns-in-2 : goal.returns-in-2
returns-in-2 c = arm 23 c.args._message_type 2 1 refl (search rules)

pub returns-in-3 : goal.returns-in-3
returns-in-3 c = arm 23 c.args._message_type 3 1 refl (search rules)

pub returns-in-4 : goal.returns-in-4
returns-in-4 c = arm 23 c.args._message_type 4 1 refl (search rules)

pub returns-in-5 : goal.returns-in-5
returns-in-5 c = arm 23 c.args._message_type 5 1 refl (search rules)

pub returns-in-6 : goal.returns-in-6
returns-in-6 c = arm 23 c.args._message_type 6 1 refl (search rules)

pub returns-in-7 : goal.returns-in-7
returns-in-7 c = arm 23 c.args._message_type 7 1 refl (search rules)

pub returns-in-8 : goal.returns-in-8
returns-in-8 c = arm 23 c.args._message_type 8 1 refl (search rules)

pub returns-in-9 : goal.returns-in-9
returns-in-9 c = arm 23 c.args._message_type 9 1 refl (search rules)

pub returns-in-10-to-12 : goal.returns-in-10-to-12
returns-in-10-to-12 c = arm 23 c.args._message_type 10 3 refl (refl, behind 1 9 c.in-10-to-12.in_default-own.rest c.in-10-to-12.if-f-lt1-own.false, c.in-10-to-12.if-f-lt13-own.true)

pub returns-in-13-to-14 : goal.returns-in-13-to-14
returns-in-13-to-14 c = arm 23 c.args._message_type 13 2 refl (refl, c.in-13-to-14.if-f-lt13-own.false, c.in-13-to-14.if-f-lt15-own.true)

pub returns-in_default : goal.returns-in_default
returns-in_default c = arm 23 c.args._message_type 0 1 refl (refl, zero-le, c.in_default.if-f-lt1-own.true)

pub returns-in_default-2 : goal.returns-in_default-2
returns-in_default-2 c = past 23 _ _ c.in_default.if-f-lt15-own.false
