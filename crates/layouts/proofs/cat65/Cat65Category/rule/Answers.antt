-- `Cat65::rule` is the category's tables, of needs and of fields. Assumes nothing.
use mathlib.Core.Path.{refl}
use Rattle.layouts.specs.Presence.{types65, rows65}
use Rattle.layouts.proofs.Rules.{arm, arm-untyped, past}
use borrow.Author.Rules.{rules}
use Rattle.layouts.proofs.cat65.Cat65Category.rule.Goals as goal

pub returns-in-1-f : goal.returns-in-1-f
returns-in-1-f c = arm 65 1 1 1 refl (search rules)

pub returns-in-4 : goal.returns-in-4
returns-in-4 c = arm 65 1 4 1 refl (search rules)

pub returns-in-5 : goal.returns-in-5
returns-in-5 c = arm 65 1 5 1 refl (search rules)

pub returns-in-6 : goal.returns-in-6
returns-in-6 c = arm 65 1 6 1 refl (search rules)

pub returns-in-7 : goal.returns-in-7
returns-in-7 c = arm 65 1 7 1 refl (search rules)

pub returns-in-2-to-3 : goal.returns-in-2-to-3
returns-in-2-to-3 c = arm 65 1 2 2 refl (search rules)

pub returns-in-8-to-12 : goal.returns-in-8-to-12
returns-in-8-to-12 c = arm 65 1 8 5 refl (search rules)

pub returns-in-13-to-14 : goal.returns-in-13-to-14
returns-in-13-to-14 c = arm 65 1 13 2 refl (search rules)

pub returns-in_default-f : goal.returns-in_default-f
returns-in_default-f c = arm 65 1 0 1 refl (search rules)

pub returns-in_default-f-5 : goal.returns-in_default-f-5
returns-in_default-f-5 c = past 65 _ _ (search rules)

pub returns-in-1-f-2 : goal.returns-in-1-f-2
returns-in-1-f-2 c = arm 65 2 1 1 refl (search rules)

pub returns-in-4-f : goal.returns-in-4-f
returns-in-4-f c = arm 65 2 4 1 refl (search rules)

pub returns-in-5-f : goal.returns-in-5-f
returns-in-5-f c = arm 65 2 5 1 refl (search rules)

pub returns-in-2-to-3-f : goal.returns-in-2-to-3-f
returns-in-2-to-3-f c = arm 65 2 2 2 refl (search rules)

pub returns-in-6-to-7 : goal.returns-in-6-to-7
returns-in-6-to-7 c = arm 65 2 6 2 refl (search rules)

pub returns-in-8-to-12-f : goal.returns-in-8-to-12-f
returns-in-8-to-12-f c = arm 65 2 8 5 refl (search rules)

pub returns-in-13-to-14-f : goal.returns-in-13-to-14-f
returns-in-13-to-14-f c = arm 65 2 13 2 refl (search rules)

pub returns-in_default-f-2 : goal.returns-in_default-f-2
returns-in_default-f-2 c = arm 65 2 0 1 refl (search rules)

pub returns-in_default-f-2-2 : goal.returns-in_default-f-2-2
returns-in_default-f-2-2 c = past 65 _ _ (search rules)

pub returns-in-1-f-3 : goal.returns-in-1-f-3
returns-in-1-f-3 c = arm 65 3 1 1 refl (search rules)

pub returns-in-4-f-2 : goal.returns-in-4-f-2
returns-in-4-f-2 c = arm 65 3 4 1 refl (search rules)

pub returns-in-7-f : goal.returns-in-7-f
returns-in-7-f c = arm 65 3 7 1 refl (search rules)

pub returns-in-2-to-3-f-2 : goal.returns-in-2-to-3-f-2
returns-in-2-to-3-f-2 c = arm 65 3 2 2 refl (search rules)

pub returns-in-5-to-6 : goal.returns-in-5-to-6
returns-in-5-to-6 c = arm 65 3 5 2 refl (search rules)

pub returns-in-8-to-12-f-2 : goal.returns-in-8-to-12-f-2
returns-in-8-to-12-f-2 c = arm 65 3 8 5 refl (search rules)

pub returns-in-13-to-14-f-2 : goal.returns-in-13-to-14-f-2
returns-in-13-to-14-f-2 c = arm 65 3 13 2 refl (search rules)

pub returns-in_default-f-3 : goal.returns-in_default-f-3
returns-in_default-f-3 c = arm 65 3 0 1 refl (search rules)

pub returns-in_default-f-3-2 : goal.returns-in_default-f-3-2
returns-in_default-f-3-2 c = past 65 _ _ (search rules)

pub returns-in-1-f-4 : goal.returns-in-1-f-4
returns-in-1-f-4 c = arm-untyped 65 types65 rows65 refl refl 1 1 refl _ (search rules)

pub returns-in-4-f-3 : goal.returns-in-4-f-3
returns-in-4-f-3 c = arm-untyped 65 types65 rows65 refl refl 4 1 refl _ (search rules)

pub returns-in-2-to-3-f-3 : goal.returns-in-2-to-3-f-3
returns-in-2-to-3-f-3 c = arm-untyped 65 types65 rows65 refl refl 2 2 refl _ (search rules)

pub returns-in-5-to-7 : goal.returns-in-5-to-7
returns-in-5-to-7 c = arm-untyped 65 types65 rows65 refl refl 5 3 refl _ (search rules)

pub returns-in-8-to-12-f-3 : goal.returns-in-8-to-12-f-3
returns-in-8-to-12-f-3 c = arm-untyped 65 types65 rows65 refl refl 8 5 refl _ (search rules)

pub returns-in-13-to-14-f-3 : goal.returns-in-13-to-14-f-3
returns-in-13-to-14-f-3 c = arm-untyped 65 types65 rows65 refl refl 13 2 refl _ (search rules)

pub returns-in_default-f-4 : goal.returns-in_default-f-4
returns-in_default-f-4 c = arm-untyped 65 types65 rows65 refl refl 0 1 refl _ (search rules)

pub returns-in_default-f-4-2 : goal.returns-in_default-f-4-2
returns-in_default-f-4-2 c = past 65 _ _ (search rules)
