-- `Cat242::rule` is the category's tables, of needs and of fields. Assumes nothing.
use mathlib.Core.Path.{refl}
use Rattle.layouts.proofs.Rules.{arm, past}
use borrow.Author.Rules.{rules}
use Rattle.layouts.proofs.cat242.Cat242Category.rule.Goals as goal

pub returns-in-1 : goal.returns-in-1
returns-in-1 c = arm 242 c.args._message_type 1 1 refl (search rules)

pub returns-in-2 : goal.returns-in-2
returns-in-2 c = arm 242 c.args._message_type 2 1 refl (search rules)

pub returns-in-3 : goal.returns-in-3
returns-in-3 c = arm 242 c.args._message_type 3 1 refl (search rules)

pub returns-in-4-to-5 : goal.returns-in-4-to-5
returns-in-4-to-5 c = arm 242 c.args._message_type 4 2 refl (search rules)

pub returns-in-6-to-7 : goal.returns-in-6-to-7
returns-in-6-to-7 c = arm 242 c.args._message_type 6 2 refl (search rules)

pub returns-in_default : goal.returns-in_default
returns-in_default c = arm 242 c.args._message_type 0 1 refl (search rules)

pub returns-in_default-2 : goal.returns-in_default-2
returns-in_default-2 c = past 242 _ _ (search rules)
