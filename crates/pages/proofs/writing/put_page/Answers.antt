-- `put_page`: the head, and behind it one table after the other. Assumes nothing.
use Rattle.pages.proofs.PutSteps as steps
use borrow.Author.Rules.{rules}
use Rattle.pages.proofs.writing.put_page.Goals as goal

pub put_table-requires : goal.put_table-requires
put_table-requires c =
    steps.keys-room c.args.form c.args.ledger.now.cells _ _ c.count_of-n.ensures c.head_long-head.ensures _ c.requires
    _ c.put_head.ensures _ (search rules)

pub put_table-requires-2 : goal.put_table-requires-2
put_table-requires-2 c =
    steps.readings-room c.args.form c.args.ledger.now.cells _ _ c.count_of-n.ensures c.head_long-head.ensures _ c.requires
    _ c.put_head.ensures _ _ c.put_table.ensures (search rules) _ (search rules)

pub put_table-requires-in-New : goal.put_table-requires-in-New
put_table-requires-in-New c =
    steps.times-room c.args.form c.args.ledger.now.cells _ _ c.count_of-n.ensures c.head_long-head.ensures _ c.requires
    _ c.put_head.ensures _ _ c.put_table.ensures (search rules) _ _ c.put_table-2.ensures (search rules)
    c.in-New.is _ (search rules)

pub returns-in-Old : goal.returns-in-Old
returns-in-Old c =
    steps.page-old c.args.form c.args.ledger.now.cells _ _ c.count_of-n.ensures c.head_long-head.ensures _ c.requires
    _ c.put_head.ensures _ _ c.put_table.ensures (search rules) _ _ c.put_table-2.ensures (search rules)
    c.in-Old.is

pub returns-in-New : goal.returns-in-New
returns-in-New c =
    steps.page-new c.args.form c.args.ledger.now.cells _ _ c.count_of-n.ensures c.head_long-head.ensures _ c.requires
    _ c.put_head.ensures _ _ c.put_table.ensures (search rules) _ _ c.put_table-2.ensures (search rules)
    c.in-New.is _ _ c.put_table-in-New.ensures (search rules)
