-- `put_head`: four numbers, and a fifth where the page has times. Assumes nothing.
use Rattle.pages.proofs.PutSteps.{four-laid, five_laid, head-old, head-new}
use Rattle.pages.proofs.writing.put_head.Goals as goal

pub returns-in-Old : goal.returns-in-Old
returns-in-Old c =
    head-old c.args.form _ _ c.head_long-head.ensures _ _ c.in-Old.is
    (four-laid _ _ _ _ _ _ _ _ _ c.requires.1 c.write.ensures c.write-2.ensures c.write-3.ensures c.write-4.ensures)

pub returns-in-New : goal.returns-in-New
returns-in-New c =
    head-new c.args.form _ _ c.head_long-head.ensures _ _ c.in-New.is
    (five_laid _ _ _ _ _ _ _ _ _ c.requires.1 c.write.ensures c.write-2.ensures c.write-3.ensures c.write-4.ensures _ _ c.write-in-New.ensures)
