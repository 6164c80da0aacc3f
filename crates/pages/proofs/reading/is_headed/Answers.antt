-- `is_headed`: the tests are the definition's, with the numbers as they were read. Assumes nothing.
use Rattle.std.proofs.Common.{arith}
use Rattle.pages.proofs.PageSteps.{head-tests}
use Rattle.pages.proofs.reading.is_headed.Goals as goal

pub returns-then-read-length : goal.returns-then-read-length
returns-then-read-length c =
    rw (head-tests c.args.form c.args.octets.now _ _ _ c.head_long-head.ensures c.page_length-length.ensures c.read-n.ensures.0) (grind arith)

pub returns-else-read-length : goal.returns-else-read-length
returns-else-read-length c =
    rw (head-tests c.args.form c.args.octets.now _ _ _ c.head_long-head.ensures c.page_length-length.ensures c.read-n.ensures.0) (grind arith)
