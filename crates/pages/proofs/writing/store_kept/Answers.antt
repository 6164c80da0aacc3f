-- `store_kept`: 12, then the page. Assumes nothing.
use mathlib.Core.Path.{ap, ◌∙◌}
use native.Mathlib.Omega.{arith}
use Rattle.pages.specs.Pages.{tables_of, page_length}
use Rattle.pages.proofs.PutSteps.{store_short, store_whole}
use Rattle.pages.proofs.writing.store_kept.Goals as goal

pub page_length-size-requires : goal.page_length-size-requires
page_length-size-requires c = omega (arith, c.count_of.ensures, c.args.ledger.now.kept.few)

pub returns-then-out-size : goal.returns-then-out-size
returns-then-out-size c =
    store_short (tables_of c.args.form) _ _ (c.page_length-size.ensures ∙ ap (page_length (tables_of c.args.form)) c.count_of.ensures) _ c.if-out-size.true

pub put_page-requires : goal.put_page-requires
put_page-requires c =
    omega (arith, c.if-out-size.false, c.page_length-size.ensures, ap (page_length (tables_of c.args.form)) c.count_of.ensures)

pub returns : goal.returns
returns c =
    store_whole (tables_of c.args.form) _ _ (c.page_length-size.ensures ∙ ap (page_length (tables_of c.args.form)) c.count_of.ensures) _ _
    c.if-out-size.false c.put_page.ensures
