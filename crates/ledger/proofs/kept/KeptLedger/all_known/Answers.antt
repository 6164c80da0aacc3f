use mathlib.Core.Path.{refl, sym, ◌∙◌}
use native.Mathlib.Omega.{arith}
use borrow.Author.Rules.{rules}
use borrow.Author.Tests.{tests}
use Rattle.std.proofs.lemmas.Iterator.{YieldsList-from_range}
use Rattle.std.proofs.lemmas.Iterator.Search.{all_from_yields_List}
use Rattle.ledger.proofs.RuleTests.{all_range}
use Rattle.ledger.proofs.KnownLaws.{noted-same, is_placed, placed_all}
use Rattle.ledger.proofs.kept.KeptLedger.all_known.Goals as goal

pub returns : goal.returns
returns c q =
    let report = c.args.report.now in
    let many = report.numbers.count in
    let has = is_placed report.octets.now report.numbers c.note_rows.new.places in
    let runs = YieldsList-from_range 0 many many refl (omega arith) in
    let each = all_from_yields_List has _ _ _ c.all.ensures.ran runs (λ x b q k. search (rules, tests)) in
    let noted = noted-same _ _ c.first_key.ensures.0 c.note_rows.ensures in
    placed_all _ _ _ _ noted (search rules) (sym (all_range has many) ∙ sym each ∙ q)
