use mathlib.Core.Path.{refl, ◌∙◌}
use native.Mathlib.Omega.{arith}
use borrow.Author.Rules.{rules}
use borrow.Author.Tests.{tests}
use Rattle.std.proofs.lemmas.Iterator.{YieldsList-from_range}
use Rattle.std.proofs.lemmas.Iterator.Search.{all_from_yields_List}
use Rattle.ledger.specs.Ledgers.{place_keeps}
use Rattle.ledger.proofs.RuleTests.{all_range, rules-many, rules_each}
use Rattle.ledger.proofs.rules.is_kept.Goals as goal

pub returns-then-count_of-le-ROWS : goal.returns-then-count_of-le-ROWS
returns-then-count_of-le-ROWS c =
    let cells = c.args.cells.now in
    all_from_yields_List (place_keeps cells) _ _ _ c.all.ensures.ran (YieldsList-from_range 0 256 256 refl refl) (λ x b q k. search (rules, tests))
    ∙ all_range (place_keeps cells) 256
    ∙ rules_each cells (omega (arith, c.count_of.ensures, c.if-count_of-le-ROWS.true))

pub returns-else-count_of-le-ROWS : goal.returns-else-count_of-le-ROWS
returns-else-count_of-le-ROWS c = rw c.count_of.ensures (rules-many _ (omega (arith, c.count_of.ensures, c.if-count_of-le-ROWS.false)))
