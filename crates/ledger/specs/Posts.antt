-- Posting to a ledger (01 "Ledger"): 16, then the report's own refusals, then 14 and 15; all or nothing.
use Rattle.std.specs.Prelude.{List, ℕ}
use Rattle.octets.specs.Choice.{pick}
use Rattle.octets.specs.Refusals.{rules_broken}
use Rattle.rows.specs.Rows.{add_up}
use Rattle.rows.specs.Posting.{Report, post_rows}
use Rattle.ledger.specs.Ledgers.{answer, rows_of, changed, keeps_rules}
use Rattle.ledger.specs.Reports.{report_of}
use Rattle.ledger.specs.Answer.{Answer}

-- a report posted to a ledger that keeps the rules
abbrev pub posted_to : List ℕ → Report → Answer
posted_to cells x = answer (post_rows add_up (rows_of cells) x).refusal (changed (λ rows. (post_rows add_up rows x).rows) cells)

-- octets and a record number, posted to any ledger
unfoldable pub post_of : List ℕ → List ℕ → ℕ → Answer
post_of cells s k = pick (keeps_rules cells) (posted_to cells (report_of s k)) (answer rules_broken cells)
