-- The entries of a report where it stands.
use Rattle.std.specs.Prelude.{List}
use Rattle.rows.specs.Rows.{Entry}
use Rattle.ledger.specs.declared.report.Report.{Report}
use Rattle.ledger.specs.Reports.{entries_at}

abbrev pub entries_in : Report → List Entry
entries_in r = entries_at r.octets.now r.numbers
