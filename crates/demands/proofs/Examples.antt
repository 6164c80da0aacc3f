-- Document 01's worked examples that are marked P: one list (specs/Examples.antt), one statement. Assumes nothing.
use mathlib.Core.Path.{◌≡◌, refl}
use mathlib.Core.List.{map}
use Rattle.octets.specs.Numbers.{number, octets}
use Rattle.layouts.specs.Groups.{values, merge, fits}
use Rattle.layouts.specs.Formats.{fits_in, put}
use Rattle.layouts.specs.Offsets.{run_at, item_at}
use Rattle.layouts.specs.Layouts.{times, chain, counted, format}
use Rattle.blocks.specs.Specification.{zeros, put_marks, flags}
use Rattle.blocks.specs.Marks.{marks_of, flags_of}
use Rattle.layouts.specs.Presence.{meets}
use Rattle.blocks.specs.Headers.{header_of}
use Rattle.blocks.specs.Records.{formats, marks_spare, layout_of, unmarked, specification_refusal, present, put_items, put_rec}
use Rattle.blocks.specs.Blocks.{records_at, block_of, put_recs, put_block}
use Rattle.blocks.specs.Offsets.{specification_at, items_at, record_at}
use Rattle.blocks.specs.Walks.{read_of, run_of, rest_of, read_listed}
use Rattle.blocks.specs.Typed.{start_in, typed_rec}
use Rattle.blocks.specs.Steps.{take_by, step_by, entry_by, step_of, step_listed, entry_listed}
use Rattle.rows.specs.Rows.{add_up, row_of}
use Rattle.rows.specs.Posting.{names, new_keys, add_entry, add_all, passes, post_rows}
use Rattle.rows.specs.Order.{upto}
use Rattle.ledger.specs.Ledgers.{rows_of, table, cells_of, all_below, keeps_rules}
use Rattle.ledger.specs.Reports.{entries_from, report_in, step_at, report_of}
use Rattle.ledger.specs.Posts.{post_of}
use Rattle.writing.specs.Written.{rewrite_of}
use Rattle.demands.specs.Examples.{Example, answers, examples}

-- Each example is answered as document 01 says.
pub worked : map (λ (e : Example). answers e.octets) examples ≡ map (λ (e : Example). e.answers) examples
unfolding values merge fits number octets fits_in put times chain counted format run_at item_at zeros put_marks flags marks_of flags_of meets header_of formats marks_spare layout_of unmarked specification_refusal present put_items put_rec block_of put_recs put_block specification_at items_at record_at records_at read_of run_of rest_of read_listed take_by step_by entry_by step_of step_listed entry_listed typed_rec rewrite_of add_up row_of names new_keys add_entry add_all passes post_rows upto rows_of table cells_of all_below keeps_rules entries_from report_in step_at report_of post_of start_in
worked = refl
