-- `see`: what is seen by the starts of the record's items. Assumes nothing.
use mathlib.Core.Path.{sym, ◌∙◌}
use Rattle.blocks.proofs.AtEnd.{octet-type}
use Rattle.blocks.proofs.SmallLaws.{service-bits}
use Rattle.blocks.proofs.SeenLaws.{sees-other, sees-report}
use Rattle.blocks.proofs.statistics.see.Goals as goal

pub numbers_of-requires : goal.numbers_of-requires
numbers_of-requires c = rw c.service_at-service.ensures (service-bits _ _)

pub returns-then-is_report : goal.returns-then-is_report
returns-then-is_report c =
    let r = c.starts_at-starts.result in
    sees-report c.args.s.now c.args.len c.args.at r.marks r.end r.items c.starts_at-starts.ensures
    c.octet_at-message_type.result (c.octet_at-message_type.ensures ∙ octet-type _ _ ∙ rw c.of.ensures) (sym c.is_report.ensures ∙ c.if-is_report.true)
    _
    (c.numbers_of.ensures
    ∙ rw (
      c.source_at-source.ensures,
      c.of-then-is_report.ensures,
      c.service_at-service.ensures,
      c.of-then-is_report-2.ensures,
      c.time_at-time.ensures,
      c.of-then-is_report-3.ensures,
      c.place_at-entries.ensures,
      c.of-then-is_report-4.ensures,
    ))

pub returns-else-is_report : goal.returns-else-is_report
returns-else-is_report c =
    let r = c.starts_at-starts.result in
    sees-other c.args.s.now c.args.len c.args.at r.marks r.end r.items c.starts_at-starts.ensures
    c.octet_at-message_type.result (c.octet_at-message_type.ensures ∙ octet-type _ _ ∙ rw c.of.ensures) (sym c.is_report.ensures ∙ c.if-is_report.false)
