-- `record_by`: each item is read at its start, and the record is made of what is read. Assumes nothing.
use mathlib.Core.Path.{◌∙◌}
use Rattle.blocks.proofs.AtEnd.{octet-type, octet-report}
use Rattle.blocks.proofs.block.Block.record_by.Goals as goal

pub returns : goal.returns
returns c = simp (
  c.of.ensures,
  c.source_at.ensures,
  c.of-2.ensures,
  c.octet_at.ensures ∙ octet-type _ _,
  c.of-3.ensures,
  c.service_at.ensures,
  c.of-4.ensures,
  c.octet_at-2.ensures,
  c.of-5.ensures,
  c.time_at.ensures,
  c.of-6.ensures,
  c.octet_at-3.ensures,
  c.of-7.ensures,
  c.sdps_at.ensures,
  c.of-8.ensures,
  c.octet_at-4.ensures ∙ octet-report _ _,
  c.of-9.ensures,
  c.station_at.ensures,
  c.of-10.ensures,
  c.configuration_at.ensures,
  c.of-11.ensures,
  c.octet_at-5.ensures,
  c.of-12.ensures,
  c.status_at.ensures,
  c.entries_form.ensures,
  c.of-13.ensures,
  c.place_at.ensures,
  c.of-14.ensures,
  c.place_at-2.ensures,
  c.of-15.ensures,
  c.place_at-3.ensures,
)
