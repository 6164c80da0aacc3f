-- The track re-numbering toggle of 65/040 in the octets (02 §2).
use Rattle.std.specs.Prelude.{List, ℕ, ◌+◌, ◌/◌, ◌%◌, get_or, set}
use Rattle.blocks.specs.declared.record.Record.{Record}

-- of a record that starts at an offset and has 65/040
module _ (s : List ℕ) (start : ℕ) where
  -- its specification has a second octet where the first has FX
  abbrev pub specification_octets : ℕ
  specification_octets = 1 + get_or s start 0 % 2

  -- 65/040 stands behind 010 (2 octets), 000 (1), 015 (1) and 030 (3): in a record that has it 020 must not be (01 "Presence")
  abbrev pub sdps_start : ℕ
  sdps_start = start + specification_octets + 7

  abbrev pub sdps_octet : ℕ
  sdps_octet = get_or s sdps_start 0

  -- bit 2 of the octet
  abbrev pub toggle_bit : ℕ
  toggle_bit = sdps_octet / 2 % 2

  -- the octets with another one there
  abbrev pub other_sdps : ℕ → List ℕ
  other_sdps b = set s sdps_start b

-- a record with another toggle
abbrev pub with_toggle : ℕ → Record → Record
with_toggle v t = record {
  category = t.category;
  marks = t.marks;
  source = t.source;
  message_type = t.message_type;
  service = t.service;
  identification = t.identification;
  time = t.time;
  batch = t.batch;
  sdps = record { nogo = t.sdps.nogo; ovl = t.sdps.ovl; tsv = t.sdps.tsv; pss = t.sdps.pss; sttn = v };
  report = t.report;
  station = t.station;
  configuration = t.configuration;
  range = t.range;
  status = t.status;
  entries = t.entries;
  expansion = t.expansion;
  purpose = t.purpose;
}
