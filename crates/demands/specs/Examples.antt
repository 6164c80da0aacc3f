-- Document 01's worked examples that are marked P, as the requests of 02 amend them: the octets, and everything that the box answers to them.
use Rattle.std.specs.Prelude.{List, [], ◌∷◌, ℕ}
use Rattle.blocks.specs.Walks.{ReadListed, read_refused, read_accepted, read_listed}
use Rattle.blocks.specs.Typed.{nowhere}
use Rattle.blocks.specs.Steps.{StepListed, step_refused, step_taken, step_listed, EntryListed, entry_refused, counter_found, version_found, entry_listed}
use Rattle.blocks.specs.declared.record.Record.{Record}
use Rattle.rows.specs.Rows.{Row}
use Rattle.ledger.specs.Ledgers.{answer, cells_of}
use Rattle.ledger.specs.Posts.{post_of}
use Rattle.ledger.specs.Answer.{Answer}
use Rattle.octets.specs.Outcomes.{Outcome, no, puts}
use Rattle.writing.specs.Written.{rewrite_of}

-- what is answered to octets: by reading, by a step from 3, for that record's first entry, by rewriting, and by posting it to a fresh ledger
pub record Answers : Type 0 where
  pub reading : ReadListed
  pub step : StepListed
  pub entry : EntryListed
  pub rewriting : Outcome
  pub posting : Answer

abbrev pub answers : List ℕ → Answers
answers s = record {
  reading = read_listed s;
  step = step_listed s 3;
  entry = entry_listed s 3 0;
  rewriting = rewrite_of s;
  posting = post_of (cells_of []) s 0;
}

-- a record that is refused, in a block of one
abbrev pub refused : ℕ → Answers
refused n = record {
  reading = read_refused n 3;
  step = step_refused n 3;
  entry = entry_refused n 3;
  rewriting = no n;
  posting = answer n (cells_of []);
}

-- a block of one record, with the refusal and the rows that posting it gives
abbrev pub posted : ℕ → List Row → ℕ → Record → EntryListed → List ℕ → Answers
posted n rows len t e xs = record {
  reading = read_accepted len 1;
  step = step_taken t len;
  entry = e;
  rewriting = puts xs;
  posting = answer n (cells_of rows);
}

-- one that is no statistics report
abbrev pub accepted : ℕ → Record → EntryListed → List ℕ → Answers
accepted = posted 13 []

-- no entry of this number
abbrev pub no_entry : EntryListed
no_entry = entry_refused 17 0

-- SAC 1, SIC 2, type 1, service 7, a time, degraded (1), overload (1), TSV 0, SDPS-2 (2), a toggle; fields 1, 2, 3, 4 and 6
abbrev pub sdps_record : ℕ → ℕ → Record
sdps_record time sttn = record {
  category = 65;
  marks = 47;
  source = record { sac = 1; sic = 2 };
  message_type = 1;
  service = record { sid = 0; styp = 0 };
  identification = 7;
  time = record { 0 = time };
  batch = 0;
  sdps = record { nogo = 1; ovl = 1; tsv = 0; pss = 2; sttn = sttn };
  report = 0;
  station = record { nogo = 0; odp = 0; oxt = 0; msc = 0; tsv = 0; spo = 0; rn = 0; extended = 0; gssp = record { 0 = 0 } };
  configuration = record { rp = record { 0 = 0 }; sc = 0; extended = 0; ssrp = record { 0 = 0 } };
  range = 0;
  status = 0;
  entries = nowhere;
  expansion = nowhere;
  purpose = nowhere;
}

-- SAC 1, SIC 2, time 0, one version, behind REP at offset 9; fields 1, 2 and 3
abbrev pub version_record : Record
version_record = record {
  category = 242;
  marks = 7;
  source = record { sac = 1; sic = 2 };
  message_type = 0;
  service = record { sid = 0; styp = 0 };
  identification = 0;
  time = record { 0 = 0 };
  batch = 0;
  sdps = record { nogo = 0; ovl = 0; tsv = 0; pss = 0; sttn = 0 };
  report = 0;
  station = record { nogo = 0; odp = 0; oxt = 0; msc = 0; tsv = 0; spo = 0; rn = 0; extended = 0; gssp = record { 0 = 0 } };
  configuration = record { rp = record { 0 = 0 }; sc = 0; extended = 0; ssrp = record { 0 = 0 } };
  range = 0;
  status = 0;
  entries = record { at = 10; count = 1 };
  expansion = nowhere;
  purpose = nowhere;
}

-- SAC 1, SIC 2, type 3, SID 1 and STYP 2, one second, one counter, behind REP at offset 12; fields 1 to 4 and 9
abbrev pub statistics_record : Record
statistics_record = record {
  category = 23;
  marks = 271;
  source = record { sac = 1; sic = 2 };
  message_type = 3;
  service = record { sid = 1; styp = 2 };
  identification = 0;
  time = record { 0 = 128 };
  batch = 0;
  sdps = record { nogo = 0; ovl = 0; tsv = 0; pss = 0; sttn = 0 };
  report = 0;
  station = record { nogo = 0; odp = 0; oxt = 0; msc = 0; tsv = 0; spo = 0; rn = 0; extended = 0; gssp = record { 0 = 0 } };
  configuration = record { rp = record { 0 = 0 }; sc = 0; extended = 0; ssrp = record { 0 = 0 } };
  range = 0;
  status = 0;
  entries = record { at = 13; count = 1 };
  expansion = nowhere;
  purpose = nowhere;
}

-- octets, and their answers
pub record Example : Type 0 where
  pub octets : List ℕ
  pub answers : Answers

-- P1 with the time in three octets, and 65/040 in the last
abbrev p1_with : ℕ → ℕ → ℕ → ℕ → List ℕ
p1_with a b c x = 0x41 ∷ 0x00 ∷ 0x0C ∷ 0xF4 ∷ 0x01 ∷ 0x02 ∷ 0x01 ∷ 0x07 ∷ a ∷ b ∷ c ∷ x ∷ []

abbrev timed_p1 : ℕ → ℕ → ℕ → List ℕ
timed_p1 a b c = p1_with a b c 0x68

abbrev ended_p1 : ℕ → List ℕ
ended_p1 x = p1_with 0x00 0x00 0x80 x

abbrev p1_octets : List ℕ
p1_octets = ended_p1 0x68

abbrev p6_octets : List ℕ
p6_octets = 0xF2 ∷ 0x00 ∷ 0x0D ∷ 0xE0 ∷ 0x01 ∷ 0x02 ∷ 0x00 ∷ 0x00 ∷ 0x00 ∷ 0x01 ∷ 0x17 ∷ 0x01 ∷ 0x02 ∷ []

abbrev p8_octets : List ℕ
p8_octets =
    0x17 ∷ 0x00 ∷ 0x13 ∷ 0xF1 ∷ 0x40 ∷ 0x01 ∷ 0x02 ∷ 0x03 ∷ 0x12 ∷ 0x00 ∷ 0x00 ∷ 0x80 ∷ 0x01 ∷ 0x04 ∷ 0x00 ∷ 0x00 ∷ 0x00 ∷ 0x00 ∷ 0x64 ∷ []

abbrev pub examples : List Example
examples =
    -- P1: 0; degraded, overload, SDPS-2, the toggle 0, one second; with the spare bit of 65/040 set (69): the same, rewritten as P1
    record { octets = p1_octets; answers = accepted 12 (sdps_record 128 0) no_entry p1_octets }
    ∷ record { octets = ended_p1 0x69; answers = accepted 12 (sdps_record 128 0) no_entry p1_octets }
    -- P2, as 02 §2 amends it: P1 with last octet 6B: 0, the toggle set, rewritten with last octet 6A; that one is its own rewriting
    ∷ record { octets = ended_p1 0x6B; answers = accepted 12 (sdps_record 128 1) no_entry (ended_p1 0x6A) }
    ∷ record { octets = ended_p1 0x6A; answers = accepted 12 (sdps_record 128 1) no_entry (ended_p1 0x6A) }
    -- P3: a second specification octet of zero: 0, rewritten as P1
    ∷ record {
      octets = 0x41 ∷ 0x00 ∷ 0x0D ∷ 0xF5 ∷ 0x00 ∷ 0x01 ∷ 0x02 ∷ 0x01 ∷ 0x07 ∷ 0x00 ∷ 0x00 ∷ 0x80 ∷ 0x68 ∷ [];
      answers = accepted 13 (sdps_record 128 0) no_entry p1_octets;
    }
    -- P4, as 02 §1 amends it: P1 with time A8 BF FF: 0; A8 C0 00: 0; A8 C0 7F, the last: 0; A8 C0 80: 11
    ∷ record { octets = timed_p1 0xA8 0xBF 0xFF; answers = accepted 12 (sdps_record 11059199 0) no_entry (timed_p1 0xA8 0xBF 0xFF) }
    ∷ record { octets = timed_p1 0xA8 0xC0 0x00; answers = accepted 12 (sdps_record 11059200 0) no_entry (timed_p1 0xA8 0xC0 0x00) }
    ∷ record { octets = timed_p1 0xA8 0xC0 0x7F; answers = accepted 12 (sdps_record 11059327 0) no_entry (timed_p1 0xA8 0xC0 0x7F) }
    ∷ record { octets = timed_p1 0xA8 0xC0 0x80; answers = refused 11 }
    -- P5: 10
    ∷ record { octets = 0x41 ∷ 0x00 ∷ 0x0B ∷ 0xF0 ∷ 0x01 ∷ 0x02 ∷ 0x02 ∷ 0x07 ∷ 0x00 ∷ 0x00 ∷ 0x80 ∷ []; answers = refused 10 }
    -- P6: 0, category 23 version 1.2; sub version 64: 11
    ∷ record { octets = p6_octets; answers = accepted 13 version_record (version_found (record { category = 23; main = 1; sub = 2 })) p6_octets }
    ∷ record {
      octets = 0xF2 ∷ 0x00 ∷ 0x0D ∷ 0xE0 ∷ 0x01 ∷ 0x02 ∷ 0x00 ∷ 0x00 ∷ 0x00 ∷ 0x01 ∷ 0x17 ∷ 0x01 ∷ 0x64 ∷ [];
      answers = refused 11;
    }
    -- P7: 8; with E1 for E0: 4
    ∷ record { octets = 0xF2 ∷ 0x00 ∷ 0x0A ∷ 0xE0 ∷ 0x01 ∷ 0x02 ∷ 0x00 ∷ 0x00 ∷ 0x00 ∷ 0x00 ∷ []; answers = refused 8 }
    ∷ record { octets = 0xF2 ∷ 0x00 ∷ 0x0A ∷ 0xE1 ∷ 0x01 ∷ 0x02 ∷ 0x00 ∷ 0x00 ∷ 0x00 ∷ 0x00 ∷ []; answers = refused 4 }
    -- P8: 0, one entry, TYPE 4 from midnight, count 100; posted fresh: row 01021204, 100, 100
    ∷ record {
      octets = p8_octets;
      answers =
          posted 0 (record { key = 0x01021204; life = 100; reading = 100; time = 128 } ∷ []) 19 statistics_record (counter_found (record { typ = 4; reference = 0; count = 100 })) p8_octets;
    }
    ∷ []
