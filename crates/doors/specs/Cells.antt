-- A record as 64-bit cells, in the order of include/wear.h.
use Rattle.std.specs.Prelude.{Bool, true, ◌&&◌, ◌||◌, List, [], ◌∷◌, ℕ, ◌%◌, ◌^◌, leb, ltb, eqb, get_or}
use Rattle.octets.specs.Choice.{pick}
use Rattle.octets.specs.Refusals.{unknown_category, spare_marked, none_marked, out_of_range}
use Rattle.layouts.specs.Categories.{known, category}
use Rattle.layouts.specs.declared.form.Form.{Form}
use Rattle.layouts.specs.declared.form.Form.TheVariants.{Spare, Source, MessageType, Service, Identification, Time, Batch, Sdps, Report, Station, Configuration, Range, Status, Statistics, Versions, Expansion, Purpose}
use Rattle.blocks.specs.Marks.{flags_of}
use Rattle.blocks.specs.Records.{marks_spare}
use Rattle.blocks.specs.declared.record.Record.{Record}
use Rattle.doors.specs.Cell as wear

-- the cells of a record, in their order
abbrev pub record_cells : Record → List ℕ
record_cells t =
    t.category
    ∷ t.marks
    ∷ t.source.sac
    ∷ t.source.sic
    ∷ t.message_type
    ∷ t.identification  -- of 65
    ∷ t.service.sid  -- of 23
    ∷ t.service.styp
    ∷ t.time.0
    ∷ t.batch
    ∷ t.sdps.nogo
    ∷ t.sdps.ovl
    ∷ t.sdps.tsv
    ∷ t.sdps.pss
    ∷ t.sdps.sttn
    ∷ t.report
    ∷ t.station.nogo
    ∷ t.station.odp
    ∷ t.station.oxt
    ∷ t.station.msc
    ∷ t.station.tsv
    ∷ t.station.spo
    ∷ t.station.rn
    ∷ t.station.extended
    ∷ t.station.gssp.0
    ∷ t.configuration.rp.0
    ∷ t.configuration.sc
    ∷ t.configuration.extended
    ∷ t.configuration.ssrp.0
    ∷ t.range
    ∷ t.status
    ∷ t.entries.at
    ∷ t.entries.count
    ∷ t.expansion.at
    ∷ t.expansion.count
    ∷ t.purpose.at
    ∷ t.purpose.count
    ∷ []

-- The record of given cells

module _ (cs : List ℕ) where
  abbrev pub cell : ℕ → ℕ
  cell i = get_or cs i 0

  -- what a place of 8 bits, and one of 32, has of its cell
  abbrev pub octet : ℕ → ℕ
  octet i = cell i % 2 ^ 8

  abbrev pub long : ℕ → ℕ
  long i = cell i % 2 ^ 32

  unfoldable pub record_of : Record
  record_of = record {
    category = octet wear.category;
    marks = long wear.marks;
    source = record { sac = octet wear.sac; sic = octet wear.sic };
    message_type = octet wear.type;
    identification = octet wear.service;
    service = record { sid = octet wear.sid; styp = octet wear.styp };
    time = record { 0 = long wear.time };
    batch = octet wear.batch;
    sdps = record { nogo = octet wear.nogo; ovl = octet wear.ovl; tsv = octet wear.tsv; pss = octet wear.pss; sttn = octet wear.sttn };
    report = octet wear.report;
    station = record {
      nogo = octet wear.gs_nogo;
      odp = octet wear.gs_odp;
      oxt = octet wear.gs_oxt;
      msc = octet wear.gs_msc;
      tsv = octet wear.gs_tsv;
      spo = octet wear.gs_spo;
      rn = octet wear.gs_rn;
      extended = octet wear.gs_extended;
      gssp = record { 0 = octet wear.gssp };
    };
    configuration = record { rp = record { 0 = octet wear.rp }; sc = octet wear.sc; extended = octet wear.sc_extended; ssrp = record { 0 = octet wear.ssrp } };
    range = octet wear.range;
    status = octet wear.stat;
    entries = record { at = cell wear.entries_at; count = cell wear.entries };
    expansion = record { at = cell wear.re_at; count = cell wear.re_octets };
    purpose = record { at = cell wear.sp_at; count = cell wear.sp_octets };
  }

  -- Whether the cells of an item fit their places: 8 bits for all, 32 for the time, 64 for offsets and counts, which every cell has. The
  -- value of an extension counts only where the extension is there (01 "Writing ignores the values of absent items and extensions").

  abbrev pub octet_fits : ℕ → Bool
  octet_fits i = ltb (cell i) (2 ^ 8)

  abbrev pub long_fits : ℕ → Bool
  long_fits i = ltb (cell i) (2 ^ 32)

  -- a cell of 0 or 1 that tells whether the extension is there, and its value
  abbrev pub extension_fits : ℕ → ℕ → Bool
  extension_fits e i = octet_fits e && (eqb (cell e) 0 || octet_fits i)

  abbrev pub item_fits : Form → Bool
  item_fits Spare = true
  item_fits Source = octet_fits wear.sac && octet_fits wear.sic
  item_fits MessageType = octet_fits wear.type
  item_fits Service = octet_fits wear.sid && octet_fits wear.styp
  item_fits Identification = octet_fits wear.service
  item_fits Time = long_fits wear.time
  item_fits Batch = octet_fits wear.batch
  item_fits Sdps = octet_fits wear.nogo && (octet_fits wear.ovl && (octet_fits wear.tsv && (octet_fits wear.pss && octet_fits wear.sttn)))
  item_fits Report = octet_fits wear.report
  item_fits Station =
      octet_fits wear.gs_nogo
      && (octet_fits wear.gs_odp
      && (octet_fits wear.gs_oxt
      && (octet_fits wear.gs_msc
      && (octet_fits wear.gs_tsv && (octet_fits wear.gs_spo && (octet_fits wear.gs_rn && extension_fits wear.gs_extended wear.gssp))))))
  item_fits Configuration = octet_fits wear.rp && (octet_fits wear.sc && extension_fits wear.sc_extended wear.ssrp)
  item_fits Range = octet_fits wear.range
  item_fits Status = octet_fits wear.stat
  item_fits Statistics = true
  item_fits Versions = true
  item_fits Expansion = true
  item_fits Purpose = true

  -- of the marked fields; cells of absent items are ignored
  unfoldable pub all_fit : List Bool → List Form → Bool
  all_fit [] fs = true
  all_fit (b ∷ bs) [] = true
  all_fit (b ∷ bs) (f ∷ fs) = pick b (item_fits f) true && all_fit bs fs

  -- a mark of a spare field or past the last, in any of the 64 bits
  abbrev pub spare_cell : Bool
  spare_cell = leb (2 ^ 32) (cell wear.marks) || marks_spare (flags_of 32 (cell wear.marks)) (category (cell wear.category)).fields

  -- 2, 6 and 5, and then 11 for a cell of a marked item that does not fit its place
  unfoldable pub cells_refusal : ℕ
  cells_refusal =
      pick (known (cell wear.category))
      (pick (eqb (cell wear.marks) 0) none_marked
      (pick spare_cell spare_marked (pick (all_fit (flags_of 32 (cell wear.marks)) (category (cell wear.category)).fields) 0 out_of_range)))
      unknown_category
