-- The cells of a record and those of a feed: the enums of include/wear.h, by their names. First a record's
use Rattle.std.specs.Prelude.{ℕ, ◌+◌}

abbrev pub category : ℕ
category = 0

abbrev pub marks : ℕ
marks = category + 1

abbrev pub sac : ℕ
sac = marks + 1

abbrev pub sic : ℕ
sic = sac + 1

abbrev pub type : ℕ
type = sic + 1

abbrev pub service : ℕ
service = type + 1

abbrev pub sid : ℕ
sid = service + 1

abbrev pub styp : ℕ
styp = sid + 1

abbrev pub time : ℕ
time = styp + 1

abbrev pub batch : ℕ
batch = time + 1

abbrev pub nogo : ℕ
nogo = batch + 1

abbrev pub ovl : ℕ
ovl = nogo + 1

abbrev pub tsv : ℕ
tsv = ovl + 1

abbrev pub pss : ℕ
pss = tsv + 1

abbrev pub sttn : ℕ
sttn = pss + 1

abbrev pub report : ℕ
report = sttn + 1

abbrev pub gs_nogo : ℕ
gs_nogo = report + 1

abbrev pub gs_odp : ℕ
gs_odp = gs_nogo + 1

abbrev pub gs_oxt : ℕ
gs_oxt = gs_odp + 1

abbrev pub gs_msc : ℕ
gs_msc = gs_oxt + 1

abbrev pub gs_tsv : ℕ
gs_tsv = gs_msc + 1

abbrev pub gs_spo : ℕ
gs_spo = gs_tsv + 1

abbrev pub gs_rn : ℕ
gs_rn = gs_spo + 1

abbrev pub gs_extended : ℕ
gs_extended = gs_rn + 1

abbrev pub gssp : ℕ
gssp = gs_extended + 1

abbrev pub rp : ℕ
rp = gssp + 1

abbrev pub sc : ℕ
sc = rp + 1

abbrev pub sc_extended : ℕ
sc_extended = sc + 1

abbrev pub ssrp : ℕ
ssrp = sc_extended + 1

abbrev pub range : ℕ
range = ssrp + 1

abbrev pub stat : ℕ
stat = range + 1

abbrev pub entries_at : ℕ
entries_at = stat + 1

abbrev pub entries : ℕ
entries = entries_at + 1

abbrev pub re_at : ℕ
re_at = entries + 1

abbrev pub re_octets : ℕ
re_octets = re_at + 1

abbrev pub sp_at : ℕ
sp_at = re_octets + 1

abbrev pub sp_octets : ℕ
sp_octets = sp_at + 1

abbrev pub cell_count : ℕ
cell_count = sp_octets + 1

-- A feed's

abbrev pub feed_page : ℕ
feed_page = 0

abbrev pub feed_used : ℕ
feed_used = feed_page + 1

abbrev pub feed_left_off : ℕ
feed_left_off = feed_used + 1

abbrev pub feed_accepted : ℕ
feed_accepted = feed_left_off + 1

abbrev pub feed_refused : ℕ
feed_refused = feed_accepted + 1

abbrev pub feed_posted : ℕ
feed_posted = feed_refused + 1

abbrev pub feed_unposted : ℕ
feed_unposted = feed_posted + 1

abbrev pub feed_cell_count : ℕ
feed_cell_count = feed_unposted + 1
