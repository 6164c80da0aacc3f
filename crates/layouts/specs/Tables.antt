-- The items of document 01's list, each group drawn from its high bit with the documents' names beside the bits.
use Rattle.std.specs.Prelude.{refl, [], ◌∷◌, ℕ}
use Rattle.layouts.specs.Groups.{spare, any, between, Group, group}
use Rattle.layouts.specs.Layouts.{Layout, unused, fixed, extended, repeated, explicit, octet}
use Rattle.layouts.specs.declared.form.Form.{Form}
use Rattle.layouts.specs.declared.form.Form.TheVariants as form

-- 010, Data Source Identifier (000 §5.2.2, 002 §5.2.1, 003 §5.2.2)
abbrev pub source : Group
source =
    group 2
    (any 8  -- bits 16/9 SAC
    ∷ any 8  -- bits 8/1 SIC
    ∷ [])
    refl

-- 23/000 and 65/000, Report Type and Message Type (003 §5.2.1, 000 §5.2.1): three types
abbrev pub message_type : Group
message_type = group 1 (between 8 1 3 ∷ []) refl

-- 23/015, Service Type and Identification (003 §5.2.3)
abbrev pub service : Group
service =
    group 1
    (any 4  -- bits 8/5 SID
    ∷ any 4  -- bits 4/1 STYP
    ∷ [])
    refl

-- the latest time of day, in 1/128 s: below 86,401 s, as a day may have a leap second at its end (02 §1)
abbrev pub latest : ℕ
latest = 11059327

-- 23/070, 65/030 and 242/140, time of day (003 §5.2.4, 000 §5.2.5, 002 §5.2.1)
abbrev pub time : Group
time = group 3 (between 24 0 latest ∷ []) refl

-- 65/040, SDPS Configuration and Status (001, which decides here: 02 §2)
abbrev pub sdps : Group
sdps =
    group 1
    (any 2  -- bits 8/7 NOGO
    ∷ any 1  -- bit 6 OVL
    ∷ any 1  -- bit 5 TSV
    ∷ any 2  -- bits 4/3 PSS
    ∷ any 1  -- bit 2 STTN, the track re-numbering toggle
    ∷ spare 1  -- bit 1
    ∷ [])
    refl

-- 65/050, Service Status Report (000 §5.2.7): sixteen reports
abbrev pub report : Group
report = group 1 (between 8 1 16 ∷ []) refl

-- 23/100, Ground Station Status (003 §5.2.5)
abbrev pub station : Group
station =
    group 1
    (any 1  -- bit 8 NOGO
    ∷ any 1  -- bit 7 ODP
    ∷ any 1  -- bit 6 OXT
    ∷ any 1  -- bit 5 MSC
    ∷ any 1  -- bit 4 TSV
    ∷ any 1  -- bit 3 SPO
    ∷ any 1  -- bit 2 RN
    ∷ any 1  -- bit 1 FX
    ∷ [])
    refl

-- a period of 1 to 127 s: GSSP and SSRP, the first extensions of 23/100 and 23/101 (003 §5.2.5 and §5.2.6)
abbrev pub period : Group
period =
    group 1
    (between 7 1 127  -- bits 8/2 GSSP, SSRP
    ∷ any 1  -- bit 1 FX
    ∷ [])
    refl

-- 23/101, Service Configuration (003 §5.2.6)
abbrev pub configuration : Group
configuration =
    group 2
    (any 8  -- first octet, bits 8/1 RP
    ∷ any 3  -- second octet, bits 8/6 SC
    ∷ spare 4  -- bits 5/2
    ∷ any 1  -- bit 1 FX
    ∷ [])
    refl

-- 23/110, Service Status (003 §5.2.7)
abbrev pub status : Group
status =
    group 1
    (spare 4  -- bits 8/5
    ∷ any 3  -- bits 4/2 STAT
    ∷ any 1  -- bit 1 FX
    ∷ [])
    refl

-- an entry of 23/120, Service Statistics (003 §5.2.8)
abbrev pub counter : Group
counter =
    group 6
    (any 8  -- bits 48/41 TYPE
    ∷ any 1  -- bit 40 REF
    ∷ spare 7  -- bits 39/33
    ∷ any 32  -- bits 32/1 COUNTER VALUE
    ∷ [])
    refl

-- an entry of 242/550, Category Version Number Report (002 §5.2.1)
abbrev pub version : Group
version =
    group 3
    (any 8  -- bits 24/17 CAT
    ∷ between 8 0 99  -- bits 16/9 main version number
    ∷ between 8 0 99  -- bits 8/1 sub version number
    ∷ [])
    refl

-- what each item is; of an octet with no division, all values
abbrev pub layout : Form → Layout
layout form.Spare = unused
layout form.Source = fixed source
layout form.MessageType = fixed message_type
layout form.Service = fixed service
layout form.Identification = fixed octet  -- 65/015, Service Identification (000 §5.2.3)
layout form.Time = fixed time
layout form.Batch = fixed octet  -- 65/020, Batch Number (000 §5.2.4)
layout form.Sdps = fixed sdps
layout form.Report = fixed report
layout form.Station = extended station (period ∷ [])
layout form.Configuration = extended configuration (period ∷ [])
layout form.Range = fixed octet  -- 23/200, Operational Range (003 §5.2.9)
layout form.Status = extended status []
layout form.Statistics = repeated counter
layout form.Versions = repeated version
layout form.Expansion = explicit  -- RE
layout form.Purpose = explicit  -- SP
