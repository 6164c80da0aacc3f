-- Items of document 01's worked examples, computed over the definitions. Assumes nothing.
use mathlib.Core.Path.{◌≡◌, refl}
use mathlib.Core.List.{[], ◌∷◌}
use Rattle.octets.specs.Numbers.{number, octets}
use Rattle.layouts.specs.Groups.{values, merge, fits}
use Rattle.layouts.specs.Formats.{refused, got, fits_in, put}
use Rattle.layouts.specs.Offsets.{run_at, item_at, groups_at}
use Rattle.layouts.specs.Layouts.{times, chain, counted, format}
use Rattle.layouts.specs.Tables.{sdps, counter, layout}
use Rattle.layouts.specs.Categories.{category, form_at}
use Rattle.layouts.specs.declared.form.Form.{Form}
use Rattle.items.specs.Typed.{counter_of, item_refusal, item_octets}
use Rattle.items.specs.declared.typed.Item.{Item}

-- P1: degraded, overload, SDPS-2, the toggle 0; and P2, as 02 §2 amends it: the toggle set, whatever the spare bit
sdps_p1 : values sdps.parts 0x68 ≡ 1 ∷ 1 ∷ 0 ∷ 2 ∷ 0 ∷ []
unfolding values
sdps_p1 = refl

sdps_p2 : values sdps.parts 0x6B ≡ 1 ∷ 1 ∷ 0 ∷ 2 ∷ 1 ∷ []
unfolding values
sdps_p2 = refl

sdps-spare : values sdps.parts 0x6A ≡ values sdps.parts 0x6B
unfolding values
sdps-spare = refl

sdps-written : item_octets [] (Item.Sdps (record { nogo = 1; ovl = 1; tsv = 0; pss = 2; sttn = 1 })) ≡ 0x6A ∷ []
unfolding format put merge octets
sdps-written = refl

-- a toggle wider than its bit
sdps-wide : item_refusal [] (Item.Sdps (record { nogo = 1; ovl = 1; tsv = 0; pss = 2; sttn = 2 })) ≡ 11
unfolding format fits_in fits
sdps-wide = refl

-- P4, as 02 §1 amends it: 86,401 seconds are refused, and 1/128 s less is not; written too
late : item_at (0xA8 ∷ 0xC0 ∷ 0x80 ∷ []) 3 (format (layout Form.Time)) 0 ≡ refused 11
unfolding item_at run_at format values number fits_in fits
late = refl

last : item_at (0xA8 ∷ 0xC0 ∷ 0x7F ∷ []) 3 (format (layout Form.Time)) 0 ≡ got ((11059327 ∷ []) ∷ []) 3
unfolding item_at run_at format values number fits_in fits
last = refl

late-written : item_refusal [] (Item.Time (record { 0 = 11059328 })) ≡ 11
unfolding format fits_in fits
late-written = refl

last_written : item_refusal [] (Item.Time (record { 0 = 11059327 })) ≡ 0
unfolding format fits_in fits
last_written = refl

-- P6: category 23, version 1.2; and a sub version of 100
version_p6 : item_at (0x01 ∷ 0x17 ∷ 0x01 ∷ 0x02 ∷ []) 4 (format (layout Form.Versions)) 0 ≡ got ((1 ∷ []) ∷ (23 ∷ 1 ∷ 2 ∷ []) ∷ []) 4
unfolding item_at run_at format counted times values number fits_in fits
version_p6 = refl

version_100 : item_at (0x01 ∷ 0x17 ∷ 0x01 ∷ 0x64 ∷ []) 4 (format (layout Form.Versions)) 0 ≡ refused 11
unfolding item_at run_at format counted times values number fits_in fits
version_100 = refl

-- P7: REP 0 is refused, though it is the block's last octet
no-versions : item_at (0x00 ∷ []) 1 (format (layout Form.Versions)) 0 ≡ refused 8
unfolding item_at run_at format counted values number
no-versions = refl

-- P8: one entry, type 4, from midnight, count 100; with REF octet 80, from the last report
counter-p8 : counter_of (values counter.parts (number 6 (0x04 ∷ 0x00 ∷ 0x00 ∷ 0x00 ∷ 0x00 ∷ 0x64 ∷ []) 0)) ≡ record { typ = 4; reference = 0; count = 100 }
unfolding values number
counter-p8 = refl

counter-last : counter_of (values counter.parts (number 6 (0x04 ∷ 0x80 ∷ 0x00 ∷ 0x00 ∷ 0x00 ∷ 0x05 ∷ []) 0)) ≡ record { typ = 4; reference = 1; count = 5 }
unfolding values number
counter-last = refl

-- an entry is written with its spare bits cleared
cleared : item_octets (0x04 ∷ 0xFF ∷ 0x00 ∷ 0x00 ∷ 0x00 ∷ 0x05 ∷ []) (Item.Statistics (record { at = 0; count = 1 })) ≡ 0x01 ∷ 0x04 ∷ 0x80 ∷ 0x00 ∷ 0x00 ∷ 0x00 ∷ 0x05 ∷ []
unfolding format counted times put groups_at values merge number octets
cleared = refl

-- FX past the last extension is refused without looking for another octet
past-last : item_at (0x01 ∷ 0x03 ∷ []) 2 (format (layout Form.Station)) 0 ≡ refused 9
unfolding item_at run_at format chain values number
past-last = refl

-- a place past the source's end, before none, before a value
seven-first : item_refusal (1 ∷ 2 ∷ []) (Item.Purpose (record { at = 3; count = 0 })) ≡ 7
unfolding format
seven-first = refl

eight_next : item_refusal (1 ∷ 2 ∷ []) (Item.Purpose (record { at = 2; count = 0 })) ≡ 8
unfolding format
eight_next = refl

-- the times of 23/070, 65/030 and 242/140 are one form
one_form : form_at (category 23) 4 ∷ form_at (category 65) 4 ∷ form_at (category 242) 2 ∷ [] ≡ Form.Time ∷ Form.Time ∷ Form.Time ∷ []
one_form = refl

-- category 242 has SP at field 6 and RE at field 7, and a field past the last is spare
sp_242 : form_at (category 242) 6 ≡ Form.Purpose
sp_242 = refl

re_242 : form_at (category 242) 7 ≡ Form.Expansion
re_242 = refl

past_242 : form_at (category 242) 8 ≡ Form.Spare
past_242 = refl
