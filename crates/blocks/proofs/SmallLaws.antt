-- Numbers that are read from bits are below what these hold: TYPE and count of an entry; SAC, SIC, SID and STYP of a record that a step hands out.
-- Its time is in range. Assumes nothing.
use mathlib.Core.Path.{◌≡◌, sym}
use mathlib.Core.Bool.{true, ◌&&◌}
use mathlib.Core.List.{List, [], ◌∷◌}
use mathlib.Core.Logic.{◌⊎◌, inl, inr}
use Prim.Native.Nat.{ℕ, ◌≤◌, ◌<◌, ◌^◌}
use native.Mathlib.Nat.{mod-lt}
use native.Mathlib.Omega.{arith}
use lib.Dec.{leb, ltb}
use borrow.Author.Tests.{leb-true}
use Rattle.octets.specs.Numbers.{Octets}
use Rattle.octets.proofs.Cases.{both}
use Rattle.layouts.specs.Groups.{values, fits}
use Rattle.layouts.specs.Formats.{done, Trace, fits_in}
use Rattle.layouts.specs.Offsets.{trace_at}
use Rattle.layouts.specs.Layouts.{format}
use Rattle.layouts.specs.Tables.{latest, layout}
use Rattle.layouts.specs.declared.form.Form.{Form}
use Rattle.items.specs.Typed.{val, source_of, service_of}
use Rattle.blocks.specs.Statistics.{report_entry}
use Rattle.blocks.specs.Steps.{step_of}
use Rattle.blocks.specs.Typed.{typed_rec}
use Rattle.blocks.specs.declared.cursor.Cursor.{Cursor}
use Rattle.blocks.specs.Step.{Step}
use Rattle.blocks.specs.declared.record.Record.{Record}
use Rattle.blocks.proofs.HeaderLaws.{header-good}
use Rattle.blocks.proofs.StepLaws.{step-took}
use Rattle.blocks.proofs.TypedLaws.{form-values, form-fits}

-- an entry, of octets or not
pub type-small : (s : List ℕ) (at k : ℕ) → (report_entry s at k).typ < 256
unfolding values
type-small s at k = mod-lt _ (omega arith)

pub count_small : (s : List ℕ) (at k : ℕ) → (report_entry s at k).count < 2 ^ 32
unfolding values
count_small s at k = mod-lt _ (omega arith)

-- a source and a service, of octets or not
source-bits : (s : List ℕ) (at : ℕ) → let x = source_of (trace_at (format (layout Form.Source)) s at) in (x.sac < 256) × (x.sic < 256)
unfolding trace_at format values
source-bits s at = (mod-lt _ (omega arith), mod-lt _ (omega arith))

pub service-bits : (s : List ℕ) (at : ℕ) → let x = service_of (trace_at (format (layout Form.Service)) s at) in (x.sid < 16) × (x.styp < 16)
unfolding trace_at format values
service-bits s at = (mod-lt _ (omega arith), mod-lt _ (omega arith))

-- and so those of every record that a step hands out
pub step_small : (s : List ℕ) (start : ℕ) (t : Record) (c : Cursor) → Octets s → Step.Taken t c ≡ step_of s start
    → ((t.source.sac < 256) × (t.source.sic < 256)) × ((t.service.sid < 16) × (t.service.styp < 16))
unfolding typed_rec
step_small s start t c o h =
    let w = step-took s start t c (sym h) in
    let g = header-good s w.cat w.len w.head in
    let y = w.taking in
    let values = form-values s w.len w.cat start o g.fits g.known y.r c.at y.is in
    let (x, a) = values Form.Source in
    let (z, b) = values Form.Service in
    (rw (y.same, ← a 0 0, ← a 0 1) (source-bits s x), rw (y.same, ← b 0 0, ← b 0 1) (service-bits s z))

-- The bound of a time is a range and not its bits', so that it is had from values that fit

time-range : (tr : Trace) → (tr ≡ []) ⊎ (fits_in (format (layout Form.Time)) tr ≡ true) → val tr 0 0 ≤ latest
unfolding format fits_in fits
time-range [] w = omega arith
time-range ([] ∷ tr) w = omega arith
time-range ((x ∷ v) ∷ tr) (inl e) = absurd (let z : ◌≡◌ {A = ℕ} 0 1 = cc in omega arith)
time-range ((x ∷ v) ∷ tr) (inr h) =
    let a = both ((ltb x (2 ^ 24) && (leb 0 x && leb x latest)) && fits [] v) (fits_in done tr) h in
    let b = both (ltb x (2 ^ 24) && (leb 0 x && leb x latest)) (fits [] v) a.0 in
    let c = both (ltb x (2 ^ 24)) (leb 0 x && leb x latest) b.0 in
    leb-true x latest (both (leb 0 x) (leb x latest) c.1).1

-- the time of every record that a step hands out, 0 where it has none
pub step-time : (s : List ℕ) (start : ℕ) (t : Record) (c : Cursor) → Octets s → Step.Taken t c ≡ step_of s start → t.time.0 ≤ latest
unfolding typed_rec
step-time s start t c o h =
    let w = step-took s start t c (sym h) in
    let g = header-good s w.cat w.len w.head in
    let y = w.taking in
    rw y.same (time-range _ (form-fits s w.len w.cat start o g.fits g.known y.r c.at y.is Form.Time))
