-- `varying_fits` by the item's form. Assumes nothing.
use mathlib.Core.Path.{◌≡◌, refl, sym, ap, ◌∙◌}
use mathlib.Core.Bool.{Bool, true}
use mathlib.Core.List.{List, [], ◌∷◌}
use Prim.Native.Nat.{ℕ, ◌+◌, ◌-◌, ◌%◌, ◌≤◌}
use native.Mathlib.Nat.{sub-zero}
use native.Mathlib.Omega.{arith}
use lib.ListN.{length, get_or}
use Rattle.octets.specs.Choice.{pick, odd}
use Rattle.octets.specs.Refusals.{past_last}
use Rattle.layouts.specs.Groups.{values, fits, Group}
use Rattle.layouts.specs.Formats.{Format, Trace, fits_in, got}
use Rattle.layouts.specs.Offsets.{run_at, trace_at}
use Rattle.layouts.specs.Layouts.{octet, chain, counted, format, kind_of}
use Rattle.layouts.specs.Ends.{kind_end}
use Rattle.layouts.specs.Tables.{station, configuration, period, counter, version, layout}
use Rattle.layouts.specs.End.{End}
use Rattle.layouts.specs.declared.ends.Kind.{Kind}
use Rattle.layouts.specs.declared.ends.Window.{Window}
use Rattle.layouts.specs.declared.form.Form.{Form}
use Rattle.layouts.specs.declared.form.Form.TheVariants as form
use Rattle.layouts.specs.contracts.form.Form.{enum}
use Rattle.layouts.proofs.KindEnds.{flagged}
use Rattle.items.proofs.Entries.{fits-ranged, entries_fit_lem, entries-free, counter-free, octet-free}
use Rattle.items.proofs.Passed.{pass_read}
use Rattle.items.proofs.Ranges.{extended_fits, extended-room, status-fits, counted-fits}
use Rattle.items.proofs.ValueLaws.{each_of}
use borrow.Enum.Refused.{opened}
use Rattle.items.proofs.item.varying_fits.Goals as goal

abbrev of : Form → Format
of f = format (layout f)

-- as the contract asks
abbrev Asked : Window → ℕ → Form → Type 0
Asked w at f = ((n : ℕ) → kind_of (layout f) ≡ Kind.Fixed n → ⊥) × ((q : ℕ) × (kind_end w.octets.now w.len (kind_of (layout f)) at ≡ End.At q))

-- as it answers
abbrev answer : List ℕ → ℕ → Form → Bool
answer s at f = fits_in (of f) (trace_at (of f) s at)

module _ (w : Window) (at : ℕ) (f : Form) (a : Asked w at f) where
  abbrev s : List ℕ
  s = w.octets.now

  read : (tr : Trace) × (run_at s w.len (of f) at ≡ got tr a.1.0)
  read = pass_read s w.len w.small f at (kind_of (layout f)) refl a.1.0 a.1.1

  -- a part, its last octet at p, and an extension
  module _ (g : Group) (p : ℕ) (is : of f ≡ chain past_last g (period ∷ [])) (flag : flagged g.parts ≡ true) (wide : 1 ≤ g.wide)
      (ends : p + 1 ≡ at + g.wide) where
    part-read : run_at s w.len (chain past_last g (period ∷ [])) at ≡ got read.0 a.1.0
    part-read = rw is at read.1

    part_room : p + (1 + get_or s p 0 % 2) ≤ length s
    part_room = omega (arith, w.inside, extended-room s w.len g at p read.0 a.1.0 flag wide ends part-read)

    part-fits : ((x : ℕ) → fits g.parts (values g.parts x) ≡ true)
        → pick (odd (get_or s p 0)) (fits period.parts (values period.parts (get_or s (p + 1) 0))) true ≡ answer s at f
    part-fits free = rw is (extended_fits s w.len g at p read.0 a.1.0 flag wide ends part-read free)

  -- what an octet counts
  module _ (e : ℕ) (g : Group) (is : of f ≡ counted e g) where
    entries-read : run_at s w.len (counted e g) at ≡ got read.0 a.1.0
    entries-read = rw is at read.1

    entries_fit : entries_fit_lem (get_or s at 0 - e) g s (at + 1) ≡ answer s at f
    entries_fit = rw is (counted-fits s w.len w.small e g at read.0 a.1.0 entries-read)

    entries-any : ((x : ℕ) → fits g.parts (values g.parts x) ≡ true) → true ≡ answer s at f
    entries-any free = sym (entries-free (get_or s at 0 - e) g s (at + 1) free) ∙ entries_fit

-- the arm of forms of which every value fits, and of those that are not asked for
module _ (w : Window) (at : ℕ) where
  abbrev Free : Form → Type 0
  Free f = Asked w at f → true ≡ answer w.octets.now at f

  spare : Free form.Spare
  spare a = let z : ◌≡◌ {A = ℕ} 0 1 = cc a.1.1 in absurd (omega arith)

  fixed : (f : Form) (n : ℕ) → kind_of (layout f) ≡ Kind.Fixed n → Free f
  fixed f n h a = absurd (a.0 n h)

  status : Free form.Status
  unfolding format
  status a = let r = read w at form.Status a in status-fits w.octets.now w.len at r.0 a.1.0 r.1

pub extension_fits-requires : goal.extension_fits-requires
unfolding format
extension_fits-requires c =
    let a = c.args in
    part_room a.window.now a.at a.form c.requires station a.at (ap of c.in-Station.is) refl (omega arith) refl

pub overflow_add-at : goal.overflow_add-at
unfolding format
overflow_add-at c =
    let a = c.args in
    omega (arith, part_room a.window.now a.at a.form c.requires configuration (a.at + 1) (ap of c.in-Configuration.is) refl (omega arith) (omega arith))

pub extension_fits-requires-in-Configuration : goal.extension_fits-requires-in-Configuration
unfolding format
extension_fits-requires-in-Configuration c =
    let a = c.args in
    part_room a.window.now a.at a.form c.requires configuration (a.at + 1) (ap of c.in-Configuration.is) refl (omega arith) (omega arith)

pub returns-in-Station : goal.returns-in-Station
unfolding format
returns-in-Station c =
    let a = c.args in
    c.extension_fits.ensures
    ∙ part-fits a.window.now a.at a.form c.requires station a.at (ap of c.in-Station.is) refl (omega arith) refl (fits-ranged station.parts)

pub returns-in-Configuration : goal.returns-in-Configuration
unfolding format
returns-in-Configuration c =
    let a = c.args in
    c.extension_fits-in-Configuration.ensures
    ∙ part-fits a.window.now a.at a.form c.requires configuration (a.at + 1) (ap of c.in-Configuration.is) refl (omega arith) (omega arith) (fits-ranged configuration.parts)

pub returns-in-Versions : goal.returns-in-Versions
unfolding format
returns-in-Versions c =
    let a = c.args in
    c.versions_fit.ensures
    ∙ rw sub-zero at (entries_fit a.window.now a.at a.form c.requires 0 version (ap of c.in-Versions.is))

pub returns-in_default : goal.returns-in_default
unfolding format
returns-in_default c =
    let a = c.args in
    each_of enum (Free a.window.now a.at) (0 ∷ 1 ∷ 2 ∷ 3 ∷ 4 ∷ 5 ∷ 6 ∷ 7 ∷ 8 ∷ 11 ∷ 12 ∷ 13 ∷ 15 ∷ 16 ∷ []) a.form (opened c.in_default.in_default-own.keys4)
    (λ v. spare a.window.now a.at)
    (λ v. fixed a.window.now a.at form.Source 2 refl)
    (λ v. fixed a.window.now a.at form.MessageType 1 refl)
    (λ v. fixed a.window.now a.at form.Service 1 refl)
    (λ v. fixed a.window.now a.at form.Identification 1 refl)
    (λ v. fixed a.window.now a.at form.Time 3 refl)
    (λ v. fixed a.window.now a.at form.Batch 1 refl)
    (λ v. fixed a.window.now a.at form.Sdps 1 refl)
    (λ v. fixed a.window.now a.at form.Report 1 refl)
    (λ v. fixed a.window.now a.at form.Range 1 refl)
    (λ v. status a.window.now a.at)
    (λ v h. entries-any a.window.now a.at form.Statistics h 0 counter refl counter-free)
    (λ v h. entries-any a.window.now a.at form.Expansion h 1 octet refl octet-free)
    (λ v h. entries-any a.window.now a.at form.Purpose h 1 octet refl octet-free)
    c.requires
