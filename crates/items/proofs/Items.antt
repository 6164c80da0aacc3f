-- Typed items: what is read at an offset, and that a typed item has the values that were read. Assumes nothing.
use mathlib.Core.Path.{◌≡◌, refl, ap, ◌∙◌}
use mathlib.Core.Bool.{Bool, true, false}
use mathlib.Core.List.{List, [], ◌∷◌}
use Prim.Native.Nat.{ℕ, zero, suc, ◌+◌, ◌-◌, ◌/◌, ◌%◌, ◌≤◌}
use native.Mathlib.Nat.{add-zero, sub-zero, div-one}
use native.Mathlib.Omega.{arith}
use lib.Dec.{leb, ltb, eqb}
use lib.ListN.{get_or}
use borrow.Author.Tests.{ltb-false, eqb-false, leb-false}
use Rattle.octets.specs.Choice.{pick, when, odd}
use Rattle.octets.specs.Numbers.{number}
use Rattle.octets.specs.Refusals.{no_count, past_last}
use Rattle.layouts.specs.Groups.{values, Group}
use Rattle.layouts.specs.Formats.{Format, done, stop, ask, Trace, got}
use Rattle.layouts.specs.Offsets.{run_at, trace_at, extension_at, groups_at}
use Rattle.layouts.specs.Layouts.{fx, octet, times, chain, counted, format, kind_of, first_group}
use Rattle.layouts.specs.Tables.{station, configuration, status, period, counter, version, layout}
use Rattle.items.specs.Typed.{val, source_of, service_of, time_of, sdps_of, station_of, configuration_of, placed, given_trace, trace_of}
use Rattle.layouts.proofs.Parsed.{got-refused, pick_no, through}
use Rattle.layouts.proofs.Windows.{run_trace}
use Rattle.layouts.specs.declared.form.Form.{Form}
use Rattle.layouts.specs.declared.form.Form.TheVariants as form
use Rattle.items.specs.declared.typed.Item.{Item}
use Rattle.items.specs.declared.typed.Item.TheVariants as item

-- the item whose values are these; its entries or content, behind its first octet, start at an offset
abbrev pub item_of : Form → Trace → ℕ → Item
item_of form.Spare tr at = item.Absent
item_of form.Source tr at = item.Source (source_of tr)
item_of form.MessageType tr at = item.MessageType (val tr 0 0)
item_of form.Service tr at = item.Service (service_of tr)
item_of form.Identification tr at = item.Identification (val tr 0 0)
item_of form.Time tr at = item.Time (time_of tr)
item_of form.Batch tr at = item.Batch (val tr 0 0)
item_of form.Sdps tr at = item.Sdps (sdps_of tr)
item_of form.Report tr at = item.Report (val tr 0 0)
item_of form.Station tr at = item.Station (station_of tr)
item_of form.Configuration tr at = item.Configuration (configuration_of tr)
item_of form.Range tr at = item.Range (val tr 0 0)
item_of form.Status tr at = item.Status (val tr 0 0)
item_of form.Statistics tr at = item.Statistics (record { at = at; count = val tr 0 0 })
item_of form.Versions tr at = item.Versions (record { at = at; count = val tr 0 0 })
item_of form.Expansion tr at = item.Expansion (record { at = at; count = val tr 0 0 - 1 })
item_of form.Purpose tr at = item.Purpose (record { at = at; count = val tr 0 0 - 1 })

-- an octet as the code reads it
pub one-octet : (s : List ℕ) (o x : ℕ) → x ≡ get_or s (o + 0) 0 → x ≡ number 1 s o
unfolding number
one-octet s o x h = omega arith

pub number-one : (s : List ℕ) (o : ℕ) → number 1 s o ≡ get_or s o 0
unfolding number
number-one s o = rw add-zero (omega arith)

module _ (s : List ℕ) (at : ℕ) where
  -- the period of an extension, by FX of the part before it
  extension : (o x : ℕ) → pick (odd x) (get_or s o 0) 0 / 2 % 128 ≡ val (trace_at (pick (eqb (x / 1 % 2) 1) (chain past_last period []) done) s o) 0 0
  unfolding trace_at chain values
  extension o x = rw div-one (go (odd x))
    where
      go : (b : Bool) → pick b (get_or s o 0) 0 / 2 % 128 ≡ val (trace_at (pick b (chain past_last period []) done) s o) 0 0
      go true = rw number-one
      go false = refl

  -- the values of the number of an item's first group, and of the extension behind it
  abbrev two : Form → ℕ → Trace
  two f x = values (first_group (layout f)).parts x ∷ values period.parts (extension_at s at (kind_of (layout f)) x) ∷ []

  -- the two numbers that the code reads give what the format reads
  pub station-read : station_of (two form.Station (number 1 s at)) ≡ station_of (trace_at (format (layout form.Station)) s at)
  unfolding trace_at format chain values
  station-read = rw (extension (at + 1) (number 1 s at))

  pub configuration-read : configuration_of (two form.Configuration (number 2 s at)) ≡ configuration_of (trace_at (format (layout form.Configuration)) s at)
  unfolding trace_at format chain values
  configuration-read = rw (extension (at + 2) (number 2 s at))

-- the trace of n groups
pub times_trace : (n : ℕ) (g : Group) (s : List ℕ) (at : ℕ) → trace_at (times n g) s at ≡ groups_at n g s at
unfolding times trace_at groups_at
times_trace zero g s at = refl
times_trace (suc n) g s at = ap (λ (tr : Trace). values g.parts (number g.wide s at) ∷ tr) (times_trace n g s (at + g.wide))

module _ (s : List ℕ) (len : ℕ) where
  -- what follows a group was read
  pub run-next : (g : Group) (k : List ℕ → Format) (at : ℕ) (tr : Trace) (q : ℕ) → run_at s len (ask g k) at ≡ got tr q
      → (tr' : Trace) × (run_at s len (k (values g.parts (number g.wide s at))) (at + g.wide) ≡ got tr' q)
  unfolding run_at
  run-next g k at tr q h =
      let (enough, e) = pick_no (ltb (len - at) g.wide) _ _ h in
      let (tr', q', e', last) = through (run_at s len (k (values g.parts (number g.wide s at))) (at + g.wide)) e in
      (tr', e' ∙ ap (got tr') (cc))

  -- a group that was read had its octets
  pub run-enough : (g : Group) (k : List ℕ → Format) (at : ℕ) (tr : Trace) (q : ℕ) → run_at s len (ask g k) at ≡ got tr q → g.wide ≤ len - at
  unfolding run_at
  run-enough g k at tr q h = ltb-false (len - at) g.wide (pick_no (ltb (len - at) g.wide) _ _ h).0

  -- a test that stops was not met
  pub run_past : (b : Bool) (n : ℕ) (f : Format) (at : ℕ) (tr : Trace) (q : ℕ) → run_at s len (pick b (stop n) f) at ≡ got tr q → b ≡ false
  unfolding run_at
  run_past true n f at tr q h = absurd (got-refused h)
  run_past false n f at tr q h = refl

  -- FX of the last part is not set
  pub last_clear : (n : ℕ) (g : Group) (at : ℕ) (tr : Trace) (q : ℕ) → run_at s len (chain n g []) at ≡ got tr q → fx (values g.parts (number g.wide s at)) ≡ false
  unfolding chain
  last_clear n g at tr q h =
      let v = values g.parts (number g.wide s at) in
      let w = run-next g (λ v. pick (fx v) (stop n) done) at tr q h in
      run_past (fx v) n done (at + g.wide) w.0 q w.1

  -- an extension that was read, from its period
  module _ (n at : ℕ) where
    abbrev rest : Bool → Format
    rest b = pick b (chain n period []) done

    extension_trace : (b : Bool) (tr : Trace) (q : ℕ) → run_at s len (rest b) at ≡ got tr q
        → when b ((val (trace_at (rest b) s at) 0 0 ∷ 0 ∷ []) ∷ []) ≡ trace_at (rest b) s at
    unfolding trace_at chain values
    extension_trace true tr q h =
        let y = number 1 s at in
        let clear : eqb (y / 1 % 2) 1 ≡ false = last_clear n period at tr q h in
        let zero-fx : y / 1 % 2 ≡ 0 = omega (arith, eqb-false (y / 1 % 2) 1 clear) in
        rw (clear, zero-fx)
    extension_trace false tr q h = refl

  -- entries or content that were read, from their count and their place
  counted_trace : (e : ℕ) (g : Group) (at : ℕ) (tr : Trace) (q : ℕ) → run_at s len (counted e g) at ≡ got tr q
      → let n = val (trace_at (counted e g) s at) 0 0 in given_trace s (placed e g (record { at = at + 1; count = n - e })) ≡ trace_at (counted e g) s at
  unfolding trace_at counted values
  counted_trace e g at tr q h =
      let n = number 1 s at / 1 % 256 in
      let w = run-next octet (λ v. pick (leb (get_or v 0 0) e) (stop no_count) (times (get_or v 0 0 - e) g)) at tr q h in
      let more : leb n e ≡ false = run_past (leb n e) no_count (times (n - e) g) (at + 1) w.0 q w.1 in
      let same : n - e + e ≡ n = omega (arith, leb-false n e more) in
      rw (more, same, times_trace)

  typed_at : (f : Form) (at : ℕ) (tr : Trace) (q : ℕ) → run_at s len (format (layout f)) at ≡ got tr q
      → let read = trace_at (format (layout f)) s at in trace_of s (item_of f read (at + 1)) ≡ read
  unfolding trace_at format chain values
  typed_at form.Spare at tr q h = refl
  typed_at form.Source at tr q h = refl
  typed_at form.MessageType at tr q h = refl
  typed_at form.Service at tr q h = refl
  typed_at form.Identification at tr q h = refl
  typed_at form.Time at tr q h = refl
  typed_at form.Batch at tr q h = refl
  typed_at form.Sdps at tr q h = refl
  typed_at form.Report at tr q h = refl
  typed_at form.Station at tr q h =
      let v = values station.parts (number 1 s at) in
      let w = run-next station (λ v. rest past_last at (fx v)) at tr q h in
      ap (λ (l : Trace). v ∷ l) (extension_trace past_last (at + 1) (fx v) w.0 q w.1)
  typed_at form.Configuration at tr q h =
      let v = values configuration.parts (number 2 s at) in
      let w = run-next configuration (λ v. rest past_last at (fx v)) at tr q h in
      ap (λ (l : Trace). v ∷ l) (extension_trace past_last (at + 2) (fx v) w.0 q w.1)
  typed_at form.Range at tr q h = refl
  typed_at form.Status at tr q h =
      let x = number 1 s at in
      let clear : eqb (x / 1 % 2) 1 ≡ false = last_clear past_last status at tr q h in
      let zero-fx : x / 1 % 2 ≡ 0 = omega (arith, eqb-false (x / 1 % 2) 1 clear) in
      rw (clear, zero-fx)
  typed_at form.Statistics at tr q h = rw sub-zero at (counted_trace 0 counter at tr q h)
  typed_at form.Versions at tr q h = rw sub-zero at (counted_trace 0 version at tr q h)
  typed_at form.Expansion at tr q h = counted_trace 1 octet at tr q h
  typed_at form.Purpose at tr q h = counted_trace 1 octet at tr q h

  -- A typed item has the values that were read.
  pub typed_trace : (f : Form) (at : ℕ) (tr : Trace) (q : ℕ) → run_at s len (format (layout f)) at ≡ got tr q → trace_of s (item_of f tr (at + 1)) ≡ tr
  typed_trace f at tr q h = rw (run_trace s len (format (layout f)) at tr q h) (typed_at f at tr q h)
