-- The values of an item that was read are in their ranges, as the code tests them where they lie. Assumes nothing.
use mathlib.Core.Path.{◌≡◌, refl, sym, ◌∙◌}
use mathlib.Core.Bool.{Bool, true, false, ◌&&◌, and-true}
use mathlib.Core.List.{List, [], ◌∷◌}
use Prim.Native.Nat.{ℕ, ◌+◌, ◌-◌, ◌/◌, ◌%◌, ◌^◌, ◌≤◌, ◌<◌}
use native.Mathlib.Nat.{div-one, mod-eq_of_lt}
use native.Mathlib.Omega.{arith}
use lib.Dec.{leb}
use lib.ListN.{get_or}
use borrow.Author.Tests.{eqb-false}
use Rattle.octets.specs.Choice.{pick, odd}
use Rattle.octets.specs.Numbers.{Octets, number}
use Rattle.octets.specs.Refusals.{no_count, past_last}
use Rattle.octets.proofs.Cases.{test}
use Rattle.layouts.specs.Groups.{any, between, values, fits, Group}
use Rattle.layouts.specs.Formats.{Format, done, stop, Trace, fits_in, got}
use Rattle.layouts.specs.Offsets.{run_at, trace_at}
use Rattle.layouts.specs.Layouts.{fx, octet, times, chain, counted}
use Rattle.layouts.specs.Tables.{period, status}
use Rattle.layouts.proofs.KindEnds.{flagged, flagged-fx, number-low, count-is}
use Rattle.items.proofs.Entries.{fits-ranged, entries_fit_lem, octet-free}
use Rattle.items.proofs.Items.{number-one, times_trace, run-next, run-enough, run_past, last_clear}

-- a value that has its octets to itself
pub alone : (k least greatest x : ℕ) → x < 2 ^ k
    → fits (between k least greatest ∷ []) (values (between k least greatest ∷ []) x) ≡ (leb least x && leb x greatest)
alone k least greatest x h = fits-ranged (between k least greatest ∷ []) x ∙ rw (div-one, mod-eq_of_lt h) (and-true _)

-- one of seven bits before FX
pub before-fx : (least greatest x : ℕ) → x < 256
    → fits (between 7 least greatest ∷ any 1 ∷ []) (values (between 7 least greatest ∷ any 1 ∷ []) x) ≡ (leb least (x / 2) && leb (x / 2) greatest)
before-fx least greatest x h =
    let e : x / 2 % 128 ≡ x / 2 = omega arith in
    fits-ranged (between 7 least greatest ∷ any 1 ∷ []) x ∙ rw e (and-true _)

module _ (s : List ℕ) (o : Octets s) (at : ℕ) where
  pub octet-alone : (least greatest : ℕ) → (leb least (get_or s at 0) && leb (get_or s at 0) greatest)
      ≡ fits (between 8 least greatest ∷ []) (values (between 8 least greatest ∷ []) (number 1 s at))
  octet-alone least greatest = sym (rw number-one (alone 8 least greatest (get_or s at 0) (o at)))

module _ (s : List ℕ) (len : ℕ) where
  -- an extension, where FX before it is set
  abbrev more : Bool → Format
  more b = pick b (chain past_last period []) done

  extension-fits : (b : Bool) (at : ℕ) (tr : Trace) (q : ℕ) → run_at s len (more b) at ≡ got tr q
      → fits_in (more b) (trace_at (more b) s at) ≡ pick b (fits period.parts (values period.parts (get_or s at 0))) true
  unfolding fits_in trace_at chain
  extension-fits true at tr q h = rw (last_clear s len past_last period at tr q h, number-one) (and-true _)
  extension-fits false at tr q h = refl

  extension-room : (x at : ℕ) (tr : Trace) (q : ℕ) → at ≤ len → run_at s len (more (odd x)) at ≡ got tr q → at + x % 2 ≤ len
  unfolding chain
  extension-room x at tr q l h =
      test (odd x)
      (λ e. omega (arith, run-enough s len period _ at tr q (rw e at h)))
      (λ e. omega (arith, eqb-false (x % 2) 1 e))

  -- a part of which every value fits, its last octet at p, and an extension
  module _ (g : Group) (at p : ℕ) (tr : Trace) (q : ℕ) (flag : flagged g.parts ≡ true) (wide : 1 ≤ g.wide) (ends : p + 1 ≡ at + g.wide)
      (h : run_at s len (chain past_last g (period ∷ [])) at ≡ got tr q) where
    fx-at : odd (number g.wide s at) ≡ odd (get_or s p 0)
    fx-at =
        let e : at + (g.wide - 1) ≡ p = omega arith in
        rw (number-low g.wide s at wide, e)

    next : (tr' : Trace) × (run_at s len (more (odd (get_or s p 0))) (p + 1) ≡ got tr' q)
    unfolding chain
    next = rw (flagged-fx g.parts (number g.wide s at) flag, fx-at, ← ends) at (run-next s len g (λ v. more (fx v)) at tr q h)

    pub extended_fits : ((x : ℕ) → fits g.parts (values g.parts x) ≡ true)
        → pick (odd (get_or s p 0)) (fits period.parts (values period.parts (get_or s (p + 1) 0))) true
        ≡ fits_in (chain past_last g (period ∷ [])) (trace_at (chain past_last g (period ∷ [])) s at)
    unfolding fits_in trace_at chain
    extended_fits free =
        sym
        (rw (free (number g.wide s at), flagged-fx g.parts (number g.wide s at) flag, fx-at, ← ends)
        (extension-fits (odd (get_or s p 0)) (p + 1) next.0 q next.1))

    pub extended-room : p + (1 + get_or s p 0 % 2) ≤ len
    unfolding chain
    extended-room =
        let enough = run-enough s len g (λ v. more (fx v)) at tr q h in
        omega (arith, extension-room (get_or s p 0) (p + 1) next.0 q (omega arith) next.1)

  -- a part that has no extension
  pub status-fits : (at : ℕ) (tr : Trace) (q : ℕ) → run_at s len (chain past_last status []) at ≡ got tr q
      → true ≡ fits_in (chain past_last status []) (trace_at (chain past_last status []) s at)
  unfolding fits_in trace_at chain
  status-fits at tr q h = rw (last_clear s len past_last status at tr q h) (sym (and-true _ ∙ fits-ranged status.parts (number 1 s at)))

  -- what an octet counts
  module _ (o : Octets s) (e : ℕ) (g : Group) (at : ℕ) (tr : Trace) (q : ℕ) (h : run_at s len (counted e g) at ≡ got tr q) where
    pub counted-fits : entries_fit_lem (get_or s at 0 - e) g s (at + 1) ≡ fits_in (counted e g) (trace_at (counted e g) s at)
    unfolding fits_in trace_at counted
    counted-fits =
        let n = get_or s at 0 in
        let w = run-next s len octet (λ v. pick (leb (get_or v 0 0) e) (stop no_count) (times (get_or v 0 0 - e) g)) at tr q h in
        let some : leb n e ≡ false = run_past s len (leb n e) no_count (times (n - e) g) (at + 1) w.0 q (rw (count-is s len o at) at w.1) in
        sym (rw (octet-free (number 1 s at), count-is s len o at, some, times_trace))
