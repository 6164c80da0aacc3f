-- An item is passed: where it ends by its kind, and then its values. Assumes nothing.
use mathlib.Core.Path.{◌≡◌, refl, sym, ap, ◌∙◌}
use mathlib.Core.Bool.{Bool, true, false, and-true}
use mathlib.Core.List.{List}
use Prim.Native.Nat.{ℕ, ◌+◌, ◌-◌, ◌≤◌, ◌<◌}
use native.Mathlib.Omega.{arith}
use borrow.Author.Tests.{lt-ltb, le-ltb}
use Rattle.octets.specs.Choice.{pick}
use Rattle.octets.specs.Numbers.{Octets, number}
use Rattle.octets.specs.Refusals.{passes_end, out_of_range}
use Rattle.layouts.specs.Groups.{values, fits}
use Rattle.layouts.specs.Formats.{Parsed, refused, got, Trace, fits_in}
use Rattle.layouts.specs.Offsets.{run_at, item_at, trace_at}
use Rattle.layouts.specs.Layouts.{Layout, unused, fixed, extended, repeated, explicit, format, kind_of, first_group}
use Rattle.layouts.specs.Ends.{end_of, kind_end}
use Rattle.layouts.specs.Tables.{layout}
use Rattle.layouts.proofs.KindEnds.{forms-sound, kind_end_lem}
use Rattle.layouts.proofs.Windows.{run_trace}
use Rattle.layouts.specs.End.{End}
use Rattle.layouts.specs.declared.ends.Kind.{Kind}
use Rattle.layouts.specs.declared.form.Form.{Form}

end_refused : {A : Type 0} (m : Parsed ℕ A) (n : ℕ) → end_of m ≡ End.Refused n → m ≡ refused n
end_refused (refused k) n h = cc
end_refused (got a q) n h = absurd (let z : ◌≡◌ {A = ℕ} 0 1 = cc in omega arith)

end-got : {A : Type 0} (m : Parsed ℕ A) (q : ℕ) → end_of m ≡ End.At q → (a : A) × (m ≡ got a q)
end-got (refused n) q h = absurd (let z : ◌≡◌ {A = ℕ} 0 1 = cc in omega arith)
end-got (got a p) q h = (a, cc)

-- an item of fixed length is its first group
module _ (s : List ℕ) (at n : ℕ) where
  abbrev FirstFits : Layout → Bool
  FirstFits l = let g = first_group l in fits g.parts (values g.parts (number g.wide s at))

  pub fixed-first : (l : Layout) → kind_of l ≡ Kind.Fixed n → ((first_group l).wide ≡ n) × (FirstFits l ≡ fits_in (format l) (trace_at (format l) s at))
  unfolding format trace_at fits_in
  fixed-first unused h = absurd (let z : ◌≡◌ {A = ℕ} 0 1 = cc in omega arith)
  fixed-first (fixed g) h = (cc, sym (and-true _))
  fixed-first (extended g hs) h = absurd (let z : ◌≡◌ {A = ℕ} 0 1 = cc in omega arith)
  fixed-first (repeated g) h = absurd (let z : ◌≡◌ {A = ℕ} 0 1 = cc in omega arith)
  fixed-first explicit h = absurd (let z : ◌≡◌ {A = ℕ} 0 1 = cc in omega arith)

module _ (s : List ℕ) (len : ℕ) (o : Octets s) (f : Form) (at : ℕ) (k : Kind) (is : k ≡ kind_of (layout f)) where
  run_end : end_of (run_at s len (format (layout f)) at) ≡ kind_end s len k at
  run_end = kind_end_lem s len o (layout f) at (forms-sound f) ∙ ap (λ (x : Kind). kind_end s len x at) (sym is)

  pub pass_refused : (n : ℕ) → kind_end s len k at ≡ End.Refused n → End.Refused n ≡ end_of (item_at s len (format (layout f)) at)
  unfolding item_at
  pass_refused n h = rw (end_refused (run_at s len (format (layout f)) at) n (run_end ∙ h))

  -- an item that ends was read
  pub pass_read : (q : ℕ) → kind_end s len k at ≡ End.At q → (tr : Trace) × (run_at s len (format (layout f)) at ≡ got tr q)
  pass_read q h = end-got (run_at s len (format (layout f)) at) q (run_end ∙ h)

  judged : (tr : Trace) (q : ℕ) (b : Bool) → run_at s len (format (layout f)) at ≡ got tr q → b ≡ fits_in (format (layout f)) tr
      → pick b (End.At q) (End.Refused out_of_range) ≡ end_of (item_at s len (format (layout f)) at)
  unfolding item_at
  judged tr q b h e = rw (h, e) (go (fits_in (format (layout f)) tr))
    where
      go : (t : Bool) → pick t (End.At q) (End.Refused out_of_range) ≡ end_of (pick t (got tr q) (refused out_of_range))
      go true = refl
      go false = refl

  pub pass_at : (q : ℕ) (b : Bool) → kind_end s len k at ≡ End.At q → b ≡ fits_in (format (layout f)) (trace_at (format (layout f)) s at)
      → pick b (End.At q) (End.Refused out_of_range) ≡ end_of (item_at s len (format (layout f)) at)
  pass_at q b h e =
      let w = pass_read q h in
      judged w.0 q b w.1 (rw (run_trace s len (format (layout f)) at w.0 q w.1) e)

  -- an item of fixed length, by its room and its first group
  module _ (n : ℕ) (of : k ≡ Kind.Fixed n) where
    pub fixed-refused : len - at < n → End.Refused passes_end ≡ end_of (item_at s len (format (layout f)) at)
    fixed-refused l = pass_refused passes_end (rw (of, lt-ltb (len - at) n l))

    pub fixed-at : (b : Bool) → n ≤ len - at → b ≡ FirstFits s at n (layout f)
        → pick b (End.At (at + n)) (End.Refused out_of_range) ≡ end_of (item_at s len (format (layout f)) at)
    fixed-at b l e = pass_at (at + n) b (rw (of, le-ltb (len - at) n l)) (e ∙ (fixed-first s at n (layout f) (sym is ∙ of)).1)
