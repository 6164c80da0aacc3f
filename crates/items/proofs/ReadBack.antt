-- What is written of an item is read back: the same values, entries and content. Assumes nothing.
use mathlib.Core.Path.{◌≡◌, refl}
use mathlib.Core.Bool.{Bool, true, false}
use mathlib.Core.List.{List, [], ◌∷◌}
use Prim.Native.Nat.{ℕ, suc, ◌+◌, ◌*◌, ◌≤◌}
use native.Mathlib.Nat.{add-zero, add-sub_cancel}
use native.Mathlib.Omega.{arith}
use lib.Dec.{ltb, eqb}
use lib.ListN.{length}
use Rattle.octets.specs.Choice.{pick, when}
use Rattle.octets.specs.Numbers.{laid}
use Rattle.layouts.specs.Formats.{got, Format, fits_in}
use Rattle.layouts.specs.Offsets.{item_at, trace_at}
use Rattle.items.specs.Typed.{val, form_of, settled, Supply, exact, placed, given, trace_of, given_trace, given_refusal, item_format, item_refusal, item_octets}
use Rattle.layouts.proofs.Windows.{run_trace, run_read_back, item_read-back}
use Rattle.items.proofs.Items.{item_of}
use Rattle.items.specs.declared.typed.Item.{Item}
use Rattle.items.specs.declared.typed.Item.TheVariants as item

-- an item that is not refused has values that fit
refused_not : (b : Bool) (n x : ℕ) → pick b (suc n) x ≡ 0 → x ≡ 0
refused_not true n x h = absurd (omega arith)
refused_not false n x h = h

fits_not : (b : Bool) (n : ℕ) → pick b 0 (suc n) ≡ 0 → b ≡ true
fits_not true n h = refl
fits_not false n h = absurd (omega arith)

given-fits : (s : List ℕ) (f : Format) (x : Supply) → given_refusal s f x ≡ 0 → fits_in f (given_trace s x) ≡ true
given-fits s f (exact tr) h = fits_not (fits_in f tr) 10 h
given-fits s f (placed e g p) h =
    fits_not (fits_in f (given_trace s (placed e g p))) 10 (refused_not (eqb p.count 0) 7 _ (refused_not (ltb (length s) (p.at + p.count * g.wide)) 6 _ h))

pub item-fits : (s : List ℕ) (i : Item) → item_refusal s i ≡ 0 → fits_in (item_format i) (trace_of s i) ≡ true
item-fits s i h = given-fits s (item_format i) (given i) h

-- the values of a typed item make it again
module _ (s : List ℕ) (b : ℕ) where
  period-back : (e x : ℕ) (v : List ℕ) → val (v ∷ when (eqb e 1) ((x ∷ 0 ∷ []) ∷ [])) 1 0 ≡ pick (eqb e 1) x 0
  period-back e x v = go (eqb e 1)
    where
      go : (t : Bool) → val (v ∷ when t ((x ∷ 0 ∷ []) ∷ [])) 1 0 ≡ pick t x 0
      go true = refl
      go false = refl

  pub typed-back : (i : Item) → item_of (form_of i) (trace_of s i) b ≡ settled b i
  typed-back item.Absent = refl
  typed-back (item.Source x) = refl
  typed-back (item.MessageType x) = refl
  typed-back (item.Service x) = refl
  typed-back (item.Identification x) = refl
  typed-back (item.Time x) = refl
  typed-back (item.Batch x) = refl
  typed-back (item.Sdps x) = refl
  typed-back (item.Report x) = refl
  typed-back (item.Station x) = rw period-back
  typed-back (item.Configuration x) = rw period-back
  typed-back (item.Range x) = refl
  typed-back (item.Status x) = refl
  typed-back (item.Statistics p) = rw add-zero
  typed-back (item.Versions p) = rw add-zero
  typed-back (item.Expansion p) = rw add-sub_cancel
  typed-back (item.Purpose p) = rw add-sub_cancel

-- Reading what was written of an item: it ends where it was written to, and is the same item, entries and content with it.
module _ (s : List ℕ) (i : Item) (h : item_refusal s i ≡ 0) (l : List ℕ) (at len : ℕ) (room : at + length (item_octets s i) ≤ len) (inside : len ≤ length l) where
  pub written_read : item_at (laid l at (item_octets s i)) len (item_format i) at ≡ got (trace_of s i) (at + length (item_octets s i))
  written_read = item_read-back l at (item_format i) (trace_of s i) (item-fits s i h) len room inside

  pub written-typed : item_of (form_of i) (trace_at (item_format i) (laid l at (item_octets s i)) at) (at + 1) ≡ settled (at + 1) i
  written-typed =
      let r = run_read_back l at (item_format i) (trace_of s i) (item-fits s i h) len room inside in
      rw (← run_trace (laid l at (item_octets s i)) len (item_format i) at (trace_of s i) _ r) (typed-back s (at + 1) i)
