-- What is read from the end of the octets on is zero, and so an item that is not there is all zero. Assumes nothing.
use mathlib.Core.Path.{◌≡◌, refl}
use mathlib.Core.List.{List, [], ◌∷◌}
use Prim.Native.Nat.{ℕ, zero, suc, ◌+◌, ◌≤◌}
use native.Mathlib.Nat.{zero-div, zero-mod}
use native.Mathlib.Omega.{arith}
use borrow.Author.Tests.{le-leb}
use lib.ListN.{length, get_or, get_or-eq_default}
use Rattle.octets.specs.Numbers.{number}
use Rattle.layouts.specs.Groups.{Part, spare, value, values}
use Rattle.layouts.specs.Formats.{Format, done, stop, ask}
use Rattle.layouts.specs.Layouts.{Layout, octet, format}
use Rattle.layouts.specs.Offsets.{trace_at}
use Rattle.layouts.specs.Tables.{layout}
use Rattle.layouts.specs.declared.form.Form.{Form}
use Rattle.items.specs.Typed.{val, place_at}
use Rattle.blocks.specs.Typed.{nowhere}

past-number : (k : ℕ) (s : List ℕ) (o : ℕ) → length s ≤ o → number k s o ≡ 0
unfolding number
past-number zero s o h = refl
past-number (suc k) s o h = rw (past-number k s o h, get_or-eq_default s 0 {n = o + k} (omega arith))

zero-values : (ps : List Part) (i : ℕ) → get_or (values ps 0) i 0 ≡ 0
unfolding values
zero-values [] i = refl
zero-values (spare k ∷ ps) i = zero-values ps i
zero-values (value k ok ∷ ps) zero = rw (zero-div, zero-mod)
zero-values (value k ok ∷ ps) (suc i) = zero-values ps i

past_value : (s : List ℕ) (f : Format) (at : ℕ) → length s ≤ at → (j i : ℕ) → val (trace_at f s at) j i ≡ 0
unfolding trace_at
past_value s done at h j i = refl
past_value s (stop n) at h j i = refl
past_value s (ask g k) at h zero i = rw (past-number g.wide s at h) (zero-values g.parts i)
past_value s (ask g k) at h (suc j) i =
    past_value s (k (values g.parts (number g.wide s at))) (at + g.wide) (omega arith) j i

module _ (s : List ℕ) where
  pub end-value : (f : Format) (j i : ℕ) → val (trace_at f s (length s)) j i ≡ 0
  end-value f = past_value s f (length s) (omega arith)

  pub end-place : (e : ℕ) → place_at s (length s) e ≡ nowhere
  end-place e = rw (le-leb (length s) (length s) (omega arith))

  -- an octet's value is the same where its form gives it a range
  module _ (at : ℕ) where
    abbrev one : Layout → ℕ
    one l = val (trace_at (format l) s at) 0 0

    pub octet-type : one (Layout.fixed octet) ≡ one (layout Form.MessageType)
    unfolding trace_at format values
    octet-type = refl

    pub octet-report : one (Layout.fixed octet) ≡ one (layout Form.Report)
    unfolding trace_at format values
    octet-report = refl
