-- Reading at an offset is reading the octets from there to the end; so what is written at an offset is read back there.
-- Assumes nothing.
use mathlib.Core.Path.{◌≡◌, refl, sym, ap, ◌∙◌}
use mathlib.Core.Bool.{Bool, true, false}
use mathlib.Core.List.{List, [], ◌∷◌, ◌++◌, append_assoc}
use Prim.Native.Nat.{ℕ, zero, suc, ◌+◌, ◌-◌, ◌≤◌, ◌<◌}
use native.Mathlib.Nat.{zero-add}
use native.Mathlib.Numerals.{add-one}
use native.Mathlib.Omega.{arith}
use lib.Dec.{ltb}
use lib.ListN.{length, get_or, take, drop, length-append, length-take, length-drop, drop_of_length-le}
use lib.Seq.{drop-drop, drop-cons, drop_at, get_or-drop, get_or-take, length-take-le, take-append-add}
use borrow.Author.Tests.{ltb-false}
use Rattle.octets.specs.Choice.{pick}
use Rattle.octets.specs.Numbers.{number, laid}
use Rattle.octets.specs.Refusals.{out_of_range}
use Rattle.octets.proofs.Laying.{length-laid}
use Rattle.layouts.specs.Groups.{values}
use Rattle.layouts.specs.Formats.{Parsed, refused, got, and_then, Format, done, stop, ask, Trace, fits_in, put}
use Rattle.layouts.specs.Offsets.{run_at, item_at, trace_at}
use Rattle.layouts.proofs.Suffixes.{run, item}
use Rattle.layouts.proofs.Parsed.{got-refused, pick_no, through}
use Rattle.layouts.proofs.Formats.{run-put}

-- the octets from an offset to the end
abbrev pub window : List ℕ → ℕ → ℕ → List ℕ
window s len at = drop at (take len s)

-- the octets behind, for the offset behind
abbrev pub behind : {A : Type 0} → List ℕ → ℕ → Parsed ℕ A → Parsed (List ℕ) A
behind s len (refused n) = refused n
behind s len (got a at) = got a (window s len at)

module _ {A B : Type 0} (s : List ℕ) (len : ℕ) where
  pub behind_then : (m : Parsed ℕ A) (f : A → ℕ → Parsed ℕ B) (g : A → List ℕ → Parsed (List ℕ) B)
      → ((a : A) (q : ℕ) → g a (window s len q) ≡ behind s len (f a q))
      → and_then (behind s len m) g ≡ behind s len (and_then m f)
  behind_then (refused n) f g h = refl
  behind_then (got a q) f g h = h a q

pub behind-pick : {A : Type 0} (s : List ℕ) (len : ℕ) (b : Bool) (m n : Parsed ℕ A)
    → pick b (behind s len m) (behind s len n) ≡ behind s len (pick b m n)
behind-pick s len true m n = refl
behind-pick s len false m n = refl

module _ (s : List ℕ) (len : ℕ) (fit : len ≤ length s) where
  pub window-long : (at : ℕ) → length (window s len at) ≡ len - at
  window-long at = simp (length-drop, length-take) (omega arith)

  pub window-drop : (at w : ℕ) → drop w (window s len at) ≡ window s len (at + w)
  window-drop at w = drop-drop w at (take len s)

  pub window-number : (w at : ℕ) → w ≤ len - at → number w (window s len at) 0 ≡ number w s at
  unfolding number
  window-number zero at h = refl
  window-number (suc w) at h =
      let i : at + (0 + w) < len = omega arith in
      rw (window-number w at (omega arith), get_or-drop at (take len s) (0 + w) 0, get_or-take len s (at + (0 + w)) 0 i, zero-add)

  pub window-none : (at : ℕ) → len ≤ at → window s len at ≡ []
  window-none at h = drop_of_length-le (take len s) {i = at} (rw length-take (omega arith))

  pub window_cons : (at : ℕ) → at < len → window s len at ≡ get_or s at 0 ∷ window s len (at + 1)
  window_cons at h =
      let l : at < length (take len s) = rw length-take (omega arith) in
      rw (drop-cons (take len s) at 0 l, get_or-take len s at 0 h, add-one)

  pub run-at : (f : Format) (at : ℕ) → run f (window s len at) ≡ behind s len (run_at s len f at)
  unfolding run run_at
  run-at done at = refl
  run-at (stop n) at = refl
  run-at (ask g k) at = go (ltb (len - at) g.wide) refl (run-at (k v) (at + g.wide))
    where
      v : List ℕ
      v = values g.parts (number g.wide s at)

      go : (b : Bool) → ltb (len - at) g.wide ≡ b
          → run (k v) (window s len (at + g.wide)) ≡ behind s len (run_at s len (k v) (at + g.wide))
          → run (ask g k) (window s len at) ≡ behind s len (run_at s len (ask g k) at)
      go true e ih = rw (window-long at, e)
      go false e ih =
          rw (window-long at, e, window-number g.wide at (ltb-false (len - at) g.wide e), window-drop at g.wide, ih)
          (behind_then s len (run_at s len (k v) (at + g.wide)) _ _ (λ a q. refl))

  pub item-at : (f : Format) (at : ℕ) → item f (window s len at) ≡ behind s len (item_at s len f at)
  unfolding item item_at
  item-at f at =
      rw (run-at f at)
      (behind_then s len (run_at s len f at) _ _ (λ tr q. behind-pick s len (fits_in f tr) (got tr q) (refused out_of_range)))

module _ (s : List ℕ) (len : ℕ) where
  -- the values that were read are those that stand there
  pub run_trace : (f : Format) (at : ℕ) (tr : Trace) (q : ℕ) → run_at s len f at ≡ got tr q → tr ≡ trace_at f s at
  unfolding run_at trace_at
  run_trace done at tr q h = cc
  run_trace (stop n) at tr q h = absurd (got-refused h)
  run_trace (ask g k) at tr q h =
      let v = values g.parts (number g.wide s at) in
      let (enough, e) = pick_no (ltb (len - at) g.wide) _ _ h in
      let (tr', q', e', last) = through (run_at s len (k v) (at + g.wide)) e in
      cc (run_trace (k v) (at + g.wide) tr' q' e')

  -- reading goes forward, and not past the end
  pub run-within : (f : Format) (at : ℕ) (tr : Trace) (q : ℕ) → at ≤ len → run_at s len f at ≡ got tr q → (at ≤ q) × (q ≤ len)
  unfolding run_at
  run-within done at tr q l h = let e : at ≡ q = cc in (omega arith, omega arith)
  run-within (stop n) at tr q l h = absurd (got-refused h)
  run-within (ask g k) at tr q l h =
      let v = values g.parts (number g.wide s at) in
      let (enough, e) = pick_no (ltb (len - at) g.wide) _ _ h in
      let (tr', q', e', last) = through (run_at s len (k v) (at + g.wide)) e in
      let same : q' ≡ q = cc in
      let room : at + g.wide ≤ len = omega (arith, ltb-false (len - at) g.wide enough) in
      let (a, b) = run-within (k v) (at + g.wide) tr' q' room e' in
      (omega arith, omega arith)

  pub behind-got : {A : Type 0} (m : Parsed ℕ A) (a : A) (r : List ℕ) → behind s len m ≡ got a r
      → (q : ℕ) × (m ≡ got a q) × (window s len q ≡ r)
  behind-got (refused n) a r h = absurd (got-refused h)
  behind-got (got b q) a r h = (q, cc, cc)

-- octets laid at an offset, and some octets behind them
laid-window : (l : List ℕ) (at : ℕ) (p : List ℕ) (j : ℕ) → at ≤ length l
    → window (laid l at p) (at + length p + j) at ≡ p ++ take j (drop (at + length p) l)
unfolding laid
laid-window l at p j h =
    let n : length (take at l) ≡ at = length-take-le at l h in
    let front : at + length p ≡ length (take at l ++ p) = sym (rw (length-append, n)) in
    rw (front, take-append-add, append_assoc, drop_at (take at l) _ at n)

-- where octets stand that reading accepts, they are read up to their end
pub run_lands : (s : List ℕ) (len : ℕ) → len ≤ length s → (f : Format) (at : ℕ) (tr : Trace) (p r : List ℕ) → at ≤ len
    → window s len at ≡ p ++ r → run f (p ++ r) ≡ got tr r → run_at s len f at ≡ got tr (at + length p)
run_lands s len fit f at tr p r l here h =
    let (q, e, rest) = behind-got s len (run_at s len f at) tr r (sym (run-at s len fit f at) ∙ rw here h) in
    let (low, high) = run-within s len f at tr q l e in
    let long = simp length-append at (ap length here) in
    let same : q ≡ at + length p = omega (arith, window-long s len fit q, window-long s len fit at, ap length rest) in
    rw (← same) e

-- what is written at an offset is read back there
module _ (l : List ℕ) (at : ℕ) (f : Format) (tr : Trace) (h : fits_in f tr ≡ true) (len : ℕ)
    (room : at + length (put f tr []) ≤ len) (inside : len ≤ length l) where
  pub run_read_back : run_at (laid l at (put f tr [])) len f at ≡ got tr (at + length (put f tr []))
  run_read_back =
      let p = put f tr [] in
      let j = len - (at + length p) in
      let r = take j (drop (at + length p) l) in
      let fit : len ≤ length (laid l at p) = rw (length-laid l at p (omega arith)) inside in
      let end : at + length p + j ≡ len = omega arith in
      run_lands (laid l at p) len fit f at tr p r (omega arith) (rw end at (laid-window l at p j (omega arith))) (run-put f tr [] r h)

  pub item_read-back : item_at (laid l at (put f tr [])) len f at ≡ got tr (at + length (put f tr []))
  unfolding item_at
  item_read-back = rw (run_read_back, h)
