-- Reading by a format gives back what was written by it, whatever the spare bits; and what was read is what writing gives,
-- with some spare bits. Assumes nothing.
use mathlib.Core.Path.{◌≡◌, refl, sym, subst}
use mathlib.Core.Bool.{true, false, false≢true}
use mathlib.Core.List.{List, [], ◌∷◌, ◌++◌, append_assoc}
use Prim.Native.Nat.{ℕ, ◌+◌, ◌<◌, ◌≤◌, ◌^◌}
use native.Mathlib.Nat.{mod-eq_of_lt}
use native.Mathlib.Omega.{arith}
use lib.Dec.{ltb}
use lib.ListN.{length, get_or, drop, length-append, take-append-drop}
use lib.Seq.{drop_at}
use borrow.Author.Tests.{ltb-false, le-ltb}
use Rattle.octets.specs.Numbers.{Octets, number, octets}
use Rattle.octets.proofs.Numbers.{number_lt, number-octets, octets-number, length-octets}
use Rattle.octets.proofs.Cases.{both}
use Rattle.octets.proofs.Parts.{Octets-drop}
use Rattle.layouts.specs.Groups.{values, merge, fits, Group}
use Rattle.layouts.specs.Formats.{got, Format, done, stop, ask, Trace, fits_in, put}
use Rattle.layouts.proofs.Suffixes.{run, item}
use Rattle.layouts.proofs.Parsed.{through, pick_no, pick_yes, got-refused, OfGot}
use Rattle.layouts.proofs.Groups.{values-merge, merge-values, merge_lt, group-bits}

-- a group
module _ (g : Group) (v : List ℕ) (x : ℕ) (q : List ℕ) where
  abbrev written : List ℕ
  written = octets g.wide (merge g.parts v x) ++ q

  group-read : fits g.parts v ≡ true → values g.parts (number g.wide written 0) ≡ v
  group-read h =
      let small : merge g.parts v x < 256 ^ g.wide = rw (group-bits g) at (merge_lt g.parts v x h) in
      rw (number-octets g.wide (merge g.parts v x) [] q small) (values-merge g.parts v x h)

  group-rest : drop g.wide written ≡ q
  group-rest = drop_at (octets g.wide (merge g.parts v x)) q g.wide (length-octets g.wide (merge g.parts v x))

  group-there : ltb (length written) g.wide ≡ false
  group-there = le-ltb (length written) g.wide (rw (length-append, length-octets) (omega arith))

-- what is written is read back
pub run-put : (f : Format) (tr : Trace) (xs t : List ℕ) → fits_in f tr ≡ true → run f (put f tr xs ++ t) ≡ got tr t
unfolding run put fits_in
run-put done [] xs t h = refl
run-put done (v ∷ tr) xs t h = absurd (false≢true h)
run-put (stop n) tr xs t h = absurd (false≢true h)
run-put (ask g k) [] xs t h = absurd (false≢true h)
run-put (ask g k) (v ∷ tr) xs t h =
    let (a, b) = both (fits g.parts v) (fits_in (k v) tr) h in
    let q = put (k v) tr (drop 1 xs) ++ t in
    let x = get_or xs 0 0 in
    rw (append_assoc, group-there g v x q, group-read g v x q a, group-rest g v x q, run-put (k v) tr (drop 1 xs) t b)

pub item-put : (f : Format) (tr : Trace) (xs t : List ℕ) → fits_in f tr ≡ true → item f (put f tr xs ++ t) ≡ got tr t
unfolding item
item-put f tr xs t h = rw (run-put f tr xs t h, h)

-- what is read is what writing gives, with the spare bits that were there
pub record Was (f : Format) (s : List ℕ) (tr : Trace) (r : List ℕ) : Type 0 where
  pub bits : List ℕ
  pub is : s ≡ put f tr bits ++ r

group-was : (g : Group) (s : List ℕ) → Octets s → g.wide ≤ length s
    → octets g.wide (merge g.parts (values g.parts (number g.wide s 0)) (number g.wide s 0)) ++ drop g.wide s ≡ s
group-was g s o h =
    let small = number_lt g.wide s 0 o in
    let fit : 0 + g.wide ≤ length s = omega arith in
    rw (merge-values, group-bits g, mod-eq_of_lt small, octets-number g.wide s 0 fit o, take-append-drop)

was-step : (g : Group) (k : List ℕ → Format) (s : List ℕ) (tr : Trace) (r : List ℕ) → Octets s → g.wide ≤ length s
    → Was (k (values g.parts (number g.wide s 0))) (drop g.wide s) tr r
    → Was (ask g k) s (values g.parts (number g.wide s 0) ∷ tr) r
unfolding put
was-step g k s tr r o h w = record {
  bits = number g.wide s 0 ∷ w.bits;
  is = sym (rw (append_assoc, ← w.is) (group-was g s o h));
}

pub run-was : (f : Format) (s : List ℕ) (tr : Trace) (r : List ℕ) → Octets s → run f s ≡ got tr r → Was f s tr r
unfolding run put
run-was done s tr r o h = record { bits = []; is = cc }
run-was (stop n) s tr r o h = absurd (got-refused h)
run-was (ask g k) s tr r o h =
    let v = values g.parts (number g.wide s 0) in
    let (enough, e) = pick_no (ltb (length s) g.wide) _ _ h in
    let (tr', r', e', last) = through (run (k v) (drop g.wide s)) e in
    let before = run-was (k v) (drop g.wide s) tr' r' (Octets-drop g.wide s o) e' in
    subst (OfGot (Was (ask g k) s)) last (was-step g k s tr' r' o (ltb-false (length s) g.wide enough) before)

pub item-was : (f : Format) (s : List ℕ) (tr : Trace) (r : List ℕ) → Octets s → item f s ≡ got tr r
    → Was f s tr r × (fits_in f tr ≡ true)
unfolding item
item-was f s tr r o h =
    let (tr', r', e, last) = through (run f s) h in
    let (fit, same) = pick_yes (fits_in f tr') _ _ last in
    subst (OfGot (λ tr r. Was f s tr r × (fits_in f tr ≡ true))) same (run-was f s tr' r' o e, fit)

-- how many octets does not depend on the spare bits
pub put-length : (f : Format) (tr : Trace) (xs ys : List ℕ) → length (put f tr xs) ≡ length (put f tr ys)
unfolding put
put-length done tr xs ys = refl
put-length (stop n) tr xs ys = refl
put-length (ask g k) [] xs ys = refl
put-length (ask g k) (v ∷ tr) xs ys =
    simp (length-append, length-octets, put-length (k v) tr (drop 1 xs) (drop 1 ys))
