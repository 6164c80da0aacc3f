use mathlib.Core.Path.{◌≡◌, sym, ap}
use mathlib.Core.List.{List, ◌++◌, append-nil, append_assoc}
use Prim.Native.Nat.{ℕ, zero, suc, ◌+◌, ◌*◌, ◌≤◌}
use native.Mathlib.Nat.{zero-mul, suc-mul}
use native.Mathlib.Numerals.{add-one}
use native.Mathlib.Omega.{arith}
use lib.ListN.{length}
use Rattle.octets.specs.Numbers.{number, octets, laid}
use Rattle.octets.proofs.Laying.{laid-laid, laid_none}
use Rattle.layouts.specs.Groups.{values, merge, Group}
use Rattle.layouts.specs.Formats.{put}
use Rattle.layouts.specs.Layouts.{times, entry_group}
use Rattle.layouts.specs.Tables.{layout}
use Rattle.layouts.specs.Offsets.{groups_at}
use Rattle.items.proofs.Entries.{entries, entries-long}
use Rattle.items.proofs.item.put_entries.Goals as goal

module _ (g : Group) (s : List ℕ) where
  -- the entry at q, spare bits cleared
  abbrev cleared : ℕ → List ℕ
  cleared q = octets g.wide (merge g.parts (values g.parts (number g.wide s q)) 0)

  -- entries end with the last
  last : (n q : ℕ) → entries (suc n) g s q ≡ entries n g s q ++ cleared (q + n * g.wide)
  unfolding times groups_at put
  last zero q =
      let e : q + 0 * g.wide ≡ q = omega (arith, zero-mul g.wide) in
      rw e (append-nil _)
  last (suc n) q =
      let e : q + suc n * g.wide ≡ q + g.wide + n * g.wide = omega (arith, suc-mul n g.wide) in
      rw (e, append_assoc) (ap (λ (l : List ℕ). cleared q ++ l) (last n (q + g.wide)))

  next : (n q p : ℕ) (out : List ℕ) → p + n * g.wide ≤ length out
      → laid (laid out p (entries n g s q)) (p + n * g.wide) (cleared (q + n * g.wide)) ≡ laid out p (entries (n + 1) g s q)
  next n q p out h =
      let long = entries-long n g s q in
      rw (add-one, last n q) (rw long at (laid-laid out p (entries n g s q) (cleared (q + n * g.wide)) (rw long h)))

pub loop-i-init : goal.loop-i-init
unfolding times groups_at put octets
loop-i-init c = sym (laid_none c.args.out.now c.args.at 0)

pub loop-i-preserved : goal.loop-i-preserved
loop-i-preserved c =
    let a = c.args in
    let l = c.loop-i in
    let g = entry_group (layout a.form) in
    let room : a.at + l.i * g.wide ≤ length a.out.now = grind arith in
    let more = next g a.source.now l.i a.from a.at a.out.now room in
    cc
