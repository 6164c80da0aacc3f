-- `version_fits`: the bits hold what was read, so only the ranges are tested. Assumes nothing.
use mathlib.Core.Path.{◌≡◌, sym, ◌∙◌}
use mathlib.Core.Bool.{◌&&◌, and-true}
use Prim.Native.Nat.{ℕ}
use lib.Dec.{leb, leb-zero}
use borrow.Author.Tests.{le-leb, lt-leb}
use Rattle.layouts.specs.Groups.{values, fits}
use Rattle.layouts.specs.Tables.{version}
use Rattle.items.specs.Typed.{version_of}
use Rattle.items.specs.declared.typed.Version.{Version}
use Rattle.items.proofs.Entries.{fits-ranged}
use Rattle.items.proofs.item.version_fits.Goals as goal

both_fit : (x : ℕ) (v : Version) → v ≡ version_of (values version.parts x)
    → fits version.parts (values version.parts x) ≡ (leb v.main 99 && leb v.sub 99)
unfolding values
both_fit x v is = rw is (fits-ranged version.parts x ∙ simp (leb-zero, and-true))

pub returns-then-entry-le-LAST_VERSION : goal.returns-then-entry-le-LAST_VERSION
returns-then-entry-le-LAST_VERSION c =
    let v = c.version_at-entry in
    sym (both_fit _ _ v.ensures ∙ rw (le-leb v.result.main 99 c.if-entry-le-LAST_VERSION.true))

pub returns-else-entry-le-LAST_VERSION : goal.returns-else-entry-le-LAST_VERSION
returns-else-entry-le-LAST_VERSION c =
    let v = c.version_at-entry in
    sym (both_fit _ _ v.ensures ∙ rw (lt-leb v.result.main 99 c.if-entry-le-LAST_VERSION.false))
