-- `versions_fit`: every entry is one of those from the offset on. Assumes nothing.
use mathlib.Core.Path.{◌≡◌, refl, ◌∙◌}
use mathlib.Core.Bool.{Bool}
use mathlib.Core.List.{List}
use Prim.Native.Nat.{ℕ, zero, suc, ◌+◌, ◌*◌}
use native.Mathlib.Nat.{add-zero}
use native.Mathlib.Omega.{arith}
use borrow.Author.Rules.{rules}
use borrow.Author.Tests.{tests}
use Rattle.std.specs.List.{list_all, range_with_len}
use Rattle.std.proofs.lemmas.Iterator.{YieldsList-from_range}
use Rattle.std.proofs.lemmas.Iterator.Search.{all_from_yields_List}
use Rattle.octets.specs.Numbers.{number}
use Rattle.layouts.specs.Groups.{values, fits}
use Rattle.layouts.specs.Formats.{fits_in}
use Rattle.layouts.specs.Layouts.{times}
use Rattle.layouts.specs.Tables.{version}
use Rattle.layouts.specs.Offsets.{groups_at}
use Rattle.items.proofs.Entries.{entries_fit_lem}
use Rattle.items.proofs.item.versions_fit.Goals as goal

module _ (s : List ℕ) (at : ℕ) where
  abbrev entry_fits : ℕ → Bool
  entry_fits i = fits version.parts (values version.parts (number 3 s (at + i * 3)))

  each : (n i : ℕ) → list_all entry_fits (range_with_len i n) ≡ entries_fit_lem n version s (at + i * 3)
  unfolding times groups_at fits_in
  each zero i = refl
  each (suc n) i =
      let e : at + (i + 1) * 3 ≡ at + i * 3 + 3 = omega arith in
      rw (each n (i + 1), e)

pub returns : goal.returns
returns c =
    let a = c.args in
    all_from_yields_List (entry_fits a.s.now a.at) _ _ _ c.all.ensures.ran (YieldsList-from_range 0 a.count a.count (cc) (omega arith)) (λ x b q k. search (rules, tests))
    ∙ rw add-zero at (each a.s.now a.at a.count 0)
