-- A report's entries: how many they are, and those that are left from one on. Assumes nothing.
use mathlib.Core.List.{List, [], ◌∷◌}
use mathlib.Core.Path.{◌≡◌, refl, ap, sym, ◌∙◌}
use Prim.Native.Nat.{ℕ, zero, suc, ◌-◌, ◌+◌, ◌≤◌, ◌<◌}
use native.Mathlib.Numerals.{add-one}
use native.Mathlib.Omega.{arith}
use lib.ListN.{length}
use Rattle.blocks.specs.Statistics.{report_entry}
use Rattle.blocks.specs.declared.statistics.Statistics.{Statistics}
use Rattle.rows.specs.Rows.{Entry}
use Rattle.ledger.specs.Reports.{entry_of, entries_from, entries_at}

module _ (s : List ℕ) (r : Statistics) where
  -- there are as many entries as are asked for
  pub entries-long : (n k : ℕ) → length (entries_from s r n k) ≡ n
  unfolding entries_from
  entries-long zero k = refl
  entries-long (suc n) k = ap suc (entries-long n (suc k))

  -- an entry is the i-th of the report's
  abbrev pub Nth : Entry → ℕ → Type 0
  Nth e i = e ≡ entry_of r (report_entry s r.at i)

  -- those from the i-th on
  abbrev pub left : ℕ → List Entry
  left i = entries_from s r (r.count - i) i

  -- at first all are left
  pub left-all : left 0 ≡ entries_at s r
  left-all = ap (λ m. entries_from s r m 0) (omega arith)

  -- below their number the i-th is the next
  pub left-next : (e : Entry) (i : ℕ) → Nth e i → i < r.count → left i ≡ e ∷ left (i + 1)
  unfolding entries_from
  left-next e i q h =
      let more : r.count - i ≡ suc (r.count - (i + 1)) = omega arith in
      ap (λ m. entries_from s r m i) more ∙ (λ p. sym q p ∷ entries_from s r (r.count - (i + 1)) (sym (add-one i) p))

  -- from there on none is left
  pub left-none : (i : ℕ) → r.count ≤ i → left i ≡ []
  unfolding entries_from
  left-none i h = let None-more : r.count - i ≡ 0 = omega arith in ap (λ m. entries_from s r m i) None-more
