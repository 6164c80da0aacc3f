-- The converse of a refused reading: a refused header, or a first faulty record behind good ones, gets its number and offset; and an accepted
-- block has a record. Assumes nothing.
use mathlib.Core.Path.{◌≡◌, sym, ap, ◌∙◌, subst}
use mathlib.Core.Logic.{inl, inr}
use mathlib.Core.List.{List, [], ◌∷◌}
use Prim.Native.Nat.{ℕ, ◌-◌, ◌≤◌, ◌<◌}
use native.Mathlib.Omega.{arith}
use lib.ListN.{length}
use Rattle.octets.specs.Numbers.{Octets}
use Rattle.layouts.specs.Formats.{refused}
use Rattle.layouts.specs.Categories.{Category, category}
use Rattle.blocks.specs.Records.{Rec}
use Rattle.blocks.specs.Blocks.{wrong, records_at}
use Rattle.blocks.specs.Offsets.{record_at}
use Rattle.blocks.specs.Walks.{answer_of, read_of}
use Rattle.blocks.specs.Boundaries.{Joined, Stopped}
use Rattle.blocks.specs.Reading.{Reading}
use Rattle.blocks.proofs.HeaderLaws.{header-good}
use Rattle.blocks.proofs.ReadSteps.{records-one}
use Rattle.blocks.proofs.BoundaryLaws.{read-good, read-refused, read-filled}

module _ (s : List ℕ) (len : ℕ) (c : Category) where
  -- records that go up to a faulty one: reading finds it
  joined-wrong : (m at end n : ℕ) (rs : List Rec) → len - at ≤ m → Joined s len c at rs end → record_at s len c end ≡ refused n → end < len
      → records_at s len c m at ≡ wrong n end
  joined-wrong m at end n [] k j e l =
      subst (λ x. records_at s len c m x ≡ wrong n end) (sym j) (records-one s len c m (m - 1) end (omega arith) l ∙ rw e)
  joined-wrong m at end n (r ∷ rs) k (q, is, a, b, j) e l =
      records-one s len c m (m - 1) at (omega arith) (omega arith) ∙ rw (is, joined-wrong (m - 1) q end n rs (omega arith) j e l)

-- A block that is stopped is refused so.
pub stopped-read : (s : List ℕ) (n at : ℕ) → Stopped s n at → read_of s ≡ Reading.Refused n at
stopped-read s n at (inl (h, z)) = read-refused s n h ∙ ap (Reading.Refused n) (sym z)
stopped-read s n at (inr (cat, len, rs, h, j, e, l)) =
    read-good s cat len h ∙ ap (answer_of len) (joined-wrong s len (category cat) len 3 at n rs (omega arith) j e l)

-- An accepted block has at least one record.
pub read_some : (s : List ℕ) (len n : ℕ) → Octets s → read_of s ≡ Reading.Accepted len n → 1 ≤ n
read_some s len n o a =
    let (cat, rs, h, j, count, is) = read-filled s len n o a in
    go cat rs (header-good s cat len h).least j count
  where
    go : (cat : ℕ) (rs : List Rec) → 4 ≤ len → Joined s len (category cat) 3 rs len → length rs ≡ n → 1 ≤ n
    go cat [] l j e = absurd (omega arith)
    go cat (r ∷ rs) l j e = omega arith
