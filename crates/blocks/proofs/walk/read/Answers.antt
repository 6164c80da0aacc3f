-- `read`: by the header, and then the records. Assumes nothing.
use mathlib.Core.Path.{◌≡◌, sym, ap, ◌∙◌}
use mathlib.Core.List.{List}
use Prim.Native.Nat.{ℕ}
use native.Mathlib.Omega.{arith}
use Rattle.std.proofs.lemmas.Result.{err_from_is_err_and}
use Rattle.blocks.specs.Walks.{read_of, listed_reading, read_listed}
use Rattle.blocks.specs.Reading.{Reading}
use Rattle.blocks.proofs.HeaderLaws.{header-good}
use Rattle.blocks.proofs.BoundaryLaws.{read-refused, read-good}
use Rattle.blocks.proofs.ListedLaws.{read-listed}
use Rattle.blocks.proofs.walk.read.Goals as goal

-- the answer, and its number and values
read_by : (s : List ℕ) (r : Reading) → r ≡ read_of s → (r ≡ read_of s) × (listed_reading r ≡ read_listed s)
read_by s r is = (is, ap listed_reading is ∙ read-listed s)

pub read_records-requires : goal.read_records-requires
read_records-requires c =
    let w = header-good _ _ _ (sym c.in_ok-block.ensures.0) in
    omega (arith, w.least)

pub returns-in_err-block : goal.returns-in_err-block
returns-in_err-block c =
    let p = err_from_is_err_and c.from_residual.result c.from_residual.ensures.1 in
    rw (p.1, p.2) (read_by _ _ (sym (read-refused _ _ (sym c.in_err-block.ensures.0))))

pub returns : goal.returns
returns c = read_by _ _ (rw c.in_ok-block.ensures.2 at c.read_records.ensures ∙ sym (read-good _ _ _ (sym c.in_ok-block.ensures.0)))
