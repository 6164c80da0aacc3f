-- `entry`: a step, and then the entry of its record. Assumes nothing.
use mathlib.Core.Path.{◌≡◌, ap, ◌∙◌}
use mathlib.Core.List.{List}
use Prim.Native.Nat.{ℕ}
use Rattle.std.proofs.lemmas.Result.{err_from_is_err_and}
use Rattle.blocks.specs.Steps.{entry_of, listed_entry, entry_listed}
use Rattle.blocks.specs.Found.{Found}
use Rattle.blocks.proofs.ListedLaws.{entry_listed_lem}
use Rattle.blocks.proofs.StepLaws.{entry-refused, entry-taken, entries-room}
use Rattle.blocks.proofs.cursor.entry.Goals as goal

-- an answer, and its number and values
told : (s : List ℕ) (start k : ℕ) (r : Found) → r ≡ entry_of s start k → (r ≡ entry_of s start k) × (listed_entry r ≡ entry_listed s start k)
told s start k r e = (e, ap listed_entry e ∙ entry_listed_lem s start k)

pub entry_in-requires : goal.entry_in-requires
entry_in-requires c =
    let t = c.in_ok-record.field-0 in
    entries-room _ _ t.taken t.next (λ j. (c.type_inv.s j).fits) c.in_ok-record.ensures.0

pub returns-in_err-record : goal.returns-in_err-record
returns-in_err-record c =
    let p = err_from_is_err_and c.from_residual.result c.from_residual.ensures.1 in
    rw (p.1, p.2) (told _ _ _ _ (entry-refused _ _ _ _ _ c.in_err-record.ensures.0))

pub returns : goal.returns
returns c = told _ _ _ _ (entry-taken _ _ _ _ _ c.in_ok-record.ensures.0 _ c.entry_in.ensures)
