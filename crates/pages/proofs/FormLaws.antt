-- The two forms: what holds of each, by its tables. Assumes nothing.
use mathlib.Core.Path.{◌≡◌}
use mathlib.Core.List.{List}
use Prim.Native.Nat.{ℕ, ◌+◌, ◌*◌, ◌≤◌, ◌<◌, ◌^◌}
use native.Mathlib.Omega.{arith}
use lib.ListN.{length}
use Rattle.octets.specs.Numbers.{Octets}
use Rattle.rows.specs.Rows.{new_row}
use Rattle.pages.specs.Pages.{tables_of, head_long, row_long, page_length, row_from, row_at}
use Rattle.pages.specs.declared.forms.Form.{Form}
use Rattle.pages.specs.declared.forms.Form.TheVariants as form
use Rattle.pages.specs.declared.forms.Table.{Table}
use Rattle.pages.proofs.PageLaws.{part-octets, Lie}

-- the length of a page, by its form
module _ (f : Form) (n : ℕ) where
  pub length-old : f ≡ Form.Old → 8 + 16 * n ≡ page_length (tables_of f) n
  unfolding row_long
  length-old e = rw e

  pub length-new : f ≡ Form.New → 10 + 20 * n ≡ page_length (tables_of f) n
  unfolding row_long
  length-new e = rw e

-- two octets are enough for it
pub form-fits : (f : Form) (n : ℕ) → n ≤ 256 → page_length (tables_of f) n < 256 ^ 2
unfolding row_long
form-fits form.Old n h = omega arith
form-fits form.New n h = omega arith

-- each has four numbers in its head at least, and keys and readings
pub head-least : (f : Form) → 8 ≤ head_long (tables_of f)
head-least form.Old = omega arith
head-least form.New = omega arith

pub head-most : (f : Form) → head_long (tables_of f) ≤ 10
head-most form.Old = omega arith
head-most form.New = omega arith

pub readings-fit : (f : Form) (n : ℕ) → head_long (tables_of f) + 16 * n ≤ page_length (tables_of f) n
unfolding row_long
readings-fit form.Old n = omega arith
readings-fit form.New n = omega arith

-- no column is there twice, so that the rows of a page have its octets
pub lies : (f : Form) (s : List ℕ) (n : ℕ) → Octets s → length s ≡ page_length (tables_of f) n
    → Lie s (row_at (tables_of f) s n) (head_long (tables_of f)) 0 n (tables_of f)
unfolding Lie row_from row_long
lies form.Old s n o l = (λ i h. part-octets Table.Keys s _ (new_row 0) o (omega arith), (λ i h. part-octets Table.Readings s _ (new_row 0) o (omega arith), tt))
lies form.New s n o l = (
  λ i h. part-octets Table.Keys s _ (new_row 0) o (omega arith),
  (λ i h. part-octets Table.Readings s _ (new_row 0) o (omega arith), (λ i h. part-octets Table.Times s _ (new_row 0) o (omega arith), tt)),
)
