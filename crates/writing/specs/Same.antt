-- When a record that was read is the one that was given for writing: places aside, and values of absent items and extensions taken as zero.
use Rattle.std.specs.Prelude.{◌≡◌, true, false, List, ℕ, ◌+◌, ◌<◌, eqb, get_or}
use Rattle.octets.specs.Choice.{pick}
use Rattle.layouts.specs.declared.form.Form.{Form}
use Rattle.items.specs.Typed.{settled}
use Rattle.blocks.specs.Typed.{absent, has}
use Rattle.blocks.specs.Meaning.{item_in, rec_of}
use Rattle.blocks.specs.declared.record.Record.{Record}

-- entries have one form in a category (`entries_form`), and those of the other form are none of its items
abbrev pub other_form : ℕ → Form
other_form cat = pick (eqb cat 242) Form.Statistics Form.Versions

-- a record t with its source s, and a record u read from octets x
pub record Same (s : List ℕ) (t : Record) (x : List ℕ) (u : Record) : Type 0 where
  pub category : u.category ≡ t.category
  pub marks : u.marks ≡ t.marks
  -- marks, and the values of each item, entries and content among them
  pub means : rec_of x u ≡ rec_of s t
  -- each item that is marked, its entries or content at some offset
  pub present : (f : Form) → has t f ≡ true → (at : ℕ) × (item_in u f ≡ settled at (item_in t f))
  -- and each that is not is all zero
  pub absent : (f : Form) → (f ≡ other_form t.category → ⊥) → has t f ≡ false → item_in u f ≡ item_in absent f
  -- content is the source's, octet by octet
  pub expansion : has t Form.Expansion ≡ true → (j : ℕ) → j < t.expansion.count → get_or x (u.expansion.at + j) 0 ≡ get_or s (t.expansion.at + j) 0
  pub purpose : has t Form.Purpose ≡ true → (j : ℕ) → j < t.purpose.count → get_or x (u.purpose.at + j) 0 ≡ get_or s (t.purpose.at + j) 0
