-- Two slices hand out records with the same track re-numbering toggles (02 §2).
use Rattle.std.specs.Prelude.{◌≡◌, true, List, ℕ}
use Rattle.layouts.specs.declared.form.Form.{Form}
use Rattle.blocks.specs.Toggle.{toggle_bit}
use Rattle.blocks.specs.Typed.{has}
use Rattle.blocks.specs.declared.record.Record.{Record}
use Rattle.demands.specs.Rewritten.{Hands}

-- the record at a start of each, up to the next: the second has the toggle of the first; where 65/040 is there, so has bit 2 of its octet
pub record SameToggle (s x : List ℕ) (at next at' next' : ℕ) : Type 0 where
  pub one : Record
  pub other : Record
  pub first : Hands s at one next
  pub second : Hands x at' other next'
  pub toggle : other.sdps.sttn ≡ one.sdps.sttn
  pub bit : has one Form.Sdps ≡ true → toggle_bit x at' ≡ toggle_bit s at
