-- Reading by a format: at an offset of the octets lent, up to the block's end.
use Rattle.std.specs.Prelude.{List, [], ◌∷◌, ℕ, zero, suc, ◌+◌, ◌-◌, ltb, get_or}
use Rattle.octets.specs.Choice.{pick, odd}
use Rattle.octets.specs.Numbers.{number}
use Rattle.octets.specs.Refusals.{passes_end, out_of_range}
use Rattle.layouts.specs.Groups.{values, Group}
use Rattle.layouts.specs.Formats.{Parsed, refused, got, and_then, Format, done, stop, ask, Trace, fits_in}
use Rattle.layouts.specs.declared.ends.Kind.{Kind}
use Rattle.layouts.specs.declared.ends.Kind.TheVariants.{Spare, Fixed, Extended, Repeated, Explicit}

module _ (s : List ℕ) (len : ℕ) where
  -- where it ends: 7 and the format's own refusals, as they are met
  unfoldable pub run_at : Format → ℕ → Parsed ℕ Trace
  run_at done at = got [] at
  run_at (stop n) at = refused n
  run_at (ask g k) at =
      let v = values g.parts (number g.wide s at) in
      let next = run_at (k v) (at + g.wide) in
      pick (ltb (len - at) g.wide) (refused passes_end) (and_then next (λ tr q. got (v ∷ tr) q))

  -- an item: where it ends, and then its values (01 "Reading order")
  unfoldable pub item_at : Format → ℕ → Parsed ℕ Trace
  item_at f at = and_then (run_at f at) (λ tr q. pick (fits_in f tr) (got tr q) (refused out_of_range))

-- the values there, wherever the block ends
unfoldable pub trace_at : Format → List ℕ → ℕ → Trace
trace_at done s at = []
trace_at (stop n) s at = []
trace_at (ask g k) s at =
    let v = values g.parts (number g.wide s at) in
    v ∷ trace_at (k v) s (at + g.wide)

-- the values of n groups from an offset
unfoldable pub groups_at : ℕ → Group → List ℕ → ℕ → Trace
groups_at zero g s at = []
groups_at (suc n) g s at = values g.parts (number g.wide s at) ∷ groups_at n g s (at + g.wide)

-- the number of the octet behind an extendable part, where FX of the part's number x is set; else 0
abbrev pub extension_at : List ℕ → ℕ → Kind → ℕ → ℕ
extension_at s at Spare x = 0
extension_at s at (Fixed size) x = 0
extension_at s at (Extended size more) x = pick (odd x) (get_or s (at + size) 0) 0
extension_at s at (Repeated size) x = 0
extension_at s at Explicit x = 0
