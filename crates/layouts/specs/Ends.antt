-- Where an item ends, by its kind: the octet after its last one, or 7, 8 and 9 as they are met (01 "Reading order").
use Rattle.std.specs.Prelude.{◌≡◌, Result, List, ℕ, zero, suc, ◌+◌, ◌*◌, ◌-◌, leb, ltb, get_or}
use Rattle.octets.specs.Choice.{pick, odd}
use Rattle.octets.specs.Refusals.{spare_marked, passes_end, no_count, past_last}
use Rattle.layouts.specs.Formats.{Parsed, refused, got}
use Rattle.octets.specs.declared.refusal.Refusal.{Refusal}
use Rattle.layouts.specs.End.{End, as_end}
use Rattle.layouts.specs.End as end
use Rattle.layouts.specs.declared.ends.Kind.{Kind}
use Rattle.layouts.specs.declared.ends.Kind.TheVariants.{Spare, Fixed, Extended, Repeated, Explicit}

-- the end of what was read
abbrev pub end_of : {A : Type 0} → Parsed ℕ A → End
end_of (refused n) = End.Refused n
end_of (got a at) = End.At at

-- document 01's number and value of an end: the octet after the last, which is 0 where it is refused
pub record EndListed : Type 0 where
  pub refusal : ℕ
  pub at : ℕ

abbrev pub listed_end : End → EndListed
listed_end (end.Refused n) = record { refusal = n; at = 0 }
listed_end (end.At at) = record { refusal = 0; at = at }

-- a function that finds an end answers it, and the same number and value
abbrev pub Ends : Result ℕ Refusal → End → Type 0
Ends r e = (as_end r ≡ e) × (listed_end (as_end r) ≡ listed_end e)

-- so many octets more
abbrev pub room_end : ℕ → ℕ → ℕ → End
room_end len at size = pick (ltb (len - at) size) (End.Refused passes_end) (End.At (at + size))

module _ (s : List ℕ) (len : ℕ) where
  -- an octet that counts e more than the parts behind it
  abbrev pub counted_end : ℕ → ℕ → ℕ → End
  counted_end e size at =
      let n = get_or s at 0 in
      pick (leb len at) (End.Refused passes_end) (pick (leb n e) (End.Refused no_count) (room_end len (at + 1) ((n - e) * size)))

  -- a part, and while FX is set an octet more, up to so many; n refuses FX in the last
  unfoldable pub chain_end : ℕ → ℕ → ℕ → ℕ → End
  chain_end n size zero at =
      pick (ltb (len - at) size) (End.Refused passes_end)
      (pick (odd (get_or s (at + (size - 1)) 0)) (End.Refused n) (End.At (at + size)))
  chain_end n size (suc more) at =
      let next = chain_end n 1 more (at + size) in
      pick (ltb (len - at) size) (End.Refused passes_end)
      (pick (odd (get_or s (at + (size - 1)) 0)) next (End.At (at + size)))

  abbrev pub kind_end : Kind → ℕ → End
  kind_end Spare at = End.Refused spare_marked
  kind_end (Fixed size) at = room_end len at size
  kind_end (Extended size more) at = chain_end past_last size more at
  kind_end (Repeated size) at = counted_end 0 size at
  kind_end Explicit at = counted_end 1 1 at
