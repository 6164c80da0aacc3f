-- What is counted: blocks accepted and refused, records posted, and records answered 14 or 15 (01 "Worked examples", the program `wear`).
use Rattle.std.specs.Prelude.{List, [], ◌∷◌, ℕ, ◌+◌, ◌-◌, ◌^◌, leb}
use Rattle.octets.specs.Choice.{pick}
use Rattle.octets.specs.Refusals.{no_room, life_passes}
use Rattle.rows.specs.Order.{times}
use Rattle.feed.specs.declared.totals.Totals.{Totals}

-- a count goes up to 2^64 - 1 and stays there
abbrev pub up : ℕ → ℕ → ℕ
up n k = pick (leb (2 ^ 64) (n + k)) (2 ^ 64 - 1) (n + k)

-- a refused block is counted
abbrev pub refused_one : Totals → Totals
refused_one t = record { accepted = t.accepted; refused = up t.refused 1; posted = t.posted; unposted = t.unposted }

-- an answer is counted: 0, and 14 and 15; 13 is in neither
abbrev pub answered_one : Totals → ℕ → Totals
answered_one t n = record {
  accepted = t.accepted;
  refused = t.refused;
  posted = up t.posted (times 0 (n ∷ []));
  unposted = up t.unposted (times no_room (n ∷ []) + times life_passes (n ∷ []));
}

-- an accepted block is counted; and with it, of its records, those answered 0, and those answered 14 or 15
abbrev pub block_done : Totals → Totals
block_done t = record { accepted = up t.accepted 1; refused = t.refused; posted = t.posted; unposted = t.unposted }

abbrev pub accepted_one : Totals → List ℕ → Totals
accepted_one t ns = record {
  accepted = up t.accepted 1;
  refused = t.refused;
  posted = up t.posted (times 0 ns);
  unposted = up t.unposted (times no_room ns + times life_passes ns);
}
