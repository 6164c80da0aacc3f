-- Times in a ledger (02 §4), computed; a wrong one is refused. Assumes nothing.
use mathlib.Core.Bool.{true, false}
use mathlib.Core.Path.{◌≡◌, refl}
use Prim.Native.Nat.{◌<◌}
use native.Mathlib.Omega.{arith}
use Rattle.blocks.specs.Statistics.{latest_time}
use Rattle.rows.specs.Rows.{no_time}
use Rattle.ledger.specs.Ledgers.{time_keeps, row_empty}

-- Which times a row may have: those up to §1's bound, and the one number that says that none is known, which is no time of day

no-time : no_time ≡ 0xFFFFFFFF
no-time = refl

apart : latest_time < no_time
apart = omega arith

latest : time_keeps 11059327 ≡ true
latest = refl

unknown : time_keeps 0xFFFFFFFF ≡ true
unknown = refl

too_late : time_keeps 11059328 ≡ false
too_late = refl

below_all_ones : time_keeps 0xFFFFFFFE ≡ false
below_all_ones = refl

above_all_ones : time_keeps 0x100000000 ≡ false
above_all_ones = refl

-- a place past the row count has none
empty : row_empty (record { key = 0; life = 0; reading = 0; time = 0xFFFFFFFF }) ≡ true
empty = refl

known_past : row_empty (record { key = 0; life = 0; reading = 0; time = 0 }) ≡ false
known_past = refl
