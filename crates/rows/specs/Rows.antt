-- A ledger's rows, the entries of a report, and the adding-up rule (01 "Ledger", 02 §4).
use Rattle.std.specs.Prelude.{Bool, true, false, ◌&&◌, not, List, [], ◌∷◌, ℕ, ◌+◌, ◌*◌, ◌-◌, ◌^◌, leb, ltb, eqb}
use Rattle.std.proofs.Math.Option.{Option, none, some}
use Rattle.octets.specs.Choice.{pick}

-- a row: its counter's key, the life count, the last midnight reading, and the time of the last from-midnight entry, in 1/128 s, or that none is known
pub record Row : Type 0 where
  pub key : ℕ
  pub life : ℕ
  pub reading : ℕ
  pub time : ℕ

-- no known time: all ones in 32 bits, which no time of day is (02 §5 has it so on a page)
abbrev pub no_time : ℕ
no_time = 2 ^ 32 - 1

-- a key: SAC, SIC, the octet of 015, TYPE, as one number, so that keys rise as these four do
abbrev pub key_of : ℕ → ℕ → ℕ → ℕ → ℕ
key_of sac sic octet typ = ((sac * 256 + sic) * 256 + octet) * 256 + typ

-- a new row starts at 0 and 0, with no known time
abbrev pub new_row : ℕ → Row
new_row k = record { key = k; life = 0; reading = 0; time = no_time }

-- an entry of a statistics report: its counter's key, its record's time, REF (0 from midnight, 1 from the last report) and count
pub record Entry : Type 0 where
  pub key : ℕ
  pub time : ℕ
  pub reference : ℕ
  pub count : ℕ

-- Whether an entry counts from the last report; else from midnight
abbrev pub since_last : Entry → Bool
since_last e = eqb e.reference 1

-- A midnight has passed since the row's time: the entry's is earlier. A clock set back counts as one; no known time does not
abbrev pub midnight : Row → Entry → Bool
midnight r e = not (eqb r.time no_time) && ltb e.time r.time

-- From the last report, the count is added, and reading and time stay. From midnight, where a midnight has passed the whole count is added; else a
-- count at or above the reading adds the difference, and a smaller one adds itself. The reading becomes the count, and the time the entry's.
abbrev pub adds : Row → Entry → ℕ
adds r e =
    pick (since_last e) e.count
    (pick (midnight r e) e.count
    (pick (leb r.reading e.count) (e.count - r.reading) e.count))

unfoldable pub add_up : Row → Entry → Row
add_up r e = record {
  key = r.key;
  life = r.life + adds r e;
  reading = pick (since_last e) r.reading e.count;
  time = pick (since_last e) r.time e.time;
}

-- the time of the last from-midnight entry, or what it was before
unfoldable pub last_time : ℕ → List Entry → ℕ
last_time was [] = was
last_time was (e ∷ es) = last_time (pick (since_last e) was e.time) es

-- the row of a key, if there is one; its life count, 0 where there is none, and its time; the row that an entry of this key is added up to
unfoldable pub row_of : List Row → ℕ → Option Row
row_of [] k = none
row_of (r ∷ rows) k = pick (eqb r.key k) (some r) (row_of rows k)

abbrev pub has : Option Row → Bool
has none = false
has (some r) = true

abbrev pub life_of : Option Row → ℕ
life_of none = 0
life_of (some r) = r.life

abbrev pub time_of : Option Row → ℕ
time_of none = no_time
time_of (some r) = r.time

abbrev pub or_new : ℕ → Option Row → Row
or_new k none = new_row k
or_new k (some r) = r
