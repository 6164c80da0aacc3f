-- Worked examples of posting, computed; a wrong one is refused. Assumes nothing.
use mathlib.Core.List.{List, [], ◌∷◌}
use mathlib.Core.Path.{◌≡◌, refl}
use Prim.Native.Nat.{ℕ, ◌*◌, ◌-◌, ◌^◌}
use Rattle.rows.specs.Rows.{Row, Entry, no_time, add_up, row_of}
use Rattle.rows.specs.Posting.{Report, refused, counts, names, new_keys, posted, add_entry, add_all, passes, post_rows, answers, after}

abbrev row : ℕ → ℕ → ℕ → ℕ → Row
row k life reading time = record { key = k; life = life; reading = reading; time = time }

-- at a time, and all at one second
abbrev timed : ℕ → ℕ → ℕ → ℕ → Entry
timed k time reference count = record { key = k; time = time; reference = reference; count = count }

abbrev entry : ℕ → ℕ → ℕ → Entry
entry k reference count = timed k 128 reference count

-- document 01's run: 100, 150 and 30 from midnight, then 5 from the last report, all at one time
abbrev four : List Report
four =
    counts (entry 0x01021204 0 100 ∷ []) ∷ counts (entry 0x01021204 0 150 ∷ []) ∷ counts (entry 0x01021204 0 30 ∷ [])
    ∷ counts (entry 0x01021204 1 5 ∷ []) ∷ []

run : after add_up [] four ≡ row 0x01021204 185 30 128 ∷ []
unfolding add_up add_entry add_all row_of names new_keys passes post_rows after
run = refl

-- all or nothing: the second entry's life count would pass, so the first is not added either
too_much : post_rows add_up (row 5 (2 ^ 64 - 1) 0 no_time ∷ []) (counts (entry 4 0 7 ∷ entry 5 1 1 ∷ [])) ≡ posted 15 (row 5 (2 ^ 64 - 1) 0 no_time ∷ [])
unfolding add_up add_entry add_all row_of names new_keys passes post_rows
too_much = refl

-- the same TYPE twice in one report: two entries in turn, one new key
twice : new_keys [] (entry 4 0 7 ∷ entry 4 0 9 ∷ []) ≡ 4 ∷ []
unfolding row_of names new_keys
twice = refl

twice-posted : post_rows add_up [] (counts (entry 4 0 7 ∷ entry 4 0 9 ∷ [])) ≡ posted 0 (row 4 9 9 128 ∷ [])
unfolding add_up add_entry add_all row_of names new_keys passes post_rows
twice-posted = refl

-- a report that is refused for its octets leaves the rows
not_read : answers add_up [] (refused 13 ∷ counts (entry 4 0 7 ∷ []) ∷ []) ≡ 13 ∷ 0 ∷ []
unfolding add_up add_entry add_all row_of names new_keys passes post_rows answers
not_read = refl

-- Midnights (02 §4), of the counter of P8

abbrev p8 : ℕ → ℕ → ℕ → Report
p8 time reference count = counts (timed 0x01021204 time reference count ∷ [])

-- o'clock, in 1/128 s
abbrev clock : ℕ → ℕ
clock h = h * 3600 * 128

-- a busy day: 100 at 20:00, and 150 at 12:00 of the next day. By document 01's rule alone the life count would be 150
busy : after add_up [] (p8 (clock 20) 0 100 ∷ p8 (clock 12) 0 150 ∷ []) ≡ row 0x01021204 250 150 (clock 12) ∷ []
unfolding add_up add_entry add_all row_of names new_keys passes post_rows after
busy = refl

-- an entry from the last report between the two leaves the time
between : after add_up [] (p8 (clock 20) 0 100 ∷ p8 (clock 8) 1 7 ∷ p8 (clock 12) 0 150 ∷ []) ≡ row 0x01021204 257 150 (clock 12) ∷ []
unfolding add_up add_entry add_all row_of names new_keys passes post_rows after
between = refl

-- at equal times, and at a later one, no midnight has passed; the time becomes the later one
same-time : after add_up [] (p8 (clock 12) 0 100 ∷ p8 (clock 12) 0 150 ∷ p8 (clock 13) 0 160 ∷ []) ≡ row 0x01021204 160 160 (clock 13) ∷ []
unfolding add_up add_entry add_all row_of names new_keys passes post_rows after
same-time = refl

-- a row whose time is not known, as from an old page: an earlier time is not seen, and is known from then on
from_old_page : after add_up (row 0x01021204 100 100 no_time ∷ []) (p8 (clock 12) 0 150 ∷ []) ≡ row 0x01021204 150 150 (clock 12) ∷ []
unfolding add_up add_entry add_all row_of names new_keys passes post_rows after
from_old_page = refl

-- one TYPE twice in a report, at an earlier time: the first entry finds the midnight, and the second is at its own time
twice_early : after add_up (row 0x01021204 100 100 (clock 20) ∷ [])
    (counts (timed 0x01021204 (clock 12) 0 150 ∷ timed 0x01021204 (clock 12) 0 160 ∷ []) ∷ []) ≡ row 0x01021204 260 160 (clock 12) ∷ []
unfolding add_up add_entry add_all row_of names new_keys passes post_rows after
twice_early = refl

-- midnight itself is time 0: it is earlier than any other, and none is earlier than it
at-midnight : after add_up (row 0x01021204 100 100 1 ∷ []) (p8 0 0 150 ∷ p8 0 0 160 ∷ []) ≡ row 0x01021204 260 160 0 ∷ []
unfolding add_up add_entry add_all row_of names new_keys passes post_rows after
at-midnight = refl

-- a new row that begins with an entry from the last report has no known time
new-last : after add_up [] (p8 (clock 12) 1 7 ∷ []) ≡ row 0x01021204 7 0 no_time ∷ []
unfolding add_up add_entry add_all row_of names new_keys passes post_rows after
new-last = refl
