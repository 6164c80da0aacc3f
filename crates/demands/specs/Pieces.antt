-- A feed that is handed over at its door in pieces: what the cells of one call leave to the next, and what those of two calls say of the whole.
use Rattle.std.specs.Prelude.{List, ◌≡◌, ℕ, ◌+◌, get_or, take, drop}
use Rattle.feed.specs.Totals.{up}
use Rattle.feed.specs.declared.run.Ending.{Ending}
use Rattle.doors.specs.Cell as wear
use Rattle.doors.specs.Feeds.{left_off}

-- the call left off since more octets are needed
abbrev pub Waits : List ℕ → Type 0
Waits cells = get_or cells wear.feed_left_off 0 ≡ left_off Ending.More

-- the page that it stored in an output, and the octets that it did not use
abbrev pub stored : List ℕ → List ℕ → List ℕ
stored cells out = take (get_or cells wear.feed_page 0) out

abbrev pub unused : List ℕ → List ℕ → List ℕ
unused cells s = drop (get_or cells wear.feed_used 0) s

-- the cells of the first call, of the second, and of one over the whole: a count goes up to 2^64 - 1
pub record Together (first second whole : List ℕ) : Type 0 where
  pub page : get_or whole wear.feed_page 0 ≡ get_or second wear.feed_page 0
  pub used : get_or whole wear.feed_used 0 ≡ get_or first wear.feed_used 0 + get_or second wear.feed_used 0
  pub left : get_or whole wear.feed_left_off 0 ≡ get_or second wear.feed_left_off 0
  pub accepted : get_or whole wear.feed_accepted 0 ≡ up (get_or first wear.feed_accepted 0) (get_or second wear.feed_accepted 0)
  pub refused : get_or whole wear.feed_refused 0 ≡ up (get_or first wear.feed_refused 0) (get_or second wear.feed_refused 0)
  pub posted : get_or whole wear.feed_posted 0 ≡ up (get_or first wear.feed_posted 0) (get_or second wear.feed_posted 0)
  pub unposted : get_or whole wear.feed_unposted 0 ≡ up (get_or first wear.feed_unposted 0) (get_or second wear.feed_unposted 0)
