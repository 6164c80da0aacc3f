-- What became of a feed: the octets of the page that was stored, and what the run answered; or the number that refused.
use Rattle.std.specs.Prelude.{ℕ, Result, Ok, Err}
use Rattle.octets.specs.Refusals.{number_of}
use Rattle.octets.specs.declared.refusal.Refusal.{Refusal}
use Rattle.feed.specs.declared.run.Done.{Done}
use Rattle.doors.specs.declared.feeds.Fed.{Fed as CodeFed}

pub data Fed : Type 0 where
  Stored : ℕ → Done → Fed
  Refused : ℕ → Fed

-- the code's answer
abbrev pub as_fed : Result CodeFed Refusal → Fed
as_fed (Ok f) = Stored f.size f.done
as_fed (Err r) = Refused (number_of r)
