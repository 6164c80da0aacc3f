-- What the next block of a feed is, and the reports of its records (01 "Worked examples", the program `wear`).
use Rattle.std.specs.Prelude.{Bool, List, [], ◌∷◌, ℕ, zero, suc, ltb, eqb, length}
use Rattle.octets.specs.Choice.{pick}
use Rattle.octets.specs.Numbers.{number}
use Rattle.blocks.specs.Steps.{step_by}
use Rattle.blocks.specs.Walks.{read_of}
use Rattle.blocks.specs.Reading.{Reading}
use Rattle.blocks.specs.Reading as reading
use Rattle.rows.specs.Posting.{Report}
use Rattle.ledger.specs.Reports.{report_in}
use Rattle.feed.specs.declared.block.Next.{Next}
use Rattle.feed.specs.declared.block.Next.TheVariants as next
use Rattle.feed.specs.declared.run.Ending.{Ending}
use Rattle.feed.specs.declared.run.Ending.TheVariants as ending

-- LEN, of three octets at least
abbrev pub len_of : List ℕ → ℕ
len_of s = number 2 s 1

module _ {A : Type 0} (accepted skipped : ℕ → A) where
  -- a block of which all octets are there: accepted, or refused and skipped by LEN
  abbrev pub judged_by : ℕ → Reading → A
  judged_by len (reading.Accepted l n) = accepted len
  judged_by len (reading.Refused n at) = skipped len

  -- What the octets at hand begin with. Unless the input is over, more may come. Input that ends between blocks ends the run; fewer than 3
  -- octets left, LEN below 4 or past the input's end stop it, even where the refusal is 2.
  abbrev pub next_by : A → A → A → List ℕ → Bool → A
  next_by ended stopped more s over =
      pick (ltb (length s) 3) (pick over (pick (eqb (length s) 0) ended stopped) more)
      (pick (ltb (len_of s) 4) stopped
      (pick (ltb (length s) (len_of s)) (pick over stopped more)
      (judged_by (len_of s) (read_of s))))

abbrev pub judged : ℕ → Reading → Next
judged = judged_by Next.Accepted Next.Skipped

unfoldable pub next_of : List ℕ → Bool → Next
next_of = next_by Next.Accepted Next.Skipped (Next.Left Ending.Ended) (Next.Left Ending.Stopped) (Next.Left Ending.More)

-- The same in numbers: the blocks accepted, the blocks refused, and the octets that the run goes on by
pub record NextListed : Type 0 where
  pub accepted : ℕ
  pub refused : ℕ
  pub octets : ℕ

abbrev pub tally : ℕ → ℕ → ℕ → NextListed
tally accepted refused octets = record { accepted = accepted; refused = refused; octets = octets }

abbrev pub listed_next : Next → NextListed
listed_next (next.Accepted len) = tally 1 0 len
listed_next (next.Skipped len) = tally 0 1 len
listed_next (next.Left ending.Ended) = tally 0 0 0
listed_next (next.Left ending.Stopped) = tally 0 1 0
listed_next (next.Left ending.More) = tally 0 0 0

unfoldable pub next_listed : List ℕ → Bool → NextListed
next_listed = next_by (tally 1 0) (tally 0 1) (tally 0 0 0) (tally 0 1 0) (tally 0 0 0)

-- The reports of a block's records, as steps visit them; n at most
unfoldable pub reports_from : List ℕ → ℕ → ℕ → List Report
reports_from s zero at = []
reports_from s (suc n) at = step_by (λ m q. []) (λ t next. report_in s t ∷ reports_from s n next) s at

abbrev pub reports_of : List ℕ → List Report
reports_of s = reports_from s (len_of s) 3
