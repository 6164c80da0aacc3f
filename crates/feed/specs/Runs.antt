-- A run over octets of a feed: block after block.
use Rattle.std.specs.Prelude.{Bool, true, false, List, [], ◌∷◌, ◌++◌, ℕ, zero, suc, ◌+◌, length, drop}
use Rattle.rows.specs.Rows.{Row, add_up}
use Rattle.rows.specs.Posting.{answers, after}
use Rattle.feed.specs.Blocks.{next_of, reports_of}
use Rattle.feed.specs.Totals.{refused_one, accepted_one}
use Rattle.feed.specs.declared.run.Done.{Done}
use Rattle.feed.specs.declared.run.Ending.{Ending}
use Rattle.feed.specs.declared.run.Ending.TheVariants as ending
use Rattle.feed.specs.declared.block.Next.{Next}
use Rattle.feed.specs.declared.block.Next.TheVariants as next
use Rattle.feed.specs.declared.totals.Totals.{Totals}

-- the rows, and what has been counted
pub record State : Type 0 where
  pub rows : List Row
  pub totals : Totals

abbrev pub state : List Row → Totals → State
state rows totals = record { rows = rows; totals = totals }

-- the records of an accepted block posted in turn
abbrev pub accepted_block : State → List ℕ → State
accepted_block st s =
    state (after add_up st.rows (reports_of s)) (accepted_one st.totals (answers add_up st.rows (reports_of s)))

-- the state at the end, the octets used, and whether the run has ended, stopped, or waits for more
pub record Run : Type 0 where
  pub state : State
  pub at : ℕ
  pub ending : Ending

abbrev pub left : State → ℕ → Ending → Run
left st at e = record { state = st; at = at; ending = e }

-- the same behind octets used before
abbrev pub behind : ℕ → Run → Run
behind n r = left r.state (n + r.at) r.ending

abbrev pub refused_block : State → State
refused_block st = state st.rows (refused_one st.totals)

-- a run that stops counts what it stops at
abbrev pub leaving : Ending → State → State
leaving ending.Ended st = st
leaving ending.Stopped st = refused_block st
leaving ending.More st = st

-- by what comes next; the rest goes on so many octets further, from a state
abbrev pub go_on : List ℕ → State → (ℕ → State → Run) → Next → Run
go_on s st rest (next.Left e) = left (leaving e st) 0 e
go_on s st rest (next.Skipped len) = behind len (rest len (refused_block st))
go_on s st rest (next.Accepted len) = behind len (rest len (accepted_block st s))

-- n blocks at most; a block has an octet at least, so that as many as there are octets, and one for the end, are all
unfoldable pub run_from : ℕ → List ℕ → Bool → State → Run
run_from zero s over st = left st 0 Ending.More
run_from (suc n) s over st = go_on s st (λ len st'. run_from n (drop len s) over st') (next_of s over)

abbrev pub run_over : List ℕ → Bool → State → Run
run_over s over st = run_from (suc (length s)) s over st

-- a whole feed, from a fresh ledger and totals of zero
abbrev pub zeros : Totals
zeros = record { accepted = 0; refused = 0; posted = 0; unposted = 0 }

abbrev pub wear_of : List ℕ → State
wear_of s = (run_over s true (state [] zeros)).state

-- what the function that runs answers; the rows are in the ledger
abbrev pub done_of : Run → Done
done_of r = record { totals = r.state.totals; at = r.at; ending = r.ending }

-- A feed that comes in pieces: what a piece leaves waits for the next one, and the input is over behind the last. A run that has stopped
-- looks at no more.
abbrev pub onward : Ending → State → State → State
onward ending.More st on = on
onward ending.Stopped st on = st
onward ending.Ended st on = st

unfoldable pub in_pieces : List ℕ → List (List ℕ) → State → State
in_pieces rest [] st = (run_over rest true st).state
in_pieces rest (p ∷ ps) st =
    let r = run_over (rest ++ p) false st in
    let on = in_pieces (drop r.at (rest ++ p)) ps r.state in
    onward r.ending r.state on

-- the pieces one after the other
abbrev pub joined : List (List ℕ) → List ℕ
joined [] = []
joined (p ∷ ps) = p ++ joined ps
