-- What the reads give, what a turn of the program does, and what it has done when the input is over (01 "Worked examples", the program `wear`).
use Rattle.std.specs.Prelude.{Bool, true, false, List, [], ◌⊎◌, ◌≡◌, ℕ, ◌+◌, ◌-◌, ◌^◌, ◌≤◌, ◌<◌, eqb, Option, Some, None, IfSome, length, take, drop}
use Rattle.octets.specs.Choice.{pick}
use Rattle.octets.specs.Numbers.{Octets}
use Rattle.ledger.specs.Ledgers.{rows_of, cells_of}
use Rattle.feed.specs.Totals.{up}
use Rattle.feed.specs.Runs.{Run, state, run_over, wear_of, zeros}
use Rattle.feed.specs.declared.run.Ending.{Ending}
use Rattle.feed.specs.declared.run.Ending.TheVariants as ending
use Rattle.wear.specs.declared.input.Turn.{Turn}
use Rattle.wear.specs.declared.reads.Going.{Going}
use Rattle.wear.specs.declared.reads.Going.TheVariants as going
use Rattle.wear.specs.declared.reads.Reads.{Reads}

-- Nothing has been read; a read gave so many octets, none of them at the end of the input; a read failed.
abbrev pub unread : Reads
unread = record { octets = 0; input = Going.On }

abbrev pub heard : Reads → ℕ → Reads
heard before n = record { octets = up before.octets n; input = pick (eqb n 0) Going.Over Going.On }

abbrev pub unheard : Reads → Reads
unheard before = record { octets = before.octets; input = Going.Failed }

-- whether one did
abbrev pub is_failed : Going → Bool
is_failed going.On = false
is_failed going.Over = false
is_failed going.Stopped = false
is_failed going.Failed = true

abbrev pub has_failed : Reads → Bool
has_failed reads = is_failed reads.input

-- by what a read gave: so many octets, or none where it failed
abbrev pub told_of : Reads → Option ℕ → Reads
told_of before (Some n) = heard before n
told_of before None = unheard before

-- a read with so much room was made: what it gave, and what is told then
pub record Heard (room : ℕ) (before : Reads) (came : Option ℕ) (after : Reads) : Type 0 where
  pub moved : IfSome came (λ n. n ≤ room)
  pub told : after ≡ told_of before came

-- One read more: an account that goes on has an octet more, up to 2^64 - 1.
pub record OneMore (before after : Reads) : Type 0 where
  pub more : before.octets ≤ after.octets
  pub on : after.input ≡ Going.On → up before.octets 1 ≤ after.octets

-- Read after read, until the input is over or one fails; or more octets have come than can be counted.
pub record ReadOn (before after : Reads) : Type 0 where
  pub more : before.octets ≤ after.octets
  pub on : after.input ≡ Going.On → 2 ^ 64 - 1 ≤ after.octets

-- only a run that waits goes on
abbrev pub going_of : Ending → Going
going_of ending.More = Going.On
going_of ending.Ended = Going.Over
going_of ending.Stopped = Going.Stopped

-- A run over octets is done, behind so many used before: its rows are in the ledger, its totals in the turn, and what it left of them waits.
pub record Ran (s : List ℕ) (r : Run) (l : List ℕ) (before : ℕ) (told : Reads) (turn : Turn) : Type 0 where
  pub rows : l ≡ cells_of r.state.rows
  pub totals : turn.totals ≡ r.state.totals
  pub going : turn.going ≡ going_of r.ending
  pub used : turn.used ≡ up before r.at
  pub from : turn.from ≡ r.at
  pub to : turn.to ≡ length s
  pub reads : turn.reads ≡ told

-- how many octets wait, and which
abbrev pub held : Turn → ℕ
held turn = turn.to - turn.from

abbrev pub waiting : Turn → List ℕ → List ℕ
waiting turn buffer = drop turn.from (take turn.to buffer)

-- they stand in the buffer, and leave room
pub record Waiting (turn : Turn) (buffer : List ℕ) : Type 0 where
  pub order : turn.from ≤ turn.to
  pub within : turn.to ≤ length buffer
  pub room : held turn < length buffer

-- So many octets came. The buffer begins with those that waited, what came stands behind them, and a run over just these is done. Where none
-- came, the input is over.
pub record Came (before : Turn) (buffer₀ l₀ buffer l : List ℕ) (turn : Turn) : Type 0 where
  pub n : ℕ
  pub fits : held before + n ≤ length buffer
  pub octets : Octets buffer
  pub kept : take (held before) buffer ≡ waiting before buffer₀
  pub ran :
      Ran (take (held before + n) buffer)
      (run_over (take (held before + n) buffer) (eqb n 0) (state (rows_of l₀) before.totals))
      l before.used (heard before.reads n) turn

-- A turn: octets came, or the read failed.
abbrev pub Turned : Turn → List ℕ → List ℕ → List ℕ → List ℕ → Turn → Type 0
Turned before buffer₀ l₀ buffer l turn =
    ((turn.going ≡ Going.Failed) × (turn.reads ≡ unheard before.reads)) ⊎ Came before buffer₀ l₀ buffer l turn

-- A feed that has as many octets as the reads have given, and of which nothing is to come: the last read gave nothing, or the run has stopped.
-- Before the first read there is none (proofs/TurnLaws.antt `unread-none`).
pub record AllCame (feed : List ℕ) (turn : Turn) : Type 0 where
  pub octets : Octets feed
  pub many : turn.reads.octets ≡ up 0 (length feed)
  pub whole : (turn.reads.input ≡ Going.Over) ⊎ ((run_over feed false (state [] zeros)).ending ≡ Ending.Stopped)

-- The run over such a feed: the ledger and the totals, and whether it ended or stopped
pub record Worn (feed l : List ℕ) (turn : Turn) : Type 0 where
  pub all : AllCame feed turn
  pub rows : l ≡ cells_of (wear_of feed).rows
  pub totals : turn.totals ≡ (wear_of feed).totals
  pub going : turn.going ≡ going_of (run_over feed true (state [] zeros)).ending

-- how many octets it used, and what waits in the buffer of the others: those from there on
pub record Left (feed buffer : List ℕ) (turn : Turn) : Type 0 where
  pub all : AllCame feed turn
  pub used : turn.used ≡ up 0 (run_over feed true (state [] zeros)).at
  pub order : turn.from ≤ turn.to
  pub within : turn.to ≤ length buffer
  pub waits : waiting turn buffer ≡ drop (run_over feed true (state [] zeros)).at feed

-- Turn after turn: where the run has ended or stopped, it is that of a feed; otherwise a read failed, or more octets have come than can be counted.
pub record Turns (buffer l : List ℕ) (turn : Turn) : Type 0 where
  pub over : turn.going ≡ Going.Over → (feed : List ℕ) × Worn feed l turn
  pub stopped : turn.going ≡ Going.Stopped → (feed : List ℕ) × Worn feed l turn × Left feed buffer turn
  pub failed : turn.going ≡ Going.Failed → turn.reads.input ≡ Going.Failed
  pub on : turn.going ≡ Going.On → turn.reads.octets ≡ 2 ^ 64 - 1
