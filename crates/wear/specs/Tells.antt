-- What is told on standard error: refused blocks that were skipped, and where a run stopped.
use Rattle.std.specs.Prelude.{Bool, true, Option, Some, None, List, [], ◌++◌, ◌≡◌, ℕ, eqb, get_or, drop}
use Rattle.octets.specs.Choice.{pick}
use Rattle.octets.specs.Refusals.{number_of}
use Rattle.blocks.specs.declared.fault.Fault.{Fault}
use Rattle.blocks.specs.Walks.{read_listed}
use Rattle.feed.specs.Blocks.{len_of}
use Rattle.feed.specs.Runs.{state, run_over, zeros}
use Rattle.feed.specs.Totals.{up}
use Rattle.text.specs.Digits.{decimal}
use Rattle.text.specs.Quotes.{quoted}
use Rattle.text.specs.Sentences.{sentence}
use Rattle.wear.specs.Turns.{AllCame}
use Rattle.wear.specs.declared.input.Turn.{Turn}

-- of what refuses a block: the refusal's number, and the place of the fault; 0 and 0 where nothing does
abbrev pub number_in : Option Fault → ℕ
number_in (Some fault) = number_of fault.refusal
number_in None = 0

abbrev pub place_in : Option Fault → ℕ
place_in (Some fault) = fault.at
place_in None = 0

-- a refusal: its number, and what it says
abbrev pub refused_words : ℕ → List ℕ
refused_words n = quoted "refused " ++ decimal n ++ quoted ", " ++ sentence n

-- the record that was refused, by its offset in the feed, or the header
abbrev pub fault_words : ℕ → ℕ → List ℕ
fault_words offset at = pick (eqb at 0) (quoted "; its header\n") (quoted "; its record at octet " ++ decimal (up offset at) ++ quoted "\n")

-- A refused block that was skipped: its offset in the feed, category, LEN, the refusal, and where the fault is.
abbrev pub skipped_words : ℕ → ℕ → ℕ → ℕ → ℕ → List ℕ
skipped_words offset cat len refusal at =
    quoted "wear: skipped at octet " ++ decimal offset ++ quoted ": category " ++ decimal cat ++ quoted ", LEN " ++ decimal len ++ quoted ": "
    ++ refused_words refusal
    ++ fault_words offset at

unfoldable pub skipped_line : ℕ → List ℕ → List ℕ
skipped_line offset s = skipped_words offset (get_or s 0 0) (len_of s) (read_listed s).refusal (read_listed s).offset

-- A run that stopped: where, and why, by what stands there
abbrev pub stop_words : ℕ → ℕ → List ℕ
stop_words offset refusal = quoted "wear: stopped at octet " ++ decimal offset ++ quoted ": " ++ refused_words refusal

unfoldable pub stopped_words : ℕ → List ℕ → List ℕ
stopped_words offset s = stop_words offset (read_listed s).refusal

-- of a feed of which all has come: at the octets from there on
pub record StopTold (turn : Turn) (words : List ℕ) : Type 0 where
  pub feed : List ℕ
  pub all : AllCame feed turn
  pub is : words ≡ stopped_words (up 0 (run_over feed true (state [] zeros)).at) (drop (run_over feed true (state [] zeros)).at feed)

-- and, once the input has ended, how many octets were not read; where a read failed before that end, there may be more
abbrev pub unread_first : Bool → List ℕ
unread_first failed = pick failed (quoted "; at least ") (quoted "; ")

unfoldable pub unread_words : ℕ → Bool → List ℕ
unread_words n failed = unread_first failed ++ decimal n ++ quoted " octets from there on were not read\n"

-- room for any of these: a number has 20 digits at most
abbrev pub longest_line : ℕ
longest_line = 256
