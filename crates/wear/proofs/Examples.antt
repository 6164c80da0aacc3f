-- Document 01's sheet, computed; and what is told, in the words of README.md. Assumes nothing.
use mathlib.Core.Bool.{true, false}
use mathlib.Core.List.{[], ◌∷◌, flat_map}
use mathlib.Core.Path.{◌≡◌, refl}
use Rattle.octets.specs.Numbers.{octets}
use Rattle.rows.specs.Rows.{Row}
use Rattle.ledger.specs.Ledgers.{table}
use Rattle.feed.specs.Runs.{state, zeros}
use Rattle.feed.specs.declared.totals.Totals.{Totals}
use Rattle.text.specs.Digits.{hex_digit, decimal_within}
use Rattle.text.specs.Quotes.{quoted}
use Rattle.text.specs.Sentences.{sentence}
use Rattle.wear.specs.Sheets.{sheet_of}
use Rattle.wear.specs.Tells.{refused_words, fault_words, unread_words}

row : Row
row = record { key = 0x01021204; life = 185; reading = 30; time = 128 }

totals : Totals
totals = record { accepted = 4; refused = 0; posted = 4; unposted = 0 }

printed : sheet_of (state (row ∷ []) totals) ≡ quoted "counter life reading\n01021204 185 30\naccepted 4 refused 0 posted 4 unposted 0\n"
unfolding sheet_of table flat_map octets hex_digit decimal_within quoted row totals
printed = refl

fresh : sheet_of (state [] zeros) ≡ quoted "counter life reading\naccepted 0 refused 0 posted 0 unposted 0\n"
unfolding sheet_of table decimal_within quoted
fresh = refl

refused : refused_words 2 ≡ quoted "refused 2, a category other than 23, 65 and 242"
unfolding decimal_within quoted sentence
refused = refl

at_record : fault_words 80 3 ≡ quoted "; its record at octet 83\n"
unfolding decimal_within quoted
at_record = refl

at-header : fault_words 76 0 ≡ quoted "; its header\n"
at-header = refl

unread : unread_words 257 false ≡ quoted "; 257 octets from there on were not read\n"
unfolding unread_words decimal_within quoted
unread = refl

unread-failed : unread_words 257 true ≡ quoted "; at least 257 octets from there on were not read\n"
unfolding unread_words decimal_within quoted
unread-failed = refl
