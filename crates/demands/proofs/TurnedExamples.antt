-- Document 01's page, an old one, turned into a new one and back, and the bound of a page's times, computed; a wrong one is refused. Assumes nothing.
use mathlib.Core.List.{[], ◌∷◌}
use mathlib.Core.Path.{◌≡◌, refl}
use Rattle.octets.specs.Numbers.{number, octets}
use Rattle.octets.specs.Outcomes.{no, puts}
use Rattle.rows.specs.Order.{upto}
use Rattle.ledger.specs.Ledgers.{table, cells_of, keeps_rules, all_below}
use Rattle.pages.specs.Pages.{old, new, row_long, starts, twos, tables, row_from, stand, turn_of}
use Rattle.pages.proofs.Examples.{p8, p8-new, unknown, ten}

p8-turned : turn_of old new p8 ≡ puts (p8-new unknown)
unfolding turn_of table tables starts twos octets row_from number upto stand row_long cells_of keeps_rules all_below
p8-turned = refl

-- back, and from a page with a time
back : turn_of new old (p8-new unknown) ≡ puts p8
unfolding turn_of table tables starts twos octets row_from number upto stand row_long cells_of keeps_rules all_below
back = refl

times_left_out : turn_of new old (p8-new ten) ≡ puts p8
unfolding turn_of table tables starts twos octets row_from number upto stand row_long cells_of keeps_rules all_below
times_left_out = refl

-- 11,059,327 is a time, and 11,059,328 is none, nor is the number before all ones
latest : turn_of new old (p8-new (0x00 ∷ 0xA8 ∷ 0xC0 ∷ 0x7F ∷ [])) ≡ puts p8
unfolding turn_of table tables starts twos octets row_from number upto stand row_long cells_of keeps_rules all_below
latest = refl

too_late : turn_of new old (p8-new (0x00 ∷ 0xA8 ∷ 0xC0 ∷ 0x80 ∷ [])) ≡ no 16
unfolding turn_of table tables starts twos octets row_from number upto stand row_long cells_of keeps_rules all_below
too_late = refl

no-mark : turn_of new old (p8-new (0xFF ∷ 0xFF ∷ 0xFF ∷ 0xFE ∷ [])) ≡ no 16
unfolding turn_of table tables starts twos octets row_from number upto stand row_long cells_of keeps_rules all_below
no-mark = refl
