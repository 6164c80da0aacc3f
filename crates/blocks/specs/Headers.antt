-- The header of a block, CAT and LEN (01 "Reading order"): under 3 octets; category; LEN below 4; LEN beyond the octets lent.
use Rattle.std.specs.Prelude.{List, ℕ, ltb, length, get_or}
use Rattle.octets.specs.Choice.{pick}
use Rattle.octets.specs.Numbers.{number}
use Rattle.octets.specs.Refusals.{too_short, unknown_category, len_too_small}
use Rattle.layouts.specs.Categories.{known}
use Rattle.blocks.specs.Head.{Head}
use Rattle.blocks.specs.Head as head

-- by what is made of a refusal's number, and of the category and LEN
module _ {A : Type 0} (no : ℕ → A) (yes : ℕ → ℕ → A) where
  abbrev pub header_by : List ℕ → A
  header_by s =
      let cat = get_or s 0 0 in
      let len = number 2 s 1 in
      pick (ltb (length s) 3) (no too_short)
      (pick (known cat)
      (pick (ltb len 4) (no len_too_small)
      (pick (ltb (length s) len) (no too_short) (yes cat len)))
      (no unknown_category))

unfoldable pub header_of : List ℕ → Head
header_of = header_by Head.Refused Head.Good

-- The answer's cases, with document 01's number and values

pub record HeadListed : Type 0 where
  pub refusal : ℕ
  pub category : ℕ
  pub len : ℕ

abbrev pub head_refused : ℕ → HeadListed
head_refused n = record { refusal = n; category = 0; len = 0 }

abbrev pub head_good : ℕ → ℕ → HeadListed
head_good cat len = record { refusal = 0; category = cat; len = len }

abbrev pub listed_head : Head → HeadListed
listed_head (head.Refused n) = head_refused n
listed_head (head.Good cat len) = head_good cat len

unfoldable pub head_listed : List ℕ → HeadListed
head_listed = header_by head_refused head_good
