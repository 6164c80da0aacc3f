-- Reading, steps and entries as document 01 lists them, number and values: the definitions list the answers themselves. Assumes nothing.
use mathlib.Core.Path.{◌≡◌, refl}
use mathlib.Core.Bool.{Bool, true, false, ◌||◌}
use mathlib.Core.List.{List}
use Prim.Native.Nat.{ℕ}
use lib.Dec.{leb, ltb, eqb}
use Rattle.octets.specs.Choice.{pick}
use Rattle.octets.specs.Numbers.{number}
use Rattle.octets.specs.Refusals.{no_such}
use Rattle.layouts.specs.Formats.{Parsed, refused, got}
use Rattle.layouts.specs.Categories.{Category, category}
use Rattle.items.specs.Typed.{counter_of, version_of}
use Rattle.blocks.specs.Headers.{header_of}
use Rattle.blocks.specs.Records.{Rec}
use Rattle.blocks.specs.Blocks.{Block, wrong, all, block_of}
use Rattle.blocks.specs.Offsets.{record_at}
use Rattle.blocks.specs.Walks.{answer_of, read_of, listed_reading, block_listed, read_listed}
use Rattle.blocks.specs.Steps.{taken_by, take_by, step_from, step_by, entry_from, entry_by, entry_group_of, entry_values, step_of, listed_step, step_listed, found_of, entry_of, entry_refused, counter_found, version_found, entry_found, listed_entry, entry_listed}
use Rattle.blocks.specs.Head.{Head}
use Rattle.blocks.specs.Head as head
use Rattle.blocks.specs.declared.record.Record.{Record}
use Rattle.blocks.specs.Found.{Found}

-- Reading answers of the block's records.
pub read-block : (s : List ℕ) → read_of s ≡ answer_of (number 2 s 1) (block_of s)
unfolding read_of
read-block s = refl

-- the answer's cases are the block's
listed-block : (len : ℕ) (b : Block) → listed_reading (answer_of len b) ≡ block_listed len b
listed-block len (wrong n at) = refl
listed-block len (all cat rs) = refl

pub read-listed : (s : List ℕ) → listed_reading (read_of s) ≡ read_listed s
unfolding read_listed
read-listed s = rw (read-block s) (listed-block (number 2 s 1) (block_of s))

-- what is made of a step's answer is made of its refusal or of its typed record
module _ {A B : Type 0} (f : A → B) {no : ℕ → ℕ → A} {yes : Record → ℕ → A} {no' : ℕ → ℕ → B} {yes' : Record → ℕ → B}
    (of-no : (n at : ℕ) → f (no n at) ≡ no' n at) (of-yes : (t : Record) (q : ℕ) → f (yes t q) ≡ yes' t q) where
  taken_made : (s : List ℕ) (len : ℕ) (c : Category) (at : ℕ) (m : Parsed ℕ Rec) → f (taken_by no yes s len c at m) ≡ taken_by no' yes' s len c at m
  taken_made s len c at (refused n) = of-no n at
  taken_made s len c at (got r q) = of-yes _ q

  take-made : (s : List ℕ) (len cat at : ℕ) → f (take_by no yes s len cat at) ≡ take_by no' yes' s len cat at
  unfolding take_by
  take-made s len cat at = taken_made s len (category cat) at (record_at s len (category cat) at)

  from-made : (s : List ℕ) (start : ℕ) (h : Head) → f (step_from no yes s start h) ≡ step_from no' yes' s start h
  from-made s start (head.Refused n) = of-no n 0
  from-made s start (head.Good cat len) = go (ltb start 3 || leb len start)
    where
      go : (b : Bool)
          → f (pick b (no no_such 0) (take_by no yes s len cat start))
          ≡ pick b (no' no_such 0) (take_by no' yes' s len cat start)
      go true = of-no no_such 0
      go false = take-made s len cat start

  pub step-made : (s : List ℕ) (start : ℕ) → f (step_by no yes s start) ≡ step_by no' yes' s start
  unfolding step_by
  step-made s start = from-made s start (header_of s)

pub step-listed : (s : List ℕ) (start : ℕ) → listed_step (step_of s start) ≡ step_listed s start
unfolding step_of step_listed
step-listed = step-made listed_step (λ n at. refl) (λ t q. refl)

-- of an entry its values, by either category
found-listed : (cat : ℕ) (v : List ℕ) → listed_entry (found_of cat v) ≡ entry_found cat v
found-listed cat v = go (eqb cat 242)
  where
    go : (b : Bool)
        → listed_entry (pick b (Found.Version (version_of v)) (Found.Counter (counter_of v)))
        ≡ pick b (version_found (version_of v)) (counter_found (counter_of v))
    go true = refl
    go false = refl

from-listed : (s : List ℕ) (cat at count k : ℕ)
    → listed_entry (entry_from Found.Refused found_of s cat at count k) ≡ entry_from entry_refused entry_found s cat at count k
from-listed s cat at count k = go (leb count k)
  where
    v : List ℕ
    v = entry_values s (entry_group_of cat) at k

    go : (b : Bool) → listed_entry (pick b (Found.Refused no_such 0) (found_of cat v)) ≡ pick b (entry_refused no_such 0) (entry_found cat v)
    go true = refl
    go false = found-listed cat v

pub entry_listed_lem : (s : List ℕ) (start k : ℕ) → listed_entry (entry_of s start k) ≡ entry_listed s start k
unfolding entry_of entry_listed entry_by
entry_listed_lem s start k =
    step-made listed_entry (λ n at. refl) (λ t q. from-listed s t.category t.entries.at t.entries.count k) s start
