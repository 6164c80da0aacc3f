-- Reports posted to rows (01 "Ledger"), by any rule that makes a row and an entry with its time into a row.
use Rattle.std.specs.Prelude.{Bool, false, ◌||◌, List, [], ◌∷◌, ◌++◌, ℕ, ◌+◌, ◌≤◌, ◌<◌, ◌^◌, leb, ltb, eqb, length}
use Rattle.std.proofs.Math.Option.{Option, some}
use Rattle.octets.specs.Choice.{pick}
use Rattle.octets.specs.Refusals.{no_room, life_passes}
use Rattle.rows.specs.Rows.{Row, Entry, new_row, row_of, has, life_of, or_new}

-- a report is refused for its octets alone, whatever the ledger, or it has entries
pub data Report : Type 0 where
  refused : ℕ → Report
  counts : List Entry → Report

abbrev pub entries : Report → List Entry
entries (refused n) = []
entries (counts es) = es

abbrev pub all_entries : List Report → List Entry
all_entries [] = []
all_entries (r ∷ rs) = entries r ++ all_entries rs

-- whether entries name a key; the keys that they name and that have no row, each once
unfoldable pub names : ℕ → List Entry → Bool
names k [] = false
names k (e ∷ es) = eqb e.key k || names k es

unfoldable pub new_keys : List Row → List Entry → List ℕ
new_keys rows [] = []
new_keys rows (e ∷ es) = pick (has (row_of rows e.key) || names e.key es) (new_keys rows es) (e.key ∷ new_keys rows es)

-- room is judged by distinct new keys: the number of rows that there would be
abbrev pub rows_for : List Row → List Entry → ℕ
rows_for rows es = length rows + length (new_keys rows es)

-- what a post answers, and the rows that it leaves
pub record Posted : Type 0 where
  pub refusal : ℕ
  pub rows : List Row

abbrev pub posted : ℕ → List Row → Posted
posted n rows = record { refusal = n; rows = rows }

module _ (rule : Row → Entry → Row) where
  -- the rows with an entry added up, where its key has its place among them; and with entries in turn
  unfoldable pub add_entry : List Row → Entry → List Row
  add_entry [] e = rule (new_row e.key) e ∷ []
  add_entry (r ∷ rows) e =
      pick (ltb r.key e.key) (r ∷ add_entry rows e)
      (pick (eqb r.key e.key) (rule r e ∷ rows) (rule (new_row e.key) e ∷ r ∷ rows))

  unfoldable pub add_all : List Row → List Entry → List Row
  add_all rows [] = rows
  add_all rows (e ∷ es) = add_all (add_entry rows e) es

  -- whether a life count would pass 2^64 - 1, entry by entry
  unfoldable pub passes : List Row → List Entry → Bool
  passes rows [] = false
  passes rows (e ∷ es) = leb (2 ^ 64) (life_of (row_of (add_entry rows e) e.key)) || passes (add_entry rows e) es

  -- a post, all or nothing: 14, 15
  unfoldable pub post_rows : List Row → Report → Posted
  post_rows rows (refused n) = posted n rows
  post_rows rows (counts es) =
      pick (ltb 256 (rows_for rows es)) (posted no_room rows) (pick (passes rows es) (posted life_passes rows) (posted 0 (add_all rows es)))

  -- a run of reports: the answers in turn, and the rows at its end
  unfoldable pub answers : List Row → List Report → List ℕ
  answers rows [] = []
  answers rows (r ∷ rs) = (post_rows rows r).refusal ∷ answers (post_rows rows r).rows rs

  unfoldable pub after : List Row → List Report → List Row
  after rows [] = rows
  after rows (r ∷ rs) = after (post_rows rows r).rows rs

  -- the rule over entries of one counter alone, in their order, from its row or from a new one
  unfoldable pub tally : ℕ → Option Row → List Entry → Option Row
  tally k row [] = row
  tally k row (e ∷ es) = tally k (some (rule (or_new k row) e)) es

-- a counter's own entries, and the entries of the reports that were answered 0
unfoldable pub of_key : ℕ → List Entry → List Entry
of_key k [] = []
of_key k (e ∷ es) = pick (eqb e.key k) (e ∷ of_key k es) (of_key k es)

unfoldable pub accepted : List ℕ → List Report → List Entry
accepted [] rs = []
accepted (n ∷ ns) [] = []
accepted (n ∷ ns) (r ∷ rs) = pick (eqb n 0) (entries r) [] ++ accepted ns rs

-- The ledger's rules: rows rise strictly by key, there are 256 at most, and no reading exceeds the life count, which has 64 bits

abbrev pub Above : ℕ → List Row → Type 0
Above k [] = Unit {0}
Above k (r ∷ rows) = (k < r.key) × Above k rows

abbrev pub Sorted : List Row → Type 0
Sorted [] = Unit {0}
Sorted (r ∷ rows) = Above r.key rows × Sorted rows

abbrev pub Each : (Row → Type 0) → List Row → Type 0
Each P [] = Unit {0}
Each P (r ∷ rows) = P r × Each P rows

pub record Good (rows : List Row) : Type 0 where
  pub rises : Sorted rows
  pub few : length rows ≤ 256
  pub read : Each (λ r. r.reading ≤ r.life) rows
  pub lived : Each (λ r. r.life < 2 ^ 64) rows

-- room for every counter that a run names, whatever is refused
abbrev pub Room : List Row → List Report → Type 0
Room rows rs = rows_for rows (all_entries rs) ≤ 256
