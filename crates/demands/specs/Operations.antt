-- What the contracts of the public operations say of an answer and of what was lent, word for word: see proofs/Ties.antt.
use Rattle.std.specs.Prelude.{Bool, ◌||◌, ◌≡◌, List, [], ℕ, ◌+◌, length}
use Rattle.blocks.specs.Walks.{read_of, listed_reading, read_listed}
use Rattle.blocks.specs.Steps.{step_of, listed_step, step_listed, entry_of, listed_entry, entry_listed}
use Rattle.blocks.specs.declared.record.Record.{Record}
use Rattle.blocks.specs.Reading.{Reading}
use Rattle.blocks.specs.declared.cursor.Cursor.{Cursor}
use Rattle.blocks.specs.Step.{Step}
use Rattle.blocks.specs.Found.{Found}
use Rattle.octets.specs.Outcomes.{Outcome, within, answer_of, output_of, listed_written, outcome_listed}
use Rattle.ledger.specs.Ledgers.{answer, cells_of, rules_refusal}
use Rattle.pages.specs.Pages.{new, load_of, store_of, turn_of}
use Rattle.pages.specs.declared.forms.Table.{Table}
use Rattle.ledger.specs.Posts.{post_of}
use Rattle.ledger.specs.Answer.{Answer}
use Rattle.ledger.specs.declared.Ledger.{Ledger}
use Rattle.writing.specs.Written.{write_of, rewrite_of}
use Rattle.octets.specs.Written.{Written}
use Rattle.feed.specs.Blocks.{next_of, listed_next, next_listed}
use Rattle.feed.specs.declared.block.Next.{Next}
use Rattle.doors.specs.Cell.{cell_count, feed_cell_count}
use Rattle.doors.specs.Answers.{version, is_few, refusal_or, cells_or, read_cells, step_cells, entry_cells, put_refusal, put_output, put_length, cells_written, page_posted}
use Rattle.doors.specs.Feeds.{is_over, feed_run, page_fed, feed_cells}

-- blocks::walk::read: the octets, the answer
abbrev pub Reads : List ℕ → Reading → Type 0
Reads s r = (r ≡ read_of s) × (listed_reading r ≡ read_listed s)

-- blocks::cursor::Cursor::first: the cursor
abbrev pub First : Cursor → Type 0
First r = r.at ≡ 3

-- blocks::cursor::Cursor::step: the octets, the start, the answer
abbrev pub Steps : List ℕ → ℕ → Step → Type 0
Steps s start r = (r ≡ step_of s start) × (listed_step r ≡ step_listed s start)

-- blocks::cursor::entry: the octets, the record's start, the entry's number, the answer
abbrev pub Entries : List ℕ → ℕ → ℕ → Found → Type 0
Entries s start k r = (r ≡ entry_of s start k) × (listed_entry r ≡ entry_listed s start k)

-- the output before and after, and the answer
abbrev Puts : Outcome → List ℕ → List ℕ → Written → Type 0
Puts x l out r =
    (out ≡ output_of l (within (length l) x)) × (r ≡ answer_of (within (length l) x)) × (listed_written r ≡ outcome_listed (within (length l) x))

-- writing::block::write: the source, the record, the output before and after, the answer
abbrev pub Writes : List ℕ → Record → List ℕ → List ℕ → Written → Type 0
Writes s t l out r = Puts (write_of s t) l out r

-- writing::block::rewrite: the octets, the output before and after, the answer
abbrev pub Rewrites : List ℕ → List ℕ → List ℕ → Written → Type 0
Rewrites s l out r = Puts (rewrite_of s) l out r

-- ledger::fresh: the ledger
abbrev pub Fresh : Ledger → Type 0
Fresh r = r.cells ≡ cells_of []

-- ledger::rules::check: the ledger, the refusal
abbrev pub Checks : Ledger → ℕ → Type 0
Checks l r = r ≡ rules_refusal l.cells

-- ledger::post::post: the ledger, the octets, the record number, the answer with the ledger
abbrev pub Posts : Ledger → List ℕ → ℕ → Answer → Type 0
Posts l s k r = r ≡ post_of l.cells s k

-- ledger::lent::post_lent: the ledger behind the reference, the octets, the record number, the ledger behind it afterwards, the refusal
abbrev pub LentPosts : Ledger → List ℕ → ℕ → Ledger → ℕ → Type 0
LentPosts l s k after r = answer r after.cells ≡ post_of l.cells s k

-- pages::load: the page, the answer with the ledger
abbrev pub Loads : List ℕ → Answer → Type 0
Loads s r = r ≡ load_of new s

-- pages::store: the ledger, the output before and after, the answer
abbrev pub Stores : Ledger → List ℕ → List ℕ → Written → Type 0
Stores l o out r = Puts (store_of new l.cells) o out r

-- pages::to_new and pages::to_old: the tables of the page and of the one that it is turned into, the page, the output before and after, the answer
abbrev pub Turns : List Table → List Table → List ℕ → List ℕ → List ℕ → Written → Type 0
Turns from to s o out r = Puts (turn_of from to s) o out r

-- feed::block::next_block: the octets at hand, whether the input is over, the answer
abbrev pub Begins : List ℕ → Bool → Next → Type 0
Begins s over r = (r ≡ next_of s over) × (listed_next r ≡ next_listed s over)

-- doors::wear_version: the version
abbrev pub WearVersions : ℕ → Type 0
WearVersions r = r ≡ version

-- the doors: whether too few cells are lent, the refusal and the values otherwise, the cells before and after, the refusal answered
abbrev Lays : Bool → ℕ → List ℕ → List ℕ → List ℕ → ℕ → Type 0
Lays few n values cells after r = (r ≡ refusal_or few n) × (after ≡ cells_or few cells values)

-- doors::wear_read: the octets, the cells before and after, the refusal
abbrev pub WearReads : List ℕ → List ℕ → List ℕ → ℕ → Type 0
WearReads s cells after r = Lays (is_few 3 cells) (read_listed s).refusal (read_cells (read_listed s)) cells after r

-- doors::wear_step: the octets, the start, the cells before and after, the refusal
abbrev pub WearSteps : List ℕ → ℕ → List ℕ → List ℕ → ℕ → Type 0
WearSteps s start cells after r =
    Lays (is_few (2 + cell_count) cells) (step_listed s start).refusal (step_cells (step_listed s start)) cells after r

-- doors::wear_entry: the octets, the record's start, the number of the entry, the cells before and after, the refusal
abbrev pub WearEntries : List ℕ → ℕ → ℕ → List ℕ → List ℕ → ℕ → Type 0
WearEntries s start k cells after r = Lays (is_few 4 cells) (entry_listed s start k).refusal (entry_cells (entry_listed s start k)) cells after r

-- the doors that put out: whether too few cells are lent, what is put out otherwise, the output and the length's cell before, the two after, the refusal
abbrev pub PutsOut : Bool → Outcome → List ℕ → List ℕ → List ℕ → List ℕ → ℕ → Type 0
PutsOut few x l size out after r =
    (r ≡ put_refusal few (within (length l) x)) × (out ≡ put_output few l (within (length l) x)) × (after ≡ put_length few size (within (length l) x))

-- doors::wear_write: the record's cells, the source, the output and the length's cell before, the two after, the refusal
abbrev pub WearWrites : List ℕ → List ℕ → List ℕ → List ℕ → List ℕ → List ℕ → ℕ → Type 0
WearWrites cells s l size out after r = PutsOut (is_few cell_count cells || is_few 1 size) (cells_written cells s) l size out after r

-- doors::wear_rewrite: the octets, the output and the length's cell before, the two after, the refusal
abbrev pub WearRewrites : List ℕ → List ℕ → List ℕ → List ℕ → List ℕ → ℕ → Type 0
WearRewrites s l size out after r = PutsOut (is_few 1 size) (rewrite_of s) l size out after r

-- doors::wear_page_to_new and doors::wear_page_to_old: the tables of the page and of the one that it is turned into, the page, the output and the
-- length's cell before, the two after, the refusal
abbrev pub WearTurns : List Table → List Table → List ℕ → List ℕ → List ℕ → List ℕ → List ℕ → ℕ → Type 0
WearTurns from to page l size out after r = PutsOut (is_few 1 size) (turn_of from to page) l size out after r

-- doors::wear_post: the page, the octets, the record number, the output and the length's cell before, the two after, the refusal
abbrev pub WearPosts : List ℕ → List ℕ → ℕ → List ℕ → List ℕ → List ℕ → List ℕ → ℕ → Type 0
WearPosts page s k l size out after r = PutsOut (is_few 1 size) (page_posted page s k) l size out after r

-- doors::wear_feed: the page, the octets, whether more may come, the output and the cells before, the two after, the refusal
abbrev pub WearFeeds : List ℕ → List ℕ → ℕ → List ℕ → List ℕ → List ℕ → List ℕ → ℕ → Type 0
WearFeeds page s more l cells out after r =
    let few = is_few feed_cell_count cells in
    let x = within (length l) (page_fed page s (is_over more)) in
    (r ≡ put_refusal few x) × (out ≡ put_output few l x) × (after ≡ cells_or few cells (feed_cells x (feed_run page s (is_over more))))
