-- When a feed is refused at its door, in the words of document 01's table "Refusal numbers": the page's 16, then 12. A block that is refused is counted and
-- gives no number. The laws are in proofs/GivenFeeds.antt: a number is given when this holds, and only then.
use Rattle.std.specs.Prelude.{List, ◌≡◌, ℕ}
use Rattle.octets.specs.Refusals.{rules_broken}
use Rattle.pages.specs.Pages.{new, page_of}
use Rattle.doors.specs.Feeds.{is_over, feed_run}
use Rattle.demands.specs.Given.{OutputFault}
use Rattle.demands.specs.GivenPages.{Page, NoPage}

-- the page that is to go out: that of the rows after the run
abbrev pub fed_page : List ℕ → List ℕ → ℕ → List ℕ
fed_page page s more = page_of new (feed_run page s (is_over more)).state.rows

abbrev pub FeedFault : List ℕ → List ℕ → ℕ → List ℕ → ℕ → Type 0
FeedFault page s more l n = OutputFault (λ m. NoPage new page × (m ≡ rules_broken)) (Page new page) (fed_page page s more) l n
