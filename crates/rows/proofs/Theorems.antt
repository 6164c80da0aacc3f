-- What is proved of posting, for every rule that keeps a row's key, and of the adding-up rule. Assumes nothing.
use mathlib.Core.List.{List, [], ◌∷◌}
use mathlib.Core.Option.{Option, none, some}
use mathlib.Core.Path.{◌≡◌, refl, ap, sym, ◌∙◌}
use Prim.Native.Nat.{ℕ, ◌+◌, ◌≤◌}
use native.Mathlib.Omega.{arith}
use lib.Dec.{leb}
use lib.ListN.{length}
use borrow.Author.Tests.{leb-true}
use Rattle.octets.proofs.Cases.{test}
use Rattle.rows.specs.Rows.{Row, Entry, new_row, since_last, midnight, adds, add_up, last_time, row_of, life_of, time_of}
use Rattle.rows.specs.Posting.{Report, entries, tally, of_key, Good}
use Rattle.rows.specs.Order.{Order, in_order, answers_in_order, upto}
use Rattle.rows.specs.Claims.{AnyOrder, RowRule, AllOrNothing, NeverFalls, StaysGood}
use Rattle.rows.proofs.Numbers.{times-upto, place-upto}
use Rattle.rows.proofs.Rows.{same_rows, row-all}
use Rattle.rows.proofs.Maps.{map-order}
use Rattle.rows.proofs.Posts.{posted_cases, post_cases, tally_grows, sorted_after, row-run, good-all}
use Rattle.rows.proofs.Link.{in_order_lem, in_own}

module _ (rule : Row → Entry → Row) (keeps-key : (r : Row) (e : Entry) → (rule r e).key ≡ r.key) where
  -- a run in any order that keeps the order of any two reports that share a counter: the same answers, the same rows
  pub any_order : AnyOrder rule
  any_order rows rs order s room o =
      let mine = in_order_lem rule keeps-key rows rs order s room in
      let own = in_own rule keeps-key rows rs s room in
      let alike = map-order rule (row_of rows) rs order o in
      record {
        answered = mine.0 ∙ alike.0 ∙ ap (answers_in_order order) (sym own.0);
        ended = same_rows _ _ (sorted_after rule keeps-key rows (in_order order rs) s) (sorted_after rule keeps-key rows rs s)
            (λ k. ap (λ m. m k) (mine.1 ∙ alike.1 ∙ sym own.1));
      }

  -- a counter's row at the end is the rule over its own accepted entries
  pub row_rule : RowRule rule
  row_rule = row-run rule keeps-key

  -- no report lowers a life count, if the rule lowers none
  pub never_falls : ((r : Row) (e : Entry) → r.life ≤ (rule r e).life) → NeverFalls rule
  never_falls grows rows x s k =
      post_cases rule (λ l. life_of (row_of rows k) ≤ life_of (row_of l k)) rows x (omega arith)
      (λ _ _. rw (row-all rule keeps-key rows (entries x) s k) (tally_grows rule grows k (row_of rows k) (of_key k (entries x))))

  -- a post keeps the ledger's rules, if the rule leaves no reading above the life count
  pub stays-good : ((r : Row) (e : Entry) → r.reading ≤ r.life → (rule r e).reading ≤ (rule r e).life) → StaysGood rule
  stays-good under rows x g = post_cases rule Good rows x g (good-all rule keeps-key under rows (entries x) g)

-- a report that is not answered 0 leaves the rows, whatever the rule
pub all_or_nothing : (rule : Row → Entry → Row) → AllOrNothing rule
all_or_nothing rule rows x =
    posted_cases rule (λ p. (p.refusal ≡ 0 → ⊥) → p.rows ≡ rows) rows x (λ _ _ _. refl) (λ _ _ h. absurd (h refl))

-- The adding-up rule is such a rule

-- it keeps the key
pub adding_key : (r : Row) (e : Entry) → (add_up r e).key ≡ r.key
unfolding add_up
adding_key r e = refl

-- it lowers no life count
pub adding_grows : (r : Row) (e : Entry) → r.life ≤ (add_up r e).life
unfolding add_up
adding_grows r e = omega arith

-- what it adds is an entry's count at most, and with the reading the count at least
pub adds-between : (r : Row) (e : Entry) → (adds r e ≤ e.count) × (e.count ≤ adds r e + r.reading)
adds-between r e =
    test (since_last e) (λ t. rw t (omega arith, omega arith))
    (λ f. rw f (test (midnight r e) (λ t. rw t (omega arith, omega arith))
    (λ n. rw n (test (leb r.reading e.count) (λ t. let h = leb-true r.reading e.count t in rw t (omega arith, omega arith))
    (λ g. rw g (omega arith, omega arith))))))

-- it leaves no reading above the life count
pub adding_under : (r : Row) (e : Entry) → r.reading ≤ r.life → (add_up r e).reading ≤ (add_up r e).life
unfolding add_up
adding_under r e h =
    test (since_last e) (λ t. rw t (omega arith))
    (λ f. let w = rw f at (adds-between r e).1 in rw f (omega arith))

-- it keeps the time of the last from-midnight entry
pub adding_time : (k : ℕ) (row : Option Row) (es : List Entry) → time_of (tally add_up k row es) ≡ last_time (time_of row) es
unfolding tally last_time add_up
adding_time k row [] = refl
adding_time k none (e ∷ es) = adding_time k (some (add_up (new_row k) e)) es
adding_time k (some r) (e ∷ es) = adding_time k (some (add_up r e)) es

-- every run has an order: its own
pub own-order : (rs : List Report) → Order rs (upto (length rs))
own-order rs = record {
  once = λ i. times-upto i (length rs);
  keeps = λ i j h l s. rw (place-upto i (length rs) (omega arith), place-upto j (length rs) l) h;
}
