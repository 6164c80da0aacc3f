-- Every post has its verdict (specs/Verdicts.antt), and each verdict its number. Assumes nothing.
use mathlib.Core.Bool.{Bool, true, false}
use mathlib.Core.List.{List}
use mathlib.Core.Path.{◌≡◌, refl, ap, sym, ◌∙◌}
use Prim.Native.Nat.{ℕ, ◌≤◌}
use borrow.Author.Tests.{ltb-true, ltb-false, lt-ltb, le-ltb}
use lib.Dec.{ltb}
use lib.ListN.{get_or}
use Rattle.octets.specs.Numbers.{Octets}
use Rattle.octets.specs.Choice.{pick}
use Rattle.octets.specs.Refusals.{not_statistics, no_room, life_passes, rules_broken, no_such}
use Rattle.octets.proofs.Cases.{test}
use Rattle.blocks.specs.Typed.{absent}
use Rattle.blocks.specs.Walks.{read_of}
use Rattle.blocks.specs.declared.record.Record.{Record}
use Rattle.blocks.specs.Reading.{Reading}
use Rattle.blocks.specs.Reading as reading
use Rattle.rows.specs.Rows.{Row, Entry, add_up}
use Rattle.rows.specs.Posting.{Report, rows_for, passes, post_rows, refused, counts}
use Rattle.ledger.specs.Ledgers.{answer, rows_of, keeps_rules}
use Rattle.ledger.specs.Posts.{post_of}
use Rattle.blocks.specs.Statistics.{is_statistics}
use Rattle.ledger.specs.Reports.{entries_of, report_in, report_at, report_by, report_of}
use Rattle.ledger.specs.Answer.{Answer}
use Rattle.ledger.specs.declared.Ledger.{Ledger}
use Rattle.ledger.proofs.RecordNumbers.{record_past, record_taken}
use Rattle.demands.specs.Operations.{Posts}
use Rattle.demands.specs.Verdicts.{Chosen, Verdict, broken, unread, missing, other, full, past, added}

-- the refusal of a report that has entries
counts-refusal : (rows : List Row) (es : List Entry) (a b : Bool) → ltb 256 (rows_for rows es) ≡ a → passes add_up rows es ≡ b
    → (post_rows add_up rows (counts es)).refusal ≡ pick a no_room (pick b life_passes 0)
unfolding post_rows
counts-refusal rows es true b p q = rw p
counts-refusal rows es false true p q = rw (p, q)
counts-refusal rows es false false p q = rw (p, q)

module _ (l : Ledger) (s : List ℕ) (k n : ℕ) (o : Octets s) where
  abbrev on : Report → ℕ
  on x = (post_rows add_up (rows_of l.cells) x).refusal

  on-refused : (m : ℕ) → on (refused m) ≡ m
  unfolding post_rows
  on-refused m = refl

  -- The refusal in each case

  broken-refusal : keeps_rules l.cells ≡ false → (post_of l.cells s k).refusal ≡ rules_broken
  unfolding post_of
  broken-refusal f = rw f

  by-reading : keeps_rules l.cells ≡ true → (r : Reading) → read_of s ≡ r → (post_of l.cells s k).refusal ≡ on (report_by s k r)
  unfolding post_of report_of
  by-reading y r e = rw (y, e)

  unread-refusal : keeps_rules l.cells ≡ true → (m at : ℕ) → read_of s ≡ Reading.Refused m at → (post_of l.cells s k).refusal ≡ m
  unread-refusal y m at e = by-reading y _ e ∙ on-refused m

  missing-refusal : keeps_rules l.cells ≡ true → (len count : ℕ) → read_of s ≡ Reading.Accepted len count → count ≤ k
      → (post_of l.cells s k).refusal ≡ no_such
  missing-refusal y len count e h = by-reading y _ e ∙ ap (λ x. on (report_at s x)) (record_past s len count o e k h) ∙ on-refused no_such

  -- a record that was chosen: 13, 14, 15, 0
  module _ (t : Record) (c : Chosen l s k t) where
    chosen_refusal : (b : Bool) → is_statistics t ≡ b → (post_of l.cells s k).refusal ≡ on (pick b (counts (entries_of s t)) (refused not_statistics))
    unfolding report_in
    chosen_refusal b e = by-reading c.keeps _ c.reading ∙ ap (λ x. on (report_at s x)) c.taken ∙ rw e

    other-refusal : is_statistics t ≡ false → (post_of l.cells s k).refusal ≡ not_statistics
    other-refusal f = chosen_refusal false f ∙ on-refused not_statistics

    module _ (y : is_statistics t ≡ true) (a b : Bool) (p : ltb 256 (rows_for (rows_of l.cells) (entries_of s t)) ≡ a)
        (q : passes add_up (rows_of l.cells) (entries_of s t) ≡ b) where
      counted-refusal : (post_of l.cells s k).refusal ≡ pick a no_room (pick b life_passes 0)
      counted-refusal = chosen_refusal true y ∙ counts-refusal (rows_of l.cells) (entries_of s t) a b p q

  -- Each verdict has its number.
  pub refusal_of : Verdict l s k n → (post_of l.cells s k).refusal ≡ n
  refusal_of (broken f e) = broken-refusal f ∙ sym e
  refusal_of (unread y at r) = unread-refusal y n at r
  refusal_of (missing y len count r h e) = missing-refusal y len count r h ∙ sym e
  refusal_of (other t c f e) = other-refusal t c f ∙ sym e
  refusal_of (full t c y h e) = counted-refusal t c y true _ (lt-ltb _ _ h) refl ∙ sym e
  refusal_of (past t c y h p e) = counted-refusal t c y false true (le-ltb _ _ h) p ∙ sym e
  refusal_of (added t c y h p e) = counted-refusal t c y false false (le-ltb _ _ h) p ∙ sym e

  -- Each post has its verdict.
  module _ (is : n ≡ (post_of l.cells s k).refusal) where
    statistics : (t : Record) → Chosen l s k t → is_statistics t ≡ true → Verdict l s k n
    statistics t c y =
        test (ltb 256 (rows_for (rows_of l.cells) (entries_of s t))) (λ a. full t c y (ltb-true _ _ a) (is ∙ counted-refusal t c y true _ a refl)) λ b.
        test (passes add_up (rows_of l.cells) (entries_of s t)) (λ a. past t c y (ltb-false _ _ b) a (is ∙ counted-refusal t c y false true b a))
        (λ a. added t c y (ltb-false _ _ b) a (is ∙ counted-refusal t c y false false b a))

    accepted : keeps_rules l.cells ≡ true → (len count : ℕ) → read_of s ≡ Reading.Accepted len count → Verdict l s k n
    accepted y len count e =
        test (ltb k count)
        (λ a.
        let w = record_taken s len count o e k (ltb-true k count a) in
        let t = get_or w.0 k absent in
        let c : Chosen l s k t = record { keeps = y; len = len; count = count; reading = e; within = ltb-true k count a; next = w.3.0; taken = w.3.1 } in
        test (is_statistics t) (statistics t c) (λ f. other t c f (is ∙ other-refusal t c f)))
        (λ b. missing y len count e (ltb-false k count b) (is ∙ missing-refusal y len count e (ltb-false k count b)))

    kept : keeps_rules l.cells ≡ true → (r : Reading) → read_of s ≡ r → Verdict l s k n
    kept y (reading.Refused m at) e = unread y at (e ∙ ap (λ i. Reading.Refused i at) (sym (is ∙ unread-refusal y m at e)))
    kept y (reading.Accepted len count) e = accepted y len count e

  pub verdict : (m : Ledger) → Posts l s k (answer n m.cells) → Verdict l s k n
  verdict m h =
      let is : n ≡ (post_of l.cells s k).refusal = ap (λ (a : Answer). a.refusal) h in
      test (keeps_rules l.cells) (λ y. kept is y (read_of s) refl) (λ f. broken f (is ∙ broken-refusal f))
