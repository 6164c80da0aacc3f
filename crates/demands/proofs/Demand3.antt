-- Demand 3: reports over a ledger with room may be put in any order that keeps the order of any two that share a counter: same answers, same
-- ledger. Each row equals the adding-up rule on that counter's own entries through the accepted reports. No report lowers a life count.
-- What a run, a counter's name and another order are: specs/Runs.antt. Assumes nothing.
use mathlib.Core.Bool.{true, false, false≢true}
use mathlib.Core.List.{List, [], ◌∷◌, map}
use mathlib.Core.Path.{◌≡◌, refl, ap, sym, ◌∙◌, subst}
use Prim.Native.Nat.{ℕ, zero, suc, ◌≤◌, ◌<◌}
use native.Mathlib.Omega.{arith}
use borrow.Author.Tests.{ltb-true}
use lib.Dec.{ltb}
use lib.ListN.{length, get_or, length-map}
use Rattle.octets.specs.Choice.{pick}
use Rattle.octets.specs.Numbers.{Octets}
use Rattle.octets.proofs.Cases.{test}
use Rattle.blocks.specs.Reading.{Reading}
use Rattle.rows.specs.Rows.{row_of, life_of, time_of, last_time, add_up}
use Rattle.rows.specs.Posting.{refused, entries, names, answers, after, of_key, tally, accepted}
use Rattle.rows.specs.Order.{times, upto, answers_in_order}
use Rattle.rows.specs.Order as rows
use Rattle.rows.proofs.Numbers.{map_same, map-twice}
use Rattle.rows.proofs.Theorems.{adding_key, adding_time, any_order, row_rule, own-order as reports-order}
use Rattle.ledger.specs.Ledgers.{answer, rows_of, cells_of, keeps_rules, Held}
use Rattle.ledger.specs.Posts.{post_of}
use Rattle.ledger.specs.Steps.{Kept}
use Rattle.ledger.specs.Answer.{Answer}
use Rattle.ledger.specs.declared.Ledger.{Ledger}
use Rattle.ledger.proofs.CellLaws.{ledger_same}
use Rattle.ledger.proofs.RuleLaws.{kept-rules, rules-kept}
use Rattle.ledger.proofs.PostTheorems.{posted-is, posted-rows, posted-kept, posted_grows}
use Rattle.feed.specs.Blocks.{reports_of}
use Rattle.feed.proofs.BlockTheorems.{block_numbers}
use Rattle.demands.specs.Operations.{Reads, Posts}
use Rattle.demands.specs.Runs.{Sent, nothing, numbered, Run, report, Names, Room, Order, in_order}

-- A run of posts is a run of its reports over the ledger's rows

record Ran (l : Ledger) (xs : List Sent) (ns : List ℕ) (end : Ledger) : Type 0 where
  told : ns ≡ answers add_up (rows_of l.cells) (map report xs)
  left : rows_of end.cells ≡ after add_up (rows_of l.cells) (map report xs)
  kept : Kept end.cells

ran : (l end : Ledger) (xs : List Sent) (ns : List ℕ) → Kept l.cells → Run l xs ns end → Ran l xs ns end
unfolding answers after
ran l end [] [] k h = record { told = refl; left = ap (λ (m : Ledger). rows_of m.cells) h; kept = subst (λ (m : Ledger). Kept m.cells) (sym h) k }
ran l end [] (n ∷ ns) k h = absurd h
ran l end (x ∷ xs) [] k h = absurd h
ran l end (x ∷ xs) (n ∷ ns) k h =
    let is = h.1 in
    let m-kept : Kept h.0.cells
    = subst (λ (a : Answer). Kept a.ledger.cells) (sym is) (posted-kept x.octets x.k l.cells k x.are) in
    let rest = ran h.0 end xs ns m-kept h.2 in
    let rows : rows_of h.0.cells ≡ _ = ap (λ (a : Answer). rows_of a.ledger.cells) is ∙ posted-rows x.octets x.k l.cells k in
    let first : n ≡ _ = ap (λ (a : Answer). a.refusal) (is ∙ posted-is x.octets x.k l.cells k) in
    record {
      told = λ i. first i ∷ (rest.told ∙ ap (λ rs. answers add_up rs (map report xs)) rows) i;
      left = rest.left ∙ ap (λ rs. after add_up rs (map report xs)) rows;
      kept = rest.kept;
    }

-- Another order of a run is one of its reports

at_place : (xs : List Sent) (i : ℕ) → i < length xs → rows.report (map report xs) i ≡ report (get_or xs i nothing)
at_place [] i h = absurd (omega arith)
at_place (x ∷ xs) zero h = refl
at_place (x ∷ xs) (suc i) h = at_place xs i (omega arith)

module _ (xs : List Sent) (order : List ℕ) (o : Order xs order) where
  within : (i : ℕ) → 1 ≤ times i order → i < length xs
  within i h =
      test (ltb i (length xs)) (ltb-true i (length xs))
      (λ f. absurd (let z : 1 ≤ pick false 1 0 = rw (o.once i, length-map xs report, f) at h in omega arith))

  in_order_lem : map report (in_order order xs) ≡ rows.in_order order (map report xs)
  in_order_lem = map-twice report (λ i. get_or xs i nothing) order ∙ map_same _ _ order (λ i h. sym (at_place xs i (within i h)))

-- Two runs of the same reports, in two orders, over a ledger with room: each report gets the same answer, and the ledger ends the same.
pub same_end : (l : Ledger) → Held l.cells → keeps_rules l.cells ≡ true → (xs : List Sent) → Room l xs → (order : List ℕ) → Order xs order
    → (ns ms : List ℕ) (end end' : Ledger) → Run l xs ns end → Run l (in_order order xs) ms end' → (ms ≡ answers_in_order order ns) × (end' ≡ end)
same_end l held keeps xs room order o ns ms end end' h h' =
    let k = kept-rules l.cells held keeps in
    let a = ran l end xs ns k h in
    let b = ran l end' (in_order order xs) ms k h' in
    let same = any_order add_up adding_key (rows_of l.cells) (map report xs) order k.good.rises room o in (
      b.told ∙ ap (answers add_up (rows_of l.cells)) (in_order_lem xs order o) ∙ same.answered ∙ ap (answers_in_order order) (sym a.told),
      ledger_same (b.kept.rest ∙ ap cells_of (b.left ∙ ap (after add_up (rows_of l.cells)) (in_order_lem xs order o) ∙ same.ended ∙ sym a.left)
          ∙ sym a.kept.rest),
    )

-- The row rule: after a run each counter's row is the adding-up rule over that counter's own entries, in their order, of the reports that
-- were answered 0, from its row at the start.
pub row-at_end : (l : Ledger) → Held l.cells → keeps_rules l.cells ≡ true → (xs : List Sent) (ns : List ℕ) (end : Ledger) → Run l xs ns end
    → (c : ℕ) → row_of (rows_of end.cells) c ≡ tally add_up c (row_of (rows_of l.cells) c) (of_key c (accepted ns (map report xs)))
row-at_end l held keeps xs ns end h c =
    let k = kept-rules l.cells held keeps in
    let a = ran l end xs ns k h in
    ap (λ rs. row_of rs c) a.left ∙ row_rule add_up adding_key (rows_of l.cells) (map report xs) k.good.rises c
    ∙ ap (λ t. tally add_up c (row_of (rows_of l.cells) c) (of_key c (accepted t (map report xs)))) (sym a.told)

-- So its time is that of its last from-midnight entry in those reports; where there is none, what it was at the start, or unknown for a new row.
pub time-at_end : (l : Ledger) → Held l.cells → keeps_rules l.cells ≡ true → (xs : List Sent) (ns : List ℕ) (end : Ledger) → Run l xs ns end
    → (c : ℕ) → time_of (row_of (rows_of end.cells) c) ≡ last_time (time_of (row_of (rows_of l.cells) c)) (of_key c (accepted ns (map report xs)))
time-at_end l held keeps xs ns end h c =
    ap time_of (row-at_end l held keeps xs ns end h c) ∙ adding_time c (row_of (rows_of l.cells) c) (of_key c (accepted ns (map report xs)))

-- A run keeps the ledger's rules.
pub rules-at_end : (l : Ledger) → Held l.cells → keeps_rules l.cells ≡ true → (xs : List Sent) (ns : List ℕ) (end : Ledger) → Run l xs ns end
    → keeps_rules end.cells ≡ true
rules-at_end l held keeps xs ns end h = rules-kept end.cells (ran l end xs ns (kept-rules l.cells held keeps) h).kept

-- No report lowers a life count, whatever the ledger.
pub never_lowered : (l : Ledger) → Held l.cells → (s : List ℕ) (k n : ℕ) (m : Ledger) → Posts l s k (answer n m.cells)
    → (c : ℕ) → life_of (row_of (rows_of l.cells) c) ≤ life_of (row_of (rows_of m.cells) c)
never_lowered l held s k n m h c =
    subst (λ (a : Answer). life_of (row_of (rows_of l.cells) c) ≤ life_of (row_of (rows_of a.ledger.cells) c)) (sym h) (posted_grows s k l.cells held c)

-- Every list of reports has a run, over every ledger,
pub some-run : (l : Ledger) (xs : List Sent) → (ns : List ℕ) × (end : Ledger) × Run l xs ns end
some-run l [] = ([], l, refl)
some-run l (x ∷ xs) =
    let a = post_of l.cells x.octets x.k in
    let rest = some-run a.ledger xs in
    (a.refusal ∷ rest.0, rest.1, (a.ledger, refl, rest.2))

-- and every run an order, its own.
pub own-order : (xs : List Sent) → Order xs (upto (length xs))
own-order xs = subst (λ (n : ℕ). Order xs (upto n)) (length-map xs report) (reports-order (map report xs))

-- A report that is refused for its octets (1 to 11, 17, 13) names no counter.
pub names-none : (x : Sent) (n : ℕ) → report x ≡ refused n → (k : ℕ) → Names x k → ⊥
unfolding names
names-none x n e k h = false≢true (subst (λ r. names k (entries r) ≡ true) e h)

-- All records of an accepted block, posted along its steps (`feed`): the ledger and the answers are those of posting record 0, 1, 2 .. by number.
pub block-posted : (l : Ledger) → Held l.cells → keeps_rules l.cells ≡ true → (s : List ℕ) (len n : ℕ) (o : Octets s)
    → Reads s (Reading.Accepted len n) → (ns : List ℕ) (end : Ledger) → Run l (numbered s o n) ns end
    → (ns ≡ answers add_up (rows_of l.cells) (reports_of s)) × (end.cells ≡ cells_of (after add_up (rows_of l.cells) (reports_of s)))
block-posted l held keeps s len n o h ns end r =
    let a = ran l end (numbered s o n) ns (kept-rules l.cells held keeps) r in
    let same : map report (numbered s o n) ≡ reports_of s
    = map-twice report (λ k. record { octets = s; are = o; k = k }) (upto n) ∙ sym (block_numbers s len n o (sym h.0)) in
    (a.told ∙ ap (answers add_up (rows_of l.cells)) same, a.kept.rest ∙ ap cells_of (a.left ∙ ap (after add_up (rows_of l.cells)) same))
