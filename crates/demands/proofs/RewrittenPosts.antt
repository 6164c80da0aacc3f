-- Demand 2 at posts: octets with the same records, posted to a ledger by record number, get the same answer with the same ledger. So spare
-- bits change no post, nor do octets after LEN, a second specification octet of zero, or rewriting. Assumes nothing.
use mathlib.Core.Path.{◌≡◌, refl, sym, ap, ◌∙◌}
use mathlib.Core.Bool.{Bool, true, false, false≢true}
use mathlib.Core.List.{List, ◌∷◌, ◌++◌}
use Prim.Native.Nat.{ℕ, zero, suc, ◌+◌, ◌≤◌, ◌<◌}
use native.Mathlib.Omega.{arith}
use borrow.Author.Tests.{ltb-true, ltb-false, eqb-true}
use lib.Dec.{ltb, eqb}
use lib.ListN.{length, get_or}
use Rattle.octets.specs.Choice.{pick, odd}
use Rattle.octets.specs.Numbers.{Octets, number}
use Rattle.octets.specs.Refusals.{no_such}
use Rattle.octets.proofs.Cases.{test}
use Rattle.octets.specs.Written.{Written}
use Rattle.layouts.specs.Tables.{counter}
use Rattle.layouts.specs.Categories.{category, known, entries_form}
use Rattle.layouts.specs.declared.form.Form.{Form}
use Rattle.layouts.specs.Alike.{SameBefore}
use Rattle.items.specs.Typed.{settled, counter_of}
use Rattle.items.specs.declared.typed.Counter.{Counter}
use Rattle.items.specs.declared.typed.Place.{Place}
use Rattle.blocks.specs.Headers.{header_of}
use Rattle.blocks.specs.Records.{Rec}
use Rattle.blocks.specs.Blocks.{Block, wrong, all, records_at, block_of, headed}
use Rattle.blocks.specs.Alike.{RecordsAlikeAt}
use Rattle.blocks.specs.Steps.{entry_values, entry_in, entry_of}
use Rattle.blocks.specs.Statistics.{is_statistics, statistics_of, report_entry}
use Rattle.blocks.specs.Walks.{answer_of, read_of}
use Rattle.blocks.specs.Meaning.{item_in}
use Rattle.blocks.specs.Typed.{has}
use Rattle.blocks.specs.Head.{Head}
use Rattle.blocks.specs.declared.record.Record.{Record}
use Rattle.blocks.specs.Statistics.{Entry as Read}
use Rattle.blocks.specs.Reading.{Reading}
use Rattle.blocks.specs.Step.{Step}
use Rattle.blocks.specs.Found.{Found}
use Rattle.blocks.proofs.ListedLaws.{read-block, entry_listed_lem}
use Rattle.blocks.proofs.JoinLaws.{second_block}
use Rattle.blocks.proofs.StepLaws.{entry-taken, entry-counter}
use Rattle.blocks.proofs.SameAnswers.{block-alike, block-after_len}
use Rattle.writing.specs.Same.{Same}
use Rattle.writing.proofs.ReadBackTheorems.{none-same}
use Rattle.rows.specs.Posting as posting
use Rattle.ledger.specs.Posts.{post_of}
use Rattle.ledger.specs.Reports.{entry_of as made, entries_from, entries_of, report_in, step_at, report_of}
use Rattle.ledger.specs.Answer.{Answer}
use Rattle.ledger.specs.declared.Ledger.{Ledger}
use Rattle.ledger.proofs.ReportLaws.{at_more, report-other, report-counts, report-refused, report-stopped, report-taken}
use Rattle.ledger.proofs.RecordNumbers.{record_past}
use Rattle.demands.specs.Operations.{Rewrites, Posts}
use Rattle.demands.specs.Rewritten.{Twins, InTurn}
use Rattle.demands.proofs.Demand2.{same-records}
use Rattle.demands.proofs.Rewritten.{item-same, handed, same_blocks, rewritten-octets, longer-octets, plain-octets}

-- a statistics report is of category 23
of_23 : (t : Record) → is_statistics t ≡ true → t.category ≡ 23
of_23 t h = test (eqb t.category 23) (eqb-true t.category 23) (λ e. absurd (false≢true (rw e at h)))

-- Two records that are the same have the same items
module _ (s x : List ℕ) (t u : Record) (same : Same s t x u) (back : Same x u s t) where
  source-same : u.source ≡ t.source
  source-same = let e = item-same s x t u same back Form.Source (omega arith) (λ at. refl) in cc

  service-same : u.service ≡ t.service
  service-same = let e = item-same s x t u same back Form.Service (omega arith) (λ at. refl) in cc

  type-same : u.message_type ≡ t.message_type
  type-same = let e = item-same s x t u same back Form.MessageType (omega arith) (λ at. refl) in cc

  time-same : u.time ≡ t.time
  time-same = let e = item-same s x t u same back Form.Time (omega arith) (λ at. refl) in cc

  statistics-same : is_statistics u ≡ is_statistics t
  statistics-same = rw (same.category, same.marks, type-same)

  -- and as many entries
  count_same : u.entries.count ≡ t.entries.count
  count_same = test (has t (entries_form t.category)) (λ h. some (eqb t.category 242) (same.present (entries_form t.category) h)) none
    where
      some : (b : Bool) → (at : ℕ) × (item_in u (pick b Form.Versions Form.Statistics) ≡ settled at (item_in t (pick b Form.Versions Form.Statistics)))
          → u.entries.count ≡ t.entries.count
      some true (at, e) = let z : u.entries ≡ record { at = at; count = t.entries.count } = cc in ap (λ (p : Place). p.count) z
      some false (at, e) = let z : u.entries ≡ record { at = at; count = t.entries.count } = cc in ap (λ (p : Place). p.count) z

      none : has t (entries_form t.category) ≡ false → u.entries.count ≡ t.entries.count
      none h = none-same s t x u same h ∙ sym (none-same x u s t back (rw (same.category, same.marks) h))

  -- so of both a counter makes the same entry
  made-same : (c : Read) → made (statistics_of t) c ≡ made (statistics_of u) c
  made-same c = rw (source-same, service-same, time-same)

-- The record at a start of each
module _ (s x : List ℕ) (at next at' next' : ℕ) (w : Twins s x at next at' next') where
  abbrev t : Record
  t = w.one

  abbrev u : Record
  u = w.other

  -- each entry that is asked for
  entry-same : (j : ℕ) → entry_in s t.category t.entries.at t.entries.count j ≡ entry_in x u.category u.entries.at u.entries.count j
  entry-same j =
      entry-taken s at j t _ (sym (handed s at t next w.first)) _ refl
      ∙ w.entries j (entry_of s at j) (entry_of x at' j) (refl, entry_listed_lem s at j) (refl, entry_listed_lem x at' j)
      ∙ sym (entry-taken x at' j u _ (sym (handed x at' u next' w.second)) _ refl)

  -- of category 23 a counter
  counter-same : t.category ≡ 23 → (j : ℕ) → j < t.entries.count
      → counter_of (entry_values s counter t.entries.at j) ≡ counter_of (entry_values x counter u.entries.at j)
  counter-same e j l =
      let count = count_same s x t u w.same w.back in
      let f : u.category ≡ 23 = w.same.category ∙ e in
      let a = entry-counter s t.category t.entries.at t.entries.count j l (λ z. omega arith) _ refl in
      let b = entry-counter x u.category u.entries.at u.entries.count j (omega arith) (λ z. omega arith) _ refl in
      let c : Found.Counter (counter_of (entry_values s counter t.entries.at j)) ≡ Found.Counter (counter_of (entry_values x counter u.entries.at j))
      = a ∙ entry-same j ∙ sym b in
      cc

  entries-same : t.category ≡ 23 → (n k : ℕ) → k + n ≤ t.entries.count
      → entries_from s (statistics_of t) n k ≡ entries_from x (statistics_of u) n k
  unfolding entries_from
  entries-same e zero k l = refl
  entries-same e (suc n) k l =
      let read : report_entry s t.entries.at k ≡ report_entry x u.entries.at k
      = ap (λ (c : Counter). record { typ = c.typ; reference = c.reference; count = c.count }) (counter-same e k (omega arith)) in
      let one = ap (made (statistics_of t)) read ∙ made-same s x t u w.same w.back (report_entry x u.entries.at k) in
      λ i. one i ∷ entries-same e n (suc k) (omega arith) i

  -- is the same report
  report_twins : report_in s t ≡ report_in x u
  report_twins = test (is_statistics t) counts other
    where
      is-t : is_statistics u ≡ is_statistics t
      is-t = statistics-same s x t u w.same w.back

      counts : is_statistics t ≡ true → report_in s t ≡ report_in x u
      counts h =
          let all : entries_of s t ≡ entries_of x u
          = entries-same (of_23 t h) t.entries.count 0 (omega arith)
          ∙ ap (λ n. entries_from x (statistics_of u) n 0) (sym (count_same s x t u w.same w.back)) in
          sym (report-counts s t h (statistics_of t) refl) ∙ ap posting.counts all ∙ report-counts x u (is-t ∙ h) (statistics_of u) refl

      other : is_statistics t ≡ false → report_in s t ≡ report_in x u
      other h = sym (report-other s t h) ∙ report-other x u (is-t ∙ h)

-- Record k from a start of each, of those that are handed out in turn
module _ (s x : List ℕ) where
  turn_at : (n k at at' end end' : ℕ) → k < n → InTurn s x n at at' end end'
      → (p q p' q' : ℕ) × (w : Twins s x p q p' q')
      × (step_at s k at ≡ Step.Taken w.one (record { at = q })) × (step_at x k at' ≡ Step.Taken w.other (record { at = q' }))
  turn_at zero k at at' end end' l w = absurd (omega arith)
  turn_at (suc n) zero at at' end end' l (q, q', w, more) =
      (at, q, at', q', w, unfold step_at in handed s at w.one q w.first, unfold step_at in handed x at' w.other q' w.second)
  turn_at (suc n) (suc k) at at' end end' l (q, q', w, more) =
      let (p, r, p', r', v, e, e') = turn_at n k q q' end end' (omega arith) more in (
        p,
        r,
        p',
        r',
        v,
        at_more s k at ∙ rw (handed s at w.one q w.first) e,
        at_more x k at' ∙ rw (handed x at' w.other q' w.second) e',
      )

-- Octets with the same records
module _ (s x : List ℕ) (o : Octets s) (o' : Octets x) (e : block_of s ≡ block_of x) where
  read_as : (y : List ℕ) (b : Block) → block_of y ≡ b → read_of y ≡ answer_of (number 2 y 1) b
  read_as y b f = read-block y ∙ ap (answer_of (number 2 y 1)) f

  module _ (k len n len' : ℕ) (a : read_of s ≡ Reading.Accepted len n) (b : read_of x ≡ Reading.Accepted len' n) where
    report-below : k < n → report_of s k ≡ report_of x k
    report-below l =
        let (p, q, p', q', w, f, f') = turn_at s x n k 3 3 len len' l (same_blocks s x o o' len n len' n a b e) in
        sym (report-taken s k len n (sym a) w.one _ (sym f)) ∙ report_twins s x p q p' q' w
        ∙ report-taken x k len' n (sym b) w.other _ (sym f')

    report-past : n ≤ k → report_of s k ≡ report_of x k
    report-past l =
        sym (report-stopped s k len n (sym a) no_such 0 (sym (record_past s len n o a k l)))
        ∙ report-stopped x k len' n (sym b) no_such 0 (sym (record_past x len' n o' b k l))

  -- are the same report by every record number
  report-same : (k : ℕ) → report_of s k ≡ report_of x k
  report-same k = go (block_of s) refl
    where
      go : (b : Block) → block_of s ≡ b → report_of s k ≡ report_of x k
      go (wrong n at) f = sym (report-refused s k n at (sym (read_as s _ f))) ∙ report-refused x k n at (sym (read_as x _ (sym e ∙ f)))
      go (all cat rs) f =
          let a = read_as s _ f in
          let b = read_as x _ (sym e ∙ f) in
          test (ltb k (length rs)) (λ l. report-below k _ _ _ a b (ltb-true k (length rs) l)) (λ l. report-past k _ _ _ a b (ltb-false k (length rs) l))

  -- and so get the same post.
  pub same_post : (l : Ledger) (k : ℕ) (r q : Answer) → Posts l s k r → Posts l x k q → r ≡ q
  unfolding post_of
  same_post l k r q a b = a ∙ rw (report-same k) (sym b)

-- Two slices with the same header, each of LEN octets at least
module _ (s t : List ℕ) (first : (i : ℕ) → i < 3 → get_or s i 0 ≡ get_or t i 0)
    (long : 3 ≤ length s) (long' : 3 ≤ length t) (fits : number 2 s 1 ≤ length s) (fits' : number 2 s 1 ≤ length t) (o : Octets s) (o' : Octets t) where
  -- Where they differ only in spare bits, record by record, every post is the same, the ledger too.
  pub spare_post : ((cat len : ℕ) → header_of s ≡ Head.Good cat len → RecordsAlikeAt s t len (category cat) len 3)
      → (l : Ledger) (k : ℕ) (r q : Answer) → Posts l s k r → Posts l t k q → r ≡ q
  spare_post h = same_post s t o o' (block-alike s t first long long' fits fits' h)

  -- and where they differ only after LEN.
  pub after_post : SameBefore (number 2 s 1) s t → (l : Ledger) (k : ℕ) (r q : Answer) → Posts l s k r → Posts l t k q → r ≡ q
  after_post h = same_post s t o o' (block-after_len s t first long long' fits fits' h)

-- The rewriting of a block is posted as the block is.
pub rewritten_post : (s : List ℕ) → Octets s → (l : List ℕ) → Octets l → (out : List ℕ) (n : ℕ) → Rewrites s l out (Written.Octets n)
    → (ledger : Ledger) (k : ℕ) (r q : Answer) → Posts ledger s k r → Posts ledger out k q → r ≡ q
rewritten_post s o l o' out n h = same_post s out o (rewritten-octets s o l o' out n h) (sym (same-records s o l out n h))

-- A second specification octet of zero, in a record behind whole records a, changes no post.
module _ (cat : ℕ) (known : known cat ≡ true) (two : 2 ≤ (category cat).most) (a b : List ℕ) (x : ℕ) (o : Octets a) (o' : Octets (x ∷ b))
    (even : odd x ≡ false) (n : ℕ) (rs ts : List Rec) (e : records_at a (length a) (category cat) n 0 ≡ all cat rs)
    (f : records_at (x ∷ b) (length (x ∷ b)) (category cat) n 0 ≡ all cat ts) (fit : 3 + length (a ++ ((x + 1) ∷ 0 ∷ b)) < 65536) (t : List ℕ) (ot : Octets t) where
  pub second_post : (l : Ledger) (k : ℕ) (r q : Answer) → Posts l (headed cat (a ++ ((x + 1) ∷ 0 ∷ b)) ++ t) k r
      → Posts l (headed cat (a ++ (x ∷ b)) ++ t) k q → r ≡ q
  second_post =
      same_post _ _ (longer-octets cat known two a b x o o' even n rs ts e f fit t ot)
      (plain-octets cat known two a b x o o' even n rs ts e f fit t ot)
      (second_block cat known two a b x o o' even n rs ts e f fit t)
