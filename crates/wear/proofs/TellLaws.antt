-- Laws of what is told: what refuses a block, where the fault is, and that no line is long. Assumes nothing.
use mathlib.Core.Bool.{Bool, true, false}
use mathlib.Core.List.{List, ◌++◌}
use mathlib.Core.Path.{◌≡◌, sym, ap, ◌∙◌, subst}
use Prim.Native.Nat.{ℕ, ◌+◌, ◌-◌, ◌≤◌, ◌<◌, ◌^◌}
use native.Mathlib.Omega.{arith}
use borrow.Author.Tests.{ne_eqb}
use lib.Dec.{eqb}
use lib.ListN.{length, get_or, take, drop, length-append}
use lib.Seq.{take-add, length-take-le, drop_at}
use Rattle.std.specs.Prelude.{Option, Some, None}
use Rattle.octets.proofs.Cases.{test, choose}
use Rattle.blocks.specs.declared.fault.Fault.{Fault}
use Rattle.blocks.specs.Walks.{read_of, read_listed}
use Rattle.blocks.specs.Reading.{Reading}
use Rattle.blocks.specs.Reading as reading
use Rattle.feed.specs.Blocks.{len_of, judged, next_of, listed_next, next_listed}
use Rattle.feed.specs.Totals.{up}
use Rattle.feed.specs.declared.block.Next.{Next}
use Rattle.feed.specs.declared.block.Next.TheVariants as next
use Rattle.feed.proofs.NextLaws.{Whole, next_cases}
use Rattle.feed.proofs.TotalLaws.{up_fits}
use Rattle.text.specs.Digits.{decimal}
use Rattle.text.specs.Gathered.{Gathered, put_all}
use Rattle.text.specs.Quotes.{quoted}
use Rattle.text.proofs.DecimalLaws.{decimal-short}
use Rattle.text.proofs.SentenceLaws.{sentence-short}
use Rattle.wear.specs.Tells.{number_in, refused_words, fault_words, skipped_words, skipped_line, stop_words, stopped_words, unread_first, unread_words, longest_line, StopTold}
use Rattle.wear.specs.Turns.{waiting, Left}
use Rattle.wear.specs.declared.input.Turn.{Turn}

-- what stands between two offsets
pub between : (s : List ℕ) (from to : ℕ) → from ≤ to → to ≤ length s → take (to - from) (drop from s) ≡ drop from (take to s)
between s from to l h =
    let sum : from + (to - from) ≡ to = omega arith in
    let front = length-take-le from s (omega arith) in
    sym (drop_at (take from s) (take (to - from) (drop from s)) from front) ∙ ap (drop from) (sym (take-add from (to - from) s))
    ∙ ap (λ n. drop from (take n s)) sum

-- the words of a fault in a record
pub record_put : (g g' : Gathered) (offset at sum : ℕ) → (at ≡ 0 → ⊥) → sum ≡ up offset at
    → g' ≡ put_all g (quoted "; its record at octet " ++ decimal sum ++ quoted "\n") → g' ≡ put_all g (fault_words offset at)
record_put g g' offset at sum n is h = rw (ne_eqb at 0 n, ← is) h

-- No line is long

pub number_small : (fault : Option Fault) → number_in fault < 2 ^ 64
number_small None = omega arith
number_small (Some fault) = grind arith

refused-short : (n : ℕ) → n < 2 ^ 64 → length (refused_words n) ≤ 110
unfolding quoted
refused-short n h = simp length-append (omega (arith, decimal-short n h, sentence-short n))

fault-short : (offset at : ℕ) → length (fault_words offset at) ≤ 43
unfolding quoted
fault-short offset at =
    test (eqb at 0) (λ t. rw t (omega arith))
    (λ f. rw f (simp length-append (omega (arith, decimal-short (up offset at) (up_fits offset at)))))

first_short : (failed : Bool) → length (unread_first failed) ≤ 11
unfolding quoted
first_short true = omega arith
first_short false = omega arith

-- a line of its numbers, and that of the block
module _ (offset cat len refusal at : ℕ) (small : offset < 2 ^ 64) (small-cat : cat < 2 ^ 64) (small-len : len < 2 ^ 64)
    (narrow : refusal < 2 ^ 64) where
  pub skipped_short : length (skipped_words offset cat len refusal at) ≤ longest_line
  unfolding quoted
  skipped_short =
      simp length-append
      (omega (
        arith,
        decimal-short offset small,
        decimal-short cat small-cat,
        decimal-short len small-len,
        simp length-append at (refused-short refusal narrow),
        fault-short offset at,
      ))

pub skipped_is : (offset cat len refusal at : ℕ) (s : List ℕ) → cat ≡ get_or s 0 0 → len ≡ len_of s → refusal ≡ (read_listed s).refusal
    → at ≡ (read_listed s).offset → skipped_words offset cat len refusal at ≡ skipped_line offset s
unfolding skipped_line
skipped_is offset cat len refusal at s is-cat is-len is-refusal is_at = rw (is-cat, is-len, is-refusal, is_at)

pub stopped-short : (offset refusal : ℕ) → offset < 2 ^ 64 → refusal < 2 ^ 64 → length (stop_words offset refusal) ≤ longest_line
unfolding quoted
stopped-short offset refusal small narrow =
    simp length-append (omega (arith, decimal-short offset small, simp length-append at (refused-short refusal narrow)))

pub stopped-is : (offset refusal : ℕ) (s : List ℕ) → refusal ≡ (read_listed s).refusal → stop_words offset refusal ≡ stopped_words offset s
unfolding stopped_words
stopped-is offset refusal s is-refusal = rw is-refusal

pub unread-short : (n : ℕ) (failed : Bool) → n < 2 ^ 64 → length (unread_words n failed) ≤ longest_line
unfolding unread_words quoted
unread-short n failed h =
    let last = quoted " octets from there on were not read\n" in
    let first = unread_first failed in
    omega (arith, length-append (first ++ decimal n) last, length-append first (decimal n), first_short failed, decimal-short n h)

-- A block that a run goes past has a header, and its octets are there

abbrev pub Passes : List ℕ → Next → Type 0
Passes s (next.Left ending) = Unit {0}
Passes s (next.Skipped len) = (4 ≤ len) × (len ≤ length s)
Passes s (next.Accepted len) = (4 ≤ len) × (len ≤ length s)

judged-passes : (s : List ℕ) → Whole s (len_of s) → (r : Reading) → Passes s (judged (len_of s) r)
judged-passes s w (reading.Accepted l n) = (w.least, w.fits)
judged-passes s w (reading.Refused n at) = (w.least, w.fits)

passes : (s : List ℕ) (over : Bool) (x : Next) → x ≡ next_of s over → Passes s x
passes s over x e =
    subst (Passes s) (sym e)
    (next_cases s over (Passes s) (λ l. choose (Passes s) over (λ e. choose (Passes s) (eqb (length s) 0) (λ d. tt) (λ d. tt)) (λ e. tt)) (λ l h. tt)
    (λ l. choose (Passes s) over (λ e. tt) (λ e. tt)) (λ w. judged-passes s w (read_of s)))

-- what comes next, as it is answered and as it is listed: the octets that the run goes on by are there
module _ (s : List ℕ) (over : Bool) (r x : Next) (is : r ≡ x) (said : (r ≡ next_of s over) × (listed_next r ≡ next_listed s over)) where
  pub goes_on : Passes s x × ((listed_next x).octets ≡ (next_listed s over).octets)
  goes_on = (passes s over x (sym is ∙ said.0), ap (λ n. n.octets) (ap listed_next (sym is) ∙ said.1))

-- where the run of a feed stopped, and what stands there
pub stop-told : (feed buffer : List ℕ) (last : Turn) → Left feed buffer last → (s words : List ℕ) → s ≡ waiting last buffer
    → words ≡ stopped_words last.used s → StopTold last words
stop-told feed buffer last w s words is e = record {
  feed = feed;
  all = w.all;
  is = e ∙ (λ i. stopped_words (w.used i) ((is ∙ w.waits) i));
}
