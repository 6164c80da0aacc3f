-- A run counts on: whatever has been counted before, it leaves the same rows at the same octet, and what it counts is added up. Assumes nothing.
use mathlib.Core.Bool.{Bool, true, false}
use mathlib.Core.List.{List, ◌++◌}
use mathlib.Core.Path.{◌≡◌, sym, ap, ◌∙◌, subst}
use Prim.Native.Nat.{ℕ, zero, suc, ◌+◌, ◌<◌, ◌^◌}
use native.Mathlib.Nat.{zero-add}
use native.Mathlib.Omega.{arith}
use lib.ListN.{length, drop}
use Rattle.octets.specs.Numbers.{Octets}
use Rattle.octets.specs.Refusals.{no_room, life_passes}
use Rattle.rows.specs.Rows.{Row, add_up}
use Rattle.rows.specs.Posting.{answers, after}
use Rattle.rows.specs.Order.{times}
use Rattle.feed.specs.Blocks.{next_of, reports_of}
use Rattle.feed.specs.Runs.{state, Run, left, behind, go_on, run_from, run_over, zeros}
use Rattle.feed.specs.Totals.{up, refused_one, accepted_one}
use Rattle.feed.specs.declared.run.Ending.{Ending}
use Rattle.feed.specs.declared.run.Ending.TheVariants as ending
use Rattle.feed.specs.declared.block.Next.{Next}
use Rattle.feed.specs.declared.block.Next.TheVariants as next
use Rattle.feed.specs.declared.totals.Totals.{Totals}
use Rattle.feed.proofs.RunEnds.{Proper, run-left}
use Rattle.feed.proofs.RunTheorems.{run_more}
use Rattle.feed.proofs.TotalLaws.{up_fits, up_up, up-sum, up_none, totals}

-- Totals added up, count by count

abbrev pub added : Totals → Totals → Totals
added t u = totals (up t.accepted u.accepted) (up t.refused u.refused) (up t.posted u.posted) (up t.unposted u.unposted)

-- each count has 64 bits
pub record Fits (t : Totals) : Type 0 where
  pub accepted : t.accepted < 2 ^ 64
  pub refused : t.refused < 2 ^ 64
  pub posted : t.posted < 2 ^ 64
  pub unposted : t.unposted < 2 ^ 64

added-fits : (t u : Totals) → Fits (added t u)
added-fits t u = record {
  accepted = up_fits t.accepted u.accepted;
  refused = up_fits t.refused u.refused;
  posted = up_fits t.posted u.posted;
  unposted = up_fits t.unposted u.unposted;
}

zeros-fit : Fits zeros
zeros-fit = record { accepted = omega arith; refused = omega arith; posted = omega arith; unposted = omega arith }

-- what is added to what was added
up-on : (n a b : ℕ) → up (up n a) b ≡ up n (up (up 0 a) b)
up-on n a b = up_up n a b ∙ ap (up n) (sym (zero-add (a + b))) ∙ sym (up-sum n 0 (a + b)) ∙ ap (up n) (sym (up_up 0 a b))

added-on : (t v u : Totals) → added (added t v) u ≡ added t (added (added zeros v) u)
added-on t v u p =
    totals (up-on t.accepted v.accepted u.accepted p) (up-on t.refused v.refused u.refused p)
    (up-on t.posted v.posted u.posted p) (up-on t.unposted v.unposted u.unposted p)

-- nothing, a refused block and an accepted one, as what they add
abbrev accepts : List ℕ → Totals
accepts ns = totals 1 0 (times 0 ns) (times no_room ns + times life_passes ns)

module _ (t : Totals) (f : Fits t) where
  adds_none : t ≡ added t zeros
  adds_none p =
      totals (sym (up_none t.accepted f.accepted) p) (sym (up_none t.refused f.refused) p)
      (sym (up_none t.posted f.posted) p) (sym (up_none t.unposted f.unposted) p)

  adds-refused : refused_one t ≡ added t (totals 0 1 0 0)
  adds-refused p =
      totals (sym (up_none t.accepted f.accepted) p) (up t.refused 1)
      (sym (up_none t.posted f.posted) p) (sym (up_none t.unposted f.unposted) p)

  adds-accepted : (ns : List ℕ) → accepted_one t ns ≡ added t (accepts ns)
  adds-accepted ns p =
      totals (up t.accepted 1) (sym (up_none t.refused f.refused) p) (up t.posted (times 0 ns))
      (up t.unposted (times no_room ns + times life_passes ns))

-- Runs

-- the same run, with what was counted before
abbrev pub counting : Totals → Run → Run
counting t r = left (state r.state.rows (added t r.state.totals)) r.at r.ending

-- what goes on behind a block that adds something
module _ (rest : Totals → Run) (all : (t : Totals) → Fits t → rest t ≡ counting t (rest zeros)) (t : Totals) (one : Totals → Totals) (v : Totals)
    (adds : (t : Totals) → Fits t → one t ≡ added t v) where
  on-behind : Fits t → rest (one t) ≡ counting t (rest (one zeros))
  on-behind f =
      ap rest (adds t f) ∙ all (added t v) (added-fits t v)
      ∙ ap (λ u. left (state (rest zeros).state.rows u) (rest zeros).at (rest zeros).ending) (added-on t v (rest zeros).state.totals)
      ∙ sym (ap (counting t) (ap rest (adds zeros zeros-fit) ∙ all (added zeros v) (added-fits zeros v)))

counted-from : (n : ℕ) (s : List ℕ) (over : Bool) (rows : List Row) (t : Totals) → Fits t
    → run_from n s over (state rows t) ≡ counting t (run_from n s over (state rows zeros))
unfolding run_from
counted-from zero s over rows t f = ap (λ u. left (state rows u) 0 Ending.More) (adds_none t f)
counted-from (suc n) s over rows t f = go (next_of s over) (λ len. counted-from n (drop len s) over)
  where
    go : (x : Next)
        → ((len : ℕ) (rows : List Row) (t : Totals) → Fits t
        → run_from n (drop len s) over (state rows t) ≡ counting t (run_from n (drop len s) over (state rows zeros)))
        → go_on s (state rows t) (λ len to. run_from n (drop len s) over to) x
        ≡ counting t (go_on s (state rows zeros) (λ len to. run_from n (drop len s) over to) x)
    go (next.Left ending.Ended) ih = ap (λ u. left (state rows u) 0 Ending.Ended) (adds_none t f)
    go (next.Left ending.Stopped) ih = ap (λ u. left (state rows u) 0 Ending.Stopped) (adds-refused t f)
    go (next.Left ending.More) ih = ap (λ u. left (state rows u) 0 Ending.More) (adds_none t f)
    go (next.Skipped len) ih =
        ap (behind len)
        (on-behind (λ u. run_from n (drop len s) over (state rows u)) (ih len rows) t refused_one (totals 0 1 0 0) adds-refused f)
    go (next.Accepted len) ih =
        let ns = answers add_up rows (reports_of s) in
        let posted = after add_up rows (reports_of s) in
        ap (behind len)
        (on-behind (λ u. run_from n (drop len s) over (state posted u)) (ih len posted) t (λ u. accepted_one u ns) (accepts ns) (λ u g. adds-accepted u g ns) f)

run-counted : (s : List ℕ) (over : Bool) (rows : List Row) (t : Totals) → Fits t
    → run_over s over (state rows t) ≡ counting t (run_over s over (state rows zeros))
run-counted s over rows t f = counted-from (suc (length s)) s over rows t f

-- what a run counts from zero has 64 bits
run_fits : (s : List ℕ) (over : Bool) (rows : List Row) → Fits (run_over s over (state rows zeros)).state.totals
run_fits s over rows =
    subst Fits (sym (ap (λ (r : Run). r.state.totals) (run-counted s over rows zeros zeros-fit))) (added-fits zeros (run_over s over (state rows zeros)).state.totals)

-- A run that waits goes on from its rows where it left off, and what both count is added up.
pub counted-more : (s t : List ℕ) (over over' : Bool) (rows : List Row) → Octets (s ++ t)
    → let r = run_over s over (state rows zeros) in r.ending ≡ Ending.More
    → run_over (s ++ t) over' (state rows zeros)
    ≡ behind r.at (counting r.state.totals (run_over (drop r.at s ++ t) over' (state r.state.rows zeros)))
counted-more s t true over' rows o e = absurd (subst (Proper true) e (run-left s true (state rows zeros)).proper)
counted-more s t false over' rows o e =
    let r = run_over s false (state rows zeros) in
    run_more s t over' (state rows zeros) o e
    ∙ ap (behind r.at) (run-counted (drop r.at s ++ t) over' r.state.rows r.state.totals (run_fits s false rows))
