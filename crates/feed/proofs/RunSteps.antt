-- A run block by block: what is left of it, step by step. Assumes nothing.
use mathlib.Core.Bool.{Bool}
use mathlib.Core.List.{List}
use mathlib.Core.Logic.{inl, inr}
use mathlib.Core.Path.{◌≡◌, refl, sym, ap, ◌∙◌, subst}
use Prim.Native.Nat.{ℕ, ◌+◌, ◌-◌, ◌≤◌, ◌<◌}
use native.Mathlib.Nat.{add-zero}
use native.Mathlib.Omega.{arith}
use lib.ListN.{length, take, drop, length-drop}
use lib.Seq.{take_all, drop-drop}
use Rattle.octets.specs.Numbers.{Octets}
use Rattle.octets.proofs.Parts.{Octets-drop}
use Rattle.blocks.specs.Walks.{read_of}
use Rattle.blocks.specs.Reading.{Reading}
use Rattle.rows.specs.Rows.{add_up}
use Rattle.rows.specs.Posting.{answers, after}
use Rattle.ledger.specs.Ledgers.{rows_of, cells_of}
use Rattle.ledger.specs.Steps.{Kept}
use Rattle.ledger.proofs.CellLaws.{rows_back}
use Rattle.feed.specs.Blocks.{next_of, reports_of}
use Rattle.feed.specs.Totals.{refused_one, accepted_one}
use Rattle.feed.specs.Runs.{State, state, Run, leaving, behind, run_over, done_of}
use Rattle.feed.specs.declared.block.Next.{Next}
use Rattle.feed.specs.declared.run.Done.{Done}
use Rattle.feed.specs.declared.run.Ending.{Ending}
use Rattle.feed.specs.declared.run.Ending.TheVariants as ending
use Rattle.feed.specs.declared.totals.Totals.{Totals}
use Rattle.feed.proofs.NextLaws.{Whole, next_accepted}
use Rattle.feed.proofs.NextTheorems.{next_whole_block}
use Rattle.feed.proofs.RunTheorems.{run-left_off, run_skipped, run-accepted, behind-none, behind-both}

-- an answer
abbrev done : Totals → ℕ → Ending → Done
done t at e = record { totals = t; at = at; ending = e }

-- The loop: the run from an offset on is still to be done

pub record Going (s : List ℕ) (over : Bool) (st₀ : State) (l : List ℕ) (t : Totals) (at : ℕ) : Type 0 where
  pub within : at ≤ length s
  pub is : behind at (run_over (drop at s) over (state (rows_of l) t)) ≡ run_over s over st₀

-- a block is behind
pub record Onward (s : List ℕ) (over : Bool) (st₀ : State) (l : List ℕ) (t : Totals) (at len : ℕ) : Type 0 where
  pub some : 0 < len
  pub going : Going s over st₀ l t (at + len)

-- leaving off changes no row
same-rows : (e : Ending) (st : State) → (leaving e st).rows ≡ st.rows
same-rows ending.Ended st = refl
same-rows ending.Stopped st = refl
same-rows ending.More st = refl

-- what a run has done: its ledger, and its answer
abbrev pub Over : Run → List ℕ → Done → Type 0
Over r l d = (l ≡ cells_of r.state.rows) × (d ≡ done_of r)

module _ (s : List ℕ) (over : Bool) where
  -- the whole run
  pub going-none : (l : List ℕ) (t : Totals) → Going s over (state (rows_of l) t) l t 0
  going-none l t = record { within = omega arith; is = behind-none (run_over s over (state (rows_of l) t)) }

  -- the octets from an offset on, as the code cuts them out
  abbrev part : ℕ → List ℕ
  part at = take (length s - at) (drop at s)

  -- they are these octets
  part-is : (at : ℕ) → part at ≡ drop at s
  part-is at = take_all (length s - at) (drop at s) (omega (arith, length-drop at s))

  module _ (st₀ : State) (l : List ℕ) (t : Totals) (at : ℕ) (w : Going s over st₀ l t at) where
    abbrev now : State
    now = state (rows_of l) t

    -- the run from there on
    is-part : {r : Run} → run_over (part at) over now ≡ r → behind at r ≡ run_over s over st₀
    is-part e = rw (part-is at) at (ap (behind at) (sym e)) ∙ w.is

    -- no block comes next
    pub going-left : Kept l → (e : Ending) → Next.Left e ≡ next_of (part at) over → {to : Totals} → to ≡ (leaving e now).totals
        → Over (run_over s over st₀) l (done to at e)
    going-left k e is counted =
        let all = is-part (run-left_off (part at) over now e (sym is)) in (
          k.rest ∙ ap cells_of (sym (same-rows e now)) ∙ ap (λ (r : Run). cells_of r.state.rows) all,
          (λ i. done (counted i) (sym (add-zero at) i) e) ∙ ap done_of all,
        )

    -- a block does
    onward : (len : ℕ) → Whole (part at) len → (m : List ℕ) (to : Totals)
        → run_over (part at) over now ≡ behind len (run_over (drop len (part at)) over (state (rows_of m) to)) → Onward s over st₀ m to at len
    onward len h m to e =
        let r = run_over (drop len (part at)) over (state (rows_of m) to) in
        let same : drop (at + len) s ≡ drop len (part at) = sym (ap (drop len) (part-is at) ∙ drop-drop len at s) in
        record {
          some = omega (arith, h.least);
          going = record {
            within = omega (arith, w.within, h.fits, length-drop at s, ap length (part-is at));
            is =
                ap (λ (u : List ℕ). behind (at + len) (run_over u over (state (rows_of m) to))) same
                ∙ sym (behind-both at len r) ∙ is-part e;
          };
        }

    -- a refused one
    pub going_skipped : (len : ℕ) → Next.Skipped len ≡ next_of (part at) over → {to : Totals} → to ≡ refused_one t → Onward s over st₀ l to at len
    going_skipped len e is =
        rw is (onward len (next_whole_block (part at) over len (inr (sym e))) l (refused_one t) (run_skipped (part at) over now len (sym e)))

    -- An accepted one
    module _ (len : ℕ) (e : Next.Accepted len ≡ next_of (part at) over) where
      -- its records may be posted
      pub going_asks : Octets s → (k : ℕ) × (read_of (part at) ≡ Reading.Accepted len k)
      going_asks o = next_accepted (part at) over (subst Octets (sym (part-is at)) (Octets-drop at s o)) len e

      -- and are
      pub going-accepted : (m : List ℕ) (to : Totals) → m ≡ cells_of (after add_up (rows_of l) (reports_of (part at)))
          → to ≡ accepted_one t (answers add_up (rows_of l) (reports_of (part at))) → Onward s over st₀ m to at len
      going-accepted m to is counted =
          let same : rows_of m ≡ after add_up (rows_of l) (reports_of (part at)) = ap rows_of is ∙ rows_back _ in
          onward len (next_whole_block (part at) over len (inl (sym e))) m to
          (run-accepted (part at) over now len (sym e)
          ∙ (λ i. behind len (run_over (drop len (part at)) over (state (sym same i) (sym counted i)))))
