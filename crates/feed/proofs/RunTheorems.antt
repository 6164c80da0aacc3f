-- A run over a feed that comes in pieces is the run over the whole, and less than 65,535 octets ever wait. Assumes nothing.
use mathlib.Core.Path.{◌≡◌, refl, sym, ap, ◌∙◌, subst}
use mathlib.Core.Bool.{Bool, true, false}
use mathlib.Core.List.{List, [], ◌∷◌, ◌++◌, append-nil, append_assoc}
use mathlib.Core.Logic.{inl, inr}
use Prim.Native.Nat.{ℕ, zero, suc, ◌+◌, ◌<◌}
use native.Mathlib.Omega.{arith}
use lib.ListN.{length, drop, length-drop}
use lib.Seq.{drop-append-le, drop-drop}
use Rattle.octets.specs.Numbers.{Octets}
use Rattle.octets.proofs.Parts.{Octets-drop}
use Rattle.feed.specs.Blocks.{next_of}
use Rattle.feed.specs.Runs.{State, accepted_block, refused_block, Run, left, behind, leaving, go_on, run_from, run_over, onward, in_pieces, joined}
use Rattle.feed.specs.declared.run.Ending.{Ending}
use Rattle.feed.specs.declared.run.Ending.TheVariants as ending
use Rattle.feed.specs.declared.block.Next.{Next}
use Rattle.feed.specs.declared.block.Next.TheVariants as next
use Rattle.feed.proofs.NextLaws.{Whole}
use Rattle.feed.proofs.NextTheorems.{next_whole_block, next-waits, never_ended, next_more, accepted-behind}

-- a block leaves less than there was
rest-less : (s : List ℕ) (len n : ℕ) → Whole s len → length s < suc n → length (drop len s) < n
rest-less s len n w l = rw length-drop (omega arith)

-- any two amounts that are enough
fuel : (n m : ℕ) (s : List ℕ) (over : Bool) (st : State) → length s < n → length s < m → run_from n s over st ≡ run_from m s over st
unfolding run_from
fuel zero m s over st l k = absurd (omega arith)
fuel (suc n) zero s over st l k = absurd (omega arith)
fuel (suc n) (suc m) s over st l k = go (next_of s over) refl (λ len. fuel n m (drop len s) over)
  where
    go : (x : Next) → next_of s over ≡ x
        → ((len : ℕ) (st' : State) → length (drop len s) < n → length (drop len s) < m
        → run_from n (drop len s) over st' ≡ run_from m (drop len s) over st')
        → go_on s st (λ len st'. run_from n (drop len s) over st') x ≡ go_on s st (λ len st'. run_from m (drop len s) over st') x
    go (next.Left x) e ih = refl
    go (next.Skipped len) e ih =
        let w = next_whole_block s over len (inr e) in
        ap (behind len) (ih len (refused_block st) (rest-less s len n w l) (rest-less s len m w k))
    go (next.Accepted len) e ih =
        let w = next_whole_block s over len (inl e) in
        ap (behind len) (ih len (accepted_block st s) (rest-less s len n w l) (rest-less s len m w k))

-- More than enough changes nothing.
pub enough : (n : ℕ) (s : List ℕ) (over : Bool) (st : State) → Octets s → length s < n → run_from n s over st ≡ run_over s over st
enough n s over st o l = fuel n (suc (length s)) s over st l (omega arith)

-- A run by what its octets begin with
module _ (s : List ℕ) (over : Bool) (st : State) where
  pub run-left_off : (e : Ending) → next_of s over ≡ Next.Left e → run_over s over st ≡ left (leaving e st) 0 e
  unfolding run_from
  run-left_off e h = rw h

  module _ (len : ℕ) where
    run_on : Whole s len → (st' : State) → run_from (length s) (drop len s) over st' ≡ run_over (drop len s) over st'
    run_on w st' = fuel (length s) (suc (length (drop len s))) (drop len s) over st' (rest-less s len (length s) w (omega arith)) (omega arith)

    pub run_skipped : next_of s over ≡ Next.Skipped len → run_over s over st ≡ behind len (run_over (drop len s) over (refused_block st))
    unfolding run_from
    run_skipped e = rw e (ap (behind len) (run_on (next_whole_block s over len (inr e)) (refused_block st)))

    pub run-accepted : next_of s over ≡ Next.Accepted len → run_over s over st ≡ behind len (run_over (drop len s) over (accepted_block st s))
    unfolding run_from
    run-accepted e = rw e (ap (behind len) (run_on (next_whole_block s over len (inl e)) (accepted_block st s)))

-- What holds of every run over input that is not over: it stops, it waits, or a block stands in front of another run
module _ (P : List ℕ → State → Run → Type 0)
    (stops : (s : List ℕ) (st : State) → next_of s false ≡ Next.Left Ending.Stopped → P s st (left (refused_block st) 0 Ending.Stopped))
    (waits : (s : List ℕ) (st : State) → next_of s false ≡ Next.Left Ending.More → P s st (left st 0 Ending.More))
    (skips : (s : List ℕ) (st : State) (len : ℕ) → next_of s false ≡ Next.Skipped len
    → (r : Run) → P (drop len s) (refused_block st) r → P s st (behind len r))
    (accepts : (s : List ℕ) (st : State) (len : ℕ) → next_of s false ≡ Next.Accepted len
    → (r : Run) → P (drop len s) (accepted_block st s) r → P s st (behind len r)) where
  runs-below : (n : ℕ) (s : List ℕ) (st : State) → length s < n → P s st (run_over s false st)
  runs-below zero s st l = absurd (omega arith)
  runs-below (suc n) s st l = go (next_of s false) refl (λ len. runs-below n (drop len s))
    where
      go : (x : Next) → next_of s false ≡ x
          → ((len : ℕ) (st' : State) → length (drop len s) < n → P (drop len s) st' (run_over (drop len s) false st')) → P s st (run_over s false st)
      go (next.Left ending.Ended) e ih = absurd (never_ended s e)
      go (next.Left ending.Stopped) e ih = subst (P s st) (sym (run-left_off s false st Ending.Stopped e)) (stops s st e)
      go (next.Left ending.More) e ih = subst (P s st) (sym (run-left_off s false st Ending.More e)) (waits s st e)
      go (next.Skipped len) e ih =
          subst (P s st) (sym (run_skipped s false st len e))
          (skips s st len e _ (ih len (refused_block st) (rest-less s len n (next_whole_block s false len (inr e)) l)))
      go (next.Accepted len) e ih =
          subst (P s st) (sym (run-accepted s false st len e))
          (accepts s st len e _ (ih len (accepted_block st s) (rest-less s len n (next_whole_block s false len (inl e)) l)))

  runs : (s : List ℕ) (st : State) → P s st (run_over s false st)
  runs s st = runs-below (suc (length s)) s st (omega arith)

-- Octets used, and octets behind

pub behind-none : (r : Run) → behind 0 r ≡ r
behind-none r = ap (λ (n : ℕ). left r.state n r.ending) (omega arith)

pub behind-both : (n m : ℕ) (r : Run) → behind n (behind m r) ≡ behind (n + m) r
behind-both n m r = ap (λ (k : ℕ). left r.state k r.ending) (omega arith)

octets-drop : (n : ℕ) (s t : List ℕ) → Octets (s ++ t) → Octets (drop n s ++ t)
octets-drop zero s t o = o
octets-drop (suc n) [] t o = o
octets-drop (suc n) (x ∷ s) t o = octets-drop n s t (λ i. o (suc i))

not_waiting : Ending.Stopped ≡ Ending.More → ⊥
not_waiting e = let z : ◌≡◌ {A = ℕ} 0 1 = cc in omega arith

-- Less than 65,535 octets wait.
pub rest-short : (s : List ℕ) (st : State) → Octets s → (run_over s false st).ending ≡ Ending.More → length (drop (run_over s false st).at s) < 65535
rest-short =
    runs (λ s st r. Octets s → r.ending ≡ Ending.More → length (drop r.at s) < 65535)
    (λ s st e o h. absurd (not_waiting h))
    (λ s st e o h. next-waits s o e)
    (λ s st len e r ih o h. rw (← drop-drop) (ih (Octets-drop len s o) h))
    (λ s st len e r ih o h. rw (← drop-drop) (ih (Octets-drop len s o) h))

-- More octets behind those of a run
module _ (t : List ℕ) (over : Bool) where
  -- what they make of it
  abbrev Onward : List ℕ → State → Run → Ending → Type 0
  Onward s st r ending.More = run_over (s ++ t) over st ≡ behind r.at (run_over (drop r.at s ++ t) over r.state)
  Onward s st r ending.Stopped = run_over (s ++ t) over st ≡ r
  Onward s st r ending.Ended = ⊥

  -- a block in front
  onward-behind : (s : List ℕ) (st st' : State) (len : ℕ) (r : Run) → run_over (s ++ t) over st ≡ behind len (run_over (drop len s ++ t) over st')
      → (e : Ending) → Onward (drop len s) st' r e → Onward s st (behind len r) e
  onward-behind s st st' len r h ending.More w = h ∙ rw (w, behind-both len r.at, drop-drop)
  onward-behind s st st' len r h ending.Stopped w = h ∙ rw w
  onward-behind s st st' len r h ending.Ended w = w

  module _ (s : List ℕ) (st : State) (len : ℕ) (o : Octets (s ++ t)) where
    accepted-more : next_of s false ≡ Next.Accepted len → run_over (s ++ t) over st ≡ behind len (run_over (drop len s ++ t) over (accepted_block st s))
    accepted-more e =
        let w = next_whole_block s false len (inl e) in
        run-accepted (s ++ t) over st len (next_more s t over o (Next.Accepted len) e (λ h. let z : ◌≡◌ {A = ℕ} 0 1 = cc in omega arith))
        ∙ rw (drop-append-le len s t w.fits, accepted-behind s t len o e st)

    skipped_more : next_of s false ≡ Next.Skipped len → run_over (s ++ t) over st ≡ behind len (run_over (drop len s ++ t) over (refused_block st))
    skipped_more e =
        let w = next_whole_block s false len (inr e) in
        run_skipped (s ++ t) over st len (next_more s t over o (Next.Skipped len) e (λ h. let z : ◌≡◌ {A = ℕ} 0 1 = cc in omega arith))
        ∙ rw (drop-append-le len s t w.fits)

  onward-run : (s : List ℕ) (st : State) → Octets (s ++ t) → Onward s st (run_over s false st) (run_over s false st).ending
  onward-run =
      runs (λ s st r. Octets (s ++ t) → Onward s st r r.ending)
      (λ s st e o. run-left_off (s ++ t) over st Ending.Stopped (next_more s t over o (Next.Left Ending.Stopped) e (λ h. let z : ◌≡◌ {A = ℕ} 0 1 = cc in omega arith)))
      (λ s st e o. sym (behind-none _))
      (λ s st len e r ih o. onward-behind s st (refused_block st) len r (skipped_more s st len o e) r.ending (ih (octets-drop len s t o)))
      (λ s st len e r ih o. onward-behind s st (accepted_block st s) len r (accepted-more s st len o e) r.ending (ih (octets-drop len s t o)))

-- A run that waits goes on where it left off.
pub run_more : (s t : List ℕ) (over : Bool) (st : State) → Octets (s ++ t) → (run_over s false st).ending ≡ Ending.More
    → run_over (s ++ t) over st ≡ behind (run_over s false st).at (run_over (drop (run_over s false st).at s ++ t) over (run_over s false st).state)
run_more s t over st o e = subst (Onward t over s st (run_over s false st)) e (onward-run t over s st o)

-- A run that has stopped has stopped for good.
pub run-stopped : (s t : List ℕ) (over : Bool) (st : State) → Octets (s ++ t) → (run_over s false st).ending ≡ Ending.Stopped
    → run_over (s ++ t) over st ≡ run_over s false st
run-stopped s t over st o e = subst (Onward t over s st (run_over s false st)) e (onward-run t over s st o)

-- behind octets that wait
pieces_behind : (rest : List ℕ) (ps : List (List ℕ)) (st : State) → Octets (rest ++ joined ps)
    → in_pieces rest ps st ≡ (run_over (rest ++ joined ps) true st).state
unfolding in_pieces
pieces_behind rest [] st o = rw append-nil
pieces_behind rest (p ∷ ps) st o =
    let r = run_over (rest ++ p) false st in
    let o' : Octets ((rest ++ p) ++ joined ps) = rw append_assoc o in
    rw (← append_assoc) (go r.ending (onward-run (joined ps) true (rest ++ p) st o')
    (pieces_behind (drop r.at (rest ++ p)) ps r.state (octets-drop r.at (rest ++ p) (joined ps) o')))
  where
    go : (e : Ending) → Onward (joined ps) true (rest ++ p) st (run_over (rest ++ p) false st) e → {on : State}
        → on ≡ (run_over (drop (run_over (rest ++ p) false st).at (rest ++ p) ++ joined ps) true (run_over (rest ++ p) false st).state).state
        → onward e (run_over (rest ++ p) false st).state on ≡ (run_over ((rest ++ p) ++ joined ps) true st).state
    go ending.More w ih = ih ∙ sym (ap (λ (r : Run). r.state) w)
    go ending.Stopped w ih = sym (ap (λ (r : Run). r.state) w)
    go ending.Ended w ih = absurd w

-- However a feed comes in pieces, the run is that over the whole.
pub in_pieces_lem : (ps : List (List ℕ)) (st : State) → Octets (joined ps) → in_pieces [] ps st ≡ (run_over (joined ps) true st).state
in_pieces_lem ps st o = pieces_behind [] ps st o
