-- Turn after turn: the octets that have come, and the run over them. Assumes nothing.
use mathlib.Core.Bool.{Bool, true, false}
use mathlib.Core.List.{List, [], ◌∷◌, ◌++◌, append-nil}
use mathlib.Core.Logic.{◌⊎◌, inl, inr, ⊎_elim}
use mathlib.Core.Path.{◌≡◌, refl, sym, ap, ◌∙◌, subst}
use Prim.Native.Nat.{ℕ, zero, suc, ◌+◌, ◌-◌, ◌^◌, ◌≤◌, ◌<◌}
use native.Mathlib.Omega.{arith}
use lib.Dec.{eqb, leb}
use lib.ListN.{length, take, drop, length-append, length-drop}
use lib.Seq.{drop-drop, drop-append-le, take-add, length-take-le}
use borrow.Author.Tests.{leb-true, leb-false, eqb-false}
use Rattle.octets.specs.Choice.{pick}
use Rattle.octets.specs.Numbers.{Octets}
use Rattle.octets.proofs.Cases.{test}
use Rattle.octets.proofs.Parts.{Octets-drop, Octets-take}
use Rattle.ledger.specs.Ledgers.{rows_of, cells_of}
use Rattle.ledger.proofs.CellLaws.{rows_back}
use Rattle.feed.specs.Blocks.{next_of}
use Rattle.feed.specs.Runs.{State, state, Run, behind, run_from, run_over, zeros}
use Rattle.feed.specs.Totals.{up}
use Rattle.feed.specs.declared.run.Ending.{Ending}
use Rattle.feed.specs.declared.totals.Totals.{Totals}
use Rattle.feed.specs.declared.run.Ending.TheVariants as ending
use Rattle.feed.proofs.RunTheorems.{rest-short, run_more, run-stopped}
use Rattle.feed.proofs.RunEnds.{Proper, run-left}
use Rattle.feed.proofs.TotalLaws.{up-low, up-high, up_up}
use Rattle.wear.specs.Turns.{unread, going_of, held, waiting, Waiting, Came, Turned, AllCame, Worn, Left, Turns}
use Rattle.wear.specs.declared.input.Turn.{Turn}
use Rattle.wear.specs.declared.reads.Going.{Going}
use Rattle.wear.specs.declared.reads.Reads.{Reads}

abbrev pub turn : ℕ → ℕ → ℕ → Totals → Going → Reads → Turn
turn from to used t g reads = record { from = from; to = to; used = used; totals = t; going = g; reads = reads }

-- a fresh ledger and totals of zero
abbrev fresh : State
fresh = state [] zeros

octets-both : (s t : List ℕ) → Octets s → Octets t → Octets (s ++ t)
octets-both [] t o p i = p i
octets-both (x ∷ s) t o p zero = o 0
octets-both (x ∷ s) t o p (suc i) = octets-both s t (λ j. o (suc j)) p i

-- a count of 2^64 - 1 or more stays there
up-most : (n : ℕ) → 2 ^ 64 - 1 ≤ n → up 0 n ≡ 2 ^ 64 - 1
up-most n h =
    test (leb (2 ^ 64) n)
    (λ t. up-high 0 n (omega (arith, leb-true (2 ^ 64) n t)))
    (λ f. let l = leb-false (2 ^ 64) n f in up-low 0 n (omega arith) ∙ omega arith)

-- A run over all octets that have come is done; what it left of them waits in the buffer, and the reads have given as many as they are.
pub record Done (s : List ℕ) (over : Bool) (buffer l : List ℕ) (now : Turn) : Type 0 where
  pub octets : Octets s
  pub rows : l ≡ cells_of (run_over s over fresh).state.rows
  pub totals : now.totals ≡ (run_over s over fresh).state.totals
  pub going : now.going ≡ going_of (run_over s over fresh).ending
  pub used : now.used ≡ up 0 (run_over s over fresh).at
  pub order : now.from ≤ now.to
  pub within : now.to ≤ length buffer
  pub waits : waiting now buffer ≡ drop (run_over s over fresh).at s
  pub all : now.reads.octets ≡ up 0 (length s)

-- and it waits for more
pub record Waits (s buffer l : List ℕ) (now : Turn) : Type 0 where
  pub done : Done s false buffer l now
  pub more : (run_over s false fresh).ending ≡ Ending.More

-- none has come
pub waits-none : (buffer l : List ℕ) (told : Reads) → l ≡ cells_of [] → told ≡ unread → Waits [] buffer l (turn 0 0 0 zeros Going.On told)
unfolding run_from next_of
waits-none buffer l told e u = record {
  done = record {
    octets = λ i. omega arith;
    rows = e;
    totals = refl;
    going = refl;
    used = sym (up-low 0 0 (omega arith));
    order = omega arith;
    within = omega arith;
    waits = refl;
    all = ap (λ x. x.octets) u ∙ sym (up-low 0 0 (omega arith));
  };
  more = refl;
}

-- A run over all that has come: it waits, or it is over

-- a run goes on, is over, has stopped, or a read failed: one of these
pub on_not_over : {g : Going} {A : Type 0} → g ≡ Going.On → g ≡ Going.Over → A
on_not_over e h = absurd (let z : ◌≡◌ {A = ℕ} 0 1 = cc in omega arith)

pub on_not_stopped : {g : Going} {A : Type 0} → g ≡ Going.On → g ≡ Going.Stopped → A
on_not_stopped e h = absurd (let z : ◌≡◌ {A = ℕ} 0 1 = cc in omega arith)

pub record NoOther (g : Going) : Type 0 where
  pub on : g ≡ Going.On → ⊥
  pub over : g ≡ Going.Over → ⊥
  pub stopped : g ≡ Going.Stopped → ⊥

pub failed_not : {g : Going} → g ≡ Going.Failed → NoOther g
failed_not f = record {
  on = λ e. let z : ◌≡◌ {A = ℕ} 0 1 = cc in omega arith;
  over = λ e. let z : ◌≡◌ {A = ℕ} 0 1 = cc in omega arith;
  stopped = λ e. let z : ◌≡◌ {A = ℕ} 0 1 = cc in omega arith;
}

on-more : (e : Ending) → going_of e ≡ Going.On → e ≡ Ending.More
on-more ending.More h = refl
on-more ending.Ended h = on_not_over h refl
on-more ending.Stopped h = on_not_stopped h refl

on-waits : (e : Ending) → going_of e ≡ Going.On → Proper true e → ⊥
on-waits e h p = subst (Proper true) (on-more e h) p

-- before the input's end a run that does not wait has stopped
off_stopped : (e : Ending) → (going_of e ≡ Going.On → ⊥) → Proper false e → e ≡ Ending.Stopped
off_stopped ending.More h p = absurd (h refl)
off_stopped ending.Ended h p = absurd p
off_stopped ending.Stopped h p = refl

never_failed : {A : Type 0} (e : Ending) → going_of e ≡ Going.Failed → A
never_failed ending.More h = absurd ((failed_not h).on refl)
never_failed ending.Ended h = absurd ((failed_not h).over refl)
never_failed ending.Stopped h = absurd ((failed_not h).stopped refl)

module _ (s buffer l : List ℕ) (now : Turn) where
  done_on : (over : Bool) → Done s over buffer l now → now.going ≡ Going.On → Waits s buffer l now × (over ≡ false)
  done_on true d e = absurd (on-waits (run_over s true fresh).ending (sym d.going ∙ e) (run-left s true fresh).proper)
  done_on false d e = (record { done = d; more = on-more _ (sym d.going ∙ e) }, refl)

  -- by a run that knows of the input's end
  done_worn : Done s true buffer l now → (now.reads.input ≡ Going.Over) ⊎ ((run_over s false fresh).ending ≡ Ending.Stopped)
      → Worn s l now × Left s buffer now
  done_worn d whole =
      let all : AllCame s now = record { octets = d.octets; many = d.all; whole = whole } in (
        record { all = all; rows = d.rows; totals = d.totals; going = d.going },
        record { all = all; used = d.used; order = d.order; within = d.within; waits = d.waits },
      )

  done_off : (over : Bool) → Done s over buffer l now → (over ≡ true → now.reads.input ≡ Going.Over) → (now.going ≡ Going.On → ⊥)
      → Worn s l now × Left s buffer now
  done_off true d end off = done_worn d (inl (end refl))
  done_off false d end off =
      let stopped = off_stopped _ (λ e. off (d.going ∙ e)) (run-left s false fresh).proper in
      let same : run_over s true fresh ≡ run_over s false fresh =
      subst (λ u. run_over u true fresh ≡ run_over s false fresh) (append-nil s) (run-stopped s [] true fresh (rw append-nil d.octets) stopped) in
      let back = sym same in
      done_worn
      (record {
        octets = d.octets;
        rows = d.rows ∙ ap (λ (x : Run). cells_of x.state.rows) back;
        totals = d.totals ∙ ap (λ (x : Run). x.state.totals) back;
        going = d.going ∙ ap (λ (x : Run). going_of x.ending) back;
        used = d.used ∙ ap (λ (x : Run). up 0 x.at) back;
        order = d.order;
        within = d.within;
        waits = d.waits ∙ ap (λ (x : Run). drop x.at s) back;
        all = d.all;
      })
      (inr stopped)

-- Octets wait, and a turn is taken

module _ (s buffer l : List ℕ) (now : Turn) (w : Waits s buffer l now) where
  abbrev run : Run
  run = run_over s false fresh

  -- as many octets wait as the run left
  many : held now ≡ length (drop run.at s)
  many = omega (arith, length-drop now.from (take now.to buffer), length-take-le now.to buffer w.done.within, ap length w.done.waits)

  -- there is room behind what waits
  pub waits-room : length buffer ≡ 131072 → Waiting now buffer
  waits-room e = record {
    order = w.done.order;
    within = w.done.within;
    room = omega (arith, e, many, rest-short s fresh w.done.octets w.more);
  }

  -- the run over what waited and what comes is the run over all
  module _ (t : List ℕ) (o : Octets t) (over : Bool) where
    whole : run_over (s ++ t) over fresh ≡ behind run.at (run_over (waiting now buffer ++ t) over (state (rows_of l) now.totals))
    whole =
        run_more s t over fresh (octets-both s t w.done.octets o) w.more
        ∙ (λ i. behind run.at (run_over (sym w.done.waits i ++ t) over (state (sym same i) (sym w.done.totals i))))
      where
        same : rows_of l ≡ run.state.rows
        same = ap rows_of w.done.rows ∙ rows_back run.state.rows

  -- octets came
  module _ (out m : List ℕ) (then : Turn) (c : Came now buffer l out m then) where
    abbrev n : ℕ
    n = c.n

    abbrev t : List ℕ
    t = take n (drop (held now) out)

    abbrev front : List ℕ
    front = take (held now + n) out

    abbrev one : Run
    one = run_over front (eqb n 0) (state (rows_of l) now.totals)

    long : length t ≡ n
    long = length-take-le n (drop (held now) out) (omega (arith, length-drop (held now) out, c.fits))

    both : front ≡ waiting now buffer ++ t
    both = take-add (held now) n out ∙ ap (λ u. u ++ t) c.kept

    came_octets : Octets t
    came_octets = Octets-take n (drop (held now) out) (Octets-drop (held now) out c.octets)

    all : run_over (s ++ t) (eqb n 0) fresh ≡ behind run.at one
    all = whole t came_octets (eqb n 0) ∙ ap (λ u. behind run.at (run_over u (eqb n 0) (state (rows_of l) now.totals))) (sym both)

    came_done : Done (s ++ t) (eqb n 0) out m then
    came_done =
        let in-s = (run-left s false fresh).within in
        let r = c.ran in
        record {
          octets = octets-both s t w.done.octets came_octets;
          rows = r.rows ∙ sym (ap (λ (x : Run). cells_of x.state.rows) all);
          totals = r.totals ∙ sym (ap (λ (x : Run). x.state.totals) all);
          going = r.going ∙ sym (ap (λ (x : Run). going_of x.ending) all);
          used = r.used ∙ ap (λ k. up k one.at) w.done.used ∙ up_up 0 run.at one.at ∙ ap (λ (x : Run). up 0 x.at) (sym all);
          order = omega (arith, r.from, r.to, (run-left front (eqb n 0) (state (rows_of l) now.totals)).within);
          within = omega (arith, r.to, length-take-le (held now + n) out c.fits, c.fits);
          waits =
              (λ i. drop (r.from i) (take ((r.to ∙ length-take-le (held now + n) out c.fits) i) out))
              ∙ ap (drop one.at) (both ∙ ap (λ u. u ++ t) w.done.waits ∙ sym (drop-append-le run.at s t in-s))
              ∙ drop-drop one.at run.at (s ++ t) ∙ sym (ap (λ (x : Run). drop x.at (s ++ t)) all);
          all =
              ap (λ x. x.octets) r.reads ∙ ap (λ k. up k n) w.done.all ∙ up_up 0 (length s) n
              ∙ ap (up 0) (sym (length-append s t ∙ ap (λ k. length s + k) long));
        }

    -- it goes on, and some came; or the run is over
    came_on : then.going ≡ Going.On → (u : List ℕ) × Waits u out m then × (length s < length u)
    came_on e =
        let d = done_on (s ++ t) out m then (eqb n 0) came_done e in
        (s ++ t, d.0, omega (arith, length-append s t, long, eqb-false n 0 d.1))

    came_off : (then.going ≡ Going.On → ⊥) → Worn (s ++ t) m then × Left (s ++ t) out then
    came_off =
        done_off (s ++ t) out m then (eqb n 0) came_done
        (λ e. ap (λ x. x.input) c.ran.reads ∙ ap (λ b. pick b Going.Over Going.On) e)

  -- a turn goes on, or the run is over, or the read failed
  module _ (out m : List ℕ) (then : Turn) where
    pub turn_on : Turned now buffer l out m then → then.going ≡ Going.On → (u : List ℕ) × Waits u out m then × (length s < length u)
    turn_on (inl f) e = absurd ((failed_not f.0).on e)
    turn_on (inr c) e = came_on out m then c e

    pub turn-ends : Turned now buffer l out m then → (then.going ≡ Going.On → ⊥) → Turns out m then
    turn-ends (inl f) off = record {
      over = λ e. absurd ((failed_not f.0).over e);
      stopped = λ e. absurd ((failed_not f.0).stopped e);
      failed = λ e. ap (λ x. x.input) f.1;
      on = λ e. absurd (off e);
    }
    turn-ends (inr c) off = record {
      over = λ e. (_, (came_off out m then c off).0);
      stopped = λ e. let w = came_off out m then c off in (_, w.0, w.1);
      failed = λ e. never_failed (one out m then c).ending (sym c.ran.going ∙ e);
      on = λ e. absurd (off e);
    }

  -- turns are used up
  pub waits-last : 2 ^ 64 - 1 ≤ length s → now.going ≡ Going.On → Turns buffer l now
  waits-last h e = record {
    over = on_not_over e;
    stopped = on_not_stopped e;
    failed = λ f. absurd ((failed_not f).on e);
    on = λ e. w.done.all ∙ up-most (length s) h;
  }

-- Nothing can be printed before the first read.
unread-feed : (s : List ℕ) → 0 ≡ up 0 (length s) → (run_over s false fresh).ending ≡ Ending.Stopped → ⊥
unfolding run_from next_of
unread-feed [] h e = let z : ◌≡◌ {A = ℕ} 0 1 = cc in omega arith
unread-feed (x ∷ s) h e =
    test (leb (2 ^ 64) (suc (length s)))
    (λ t. let w = up-high 0 (suc (length s)) (omega (arith, leb-true (2 ^ 64) (suc (length s)) t)) in omega arith)
    (λ f. let w = up-low 0 (suc (length s)) (omega (arith, leb-false (2 ^ 64) (suc (length s)) f)) in omega arith)

pub unread-none : (feed : List ℕ) (now : Turn) → now.reads ≡ unread → AllCame feed now → ⊥
unread-none feed now u w =
    ⊎_elim (λ e. on_not_over (ap (λ x. x.input) u) e) (unread-feed feed (sym (ap (λ x. x.octets) u) ∙ w.many)) w.whole
