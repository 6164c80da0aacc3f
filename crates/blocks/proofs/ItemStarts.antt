-- Where the items of a record start: each where those before it end. Assumes nothing.
use mathlib.Core.Path.{◌≡◌, refl, sym, ◌∙◌, subst}
use mathlib.Core.List.{List, [], ◌∷◌}
use mathlib.Core.Bool.{Bool, true, false, false≢true}
use Prim.Native.Nat.{ℕ, zero, suc, ◌<◌, ◌≤◌}
use native.Mathlib.Omega.{arith}
use lib.ListN.{length, get_or}
use Rattle.octets.specs.Choice.{pick}
use Rattle.layouts.specs.Formats.{Parsed, refused, got, Format, done, Trace, fits_in}
use Rattle.layouts.specs.Offsets.{run_at, item_at}
use Rattle.layouts.specs.Layouts.{format}
use Rattle.layouts.specs.Ends.{end_of}
use Rattle.layouts.specs.Tables.{layout}
use Rattle.layouts.specs.End.{At, Refused}
use Rattle.layouts.specs.declared.form.Form.{Form}
use Rattle.layouts.proofs.Parsed.{through}
use Rattle.layouts.proofs.Alike.{item_alike_at}
use Rattle.layouts.specs.Alike.{SameBefore}
use Rattle.layouts.proofs.Before.{run-before}
use Rattle.blocks.specs.Records.{formats}
use Rattle.blocks.specs.Offsets.{items_at}
use Rattle.blocks.specs.Alike.{IfGot, AllAlikeAt}
use Rattle.blocks.specs.Typed.{stop_of, start_in}
use Rattle.blocks.proofs.WalkSteps.{item-run}

-- a marked field's format is that of its form, a field's that is not marked has no octets
pub formats-at : (bs : List Bool) (fs : List Form) (n : ℕ) → (get_or bs n false ≡ true → n < length fs)
    → get_or (formats bs fs) n done ≡ pick (get_or bs n false) (format (layout (get_or fs n Form.Spare))) done
unfolding formats
formats-at [] fs n h = refl
formats-at (b ∷ bs) [] n h = go (get_or (b ∷ bs) n false) h
  where
    go : (x : Bool) → (x ≡ true → n < 0) → done ≡ pick x (format (layout Form.Spare)) done
    go true h = absurd (omega (arith, h refl))
    go false h = refl
formats-at (b ∷ bs) (f ∷ fs) zero h = refl
formats-at (b ∷ bs) (f ∷ fs) (suc n) h = formats-at bs fs n (λ e. omega (arith, h e))

-- there are no more formats than fields
pub formats-few : (bs : List Bool) (fs : List Form) → length (formats bs fs) ≤ length fs
unfolding formats
formats-few [] fs = omega arith
formats-few (b ∷ bs) [] = omega arith
formats-few (b ∷ bs) (f ∷ fs) = omega (arith, formats-few bs fs)

module _ (s : List ℕ) (len : ℕ) where
  none-start : (at n : ℕ) → start_in s len [] at n ≡ at
  unfolding start_in
  none-start at zero = refl
  none-start at (suc n) = refl

  pub first-start : (fs : List Format) (at : ℕ) → start_in s len fs at 0 ≡ at
  unfolding start_in
  first-start fs at = refl

  -- the next one starts where it ends
  pub start-next : (fs : List Format) (at n : ℕ)
      → start_in s len fs at (suc n) ≡ stop_of (start_in s len fs at n) (run_at s len (get_or fs n done) (start_in s len fs at n))
  unfolding start_in run_at
  start-next [] at n = rw (none-start at n, none-start at (suc n))
  start-next (f ∷ fs) at zero = refl
  start-next (f ∷ fs) at (suc n) = start-next fs (stop_of at (run_at s len f at)) n

  -- where the item of a marked field stops; past the last field there is none, and a spare one has none
  pub stop-marked : (bs : List Bool) (fs : List Form) (n at : ℕ) → get_or bs n false ≡ true
      → stop_of at (run_at s len (get_or (formats bs fs) n done) at) ≡ stop_of at (run_at s len (format (layout (get_or fs n Form.Spare))) at)
  unfolding formats format run_at
  stop-marked [] fs n at e = absurd (false≢true e)
  stop-marked (b ∷ bs) [] n at e = refl
  stop-marked (b ∷ bs) (f ∷ fs) zero at e = rw e
  stop-marked (b ∷ bs) (f ∷ fs) (suc n) at e = stop-marked bs fs n at e

  -- item n is read where it starts, to where the next one starts
  abbrev There : List Format → ℕ → List Trace → ℕ → Type 0
  There fs at trs n = item_at s len (get_or fs n done) (start_in s len fs at n) ≡ got (get_or trs n []) (start_in s len fs at (suc n))

  none-there : (at n : ℕ) → There [] at [] n
  unfolding item_at run_at fits_in
  none-there at n = rw (none-start at n, none-start at (suc n))

  next-there : (f : Format) (fs : List Format) (at : ℕ) (tr : Trace) (p : ℕ) (trs : List Trace) → item_at s len f at ≡ got tr p
      → ((n : ℕ) → There fs p trs n) → (n : ℕ) → There (f ∷ fs) at (tr ∷ trs) n
  unfolding start_in
  next-there f fs at tr p trs e others zero = e ∙ rw (item-run s len f at p tr e)
  next-there f fs at tr p trs e others (suc n) = rw (item-run s len f at p tr e) (others n)

  pub items-there : (fs : List Format) (at q : ℕ) (trs : List Trace) → items_at s len fs at ≡ got trs q → (n : ℕ) → There fs at trs n
  unfolding items_at
  items-there [] at q trs h n = let is : [] ≡ trs = cc in rw (← is) (none-there at n)
  items-there (f ∷ fs) at q trs h n =
      let (tr, p, e, h') = through (item_at s len f at) h in
      let (trs', q', e', last) = through (items_at s len fs p) h' in
      let is : tr ∷ trs' ≡ trs = cc in
      rw (← is) (next-there f fs at tr p trs' e (items-there fs p q' trs' e') n)

  -- behind the last item is where they were read to
  pub items-end : (fs : List Format) (at q : ℕ) (trs : List Trace) → items_at s len fs at ≡ got trs q → (n : ℕ) → length fs ≤ n
      → start_in s len fs at n ≡ q
  unfolding items_at start_in
  items-end [] at q trs h n l = none-start at n ∙ cc
  items-end (f ∷ fs) at q trs h zero l = absurd (omega arith)
  items-end (f ∷ fs) at q trs h (suc n) l =
      let (tr, p, e, h') = through (item_at s len f at) h in
      let (trs', q', e', last) = through (items_at s len fs p) h' in
      let same : q' ≡ q = cc in
      rw (item-run s len f at p tr e) (items-end fs p q' trs' e' n (omega arith) ∙ same)

-- Octets before the block's end that are the same, or that differ only in spare bits, have items at the same starts
module _ (len : ℕ) (s t : List ℕ) where
  pub start-before : SameBefore len s t → (fs : List Format) (at n : ℕ) → start_in s len fs at n ≡ start_in t len fs at n
  unfolding start_in
  start-before same fs at zero = refl
  start-before same [] at (suc n) = refl
  start-before same (f ∷ fs) at (suc n) = rw (run-before len s t same f at, start-before same fs (stop_of at (run_at t len f at)) n)

  pub start-alike : (fs : List Format) (at q : ℕ) (trs : List Trace) → AllAlikeAt s t len fs at → items_at s len fs at ≡ got trs q
      → (n : ℕ) → start_in s len fs at n ≡ start_in t len fs at n
  unfolding items_at start_in
  start-alike fs at q trs a h zero = refl
  start-alike [] at q trs a h (suc n) = refl
  start-alike (f ∷ fs) at q trs a h (suc n) =
      let (tr, p, e, h') = through (item_at s len f at) h in
      let (trs', q', e', last) = through (items_at s len fs p) h' in
      let there : item_at t len f at ≡ got tr p = sym (item_alike_at s t len f at a.0) ∙ e in
      let rest : AllAlikeAt s t len fs p = subst (λ (m : Parsed ℕ Trace). IfGot m (λ tr q. AllAlikeAt s t len fs q)) e a.1 in
      rw (item-run s len f at p tr e, item-run t len f at p tr there) (start-alike fs p q' trs' rest e' n)

-- where an item stops, by its end
pub stop-at : {A : Type 0} (at q : ℕ) (m : Parsed ℕ A) → end_of m ≡ At q → q ≡ stop_of at m
stop-at at q (refused n) h = let z : ◌≡◌ {A = ℕ} 0 1 = cc in absurd (omega arith)
stop-at at q (got a p) h = cc

pub stop-refused : {A : Type 0} (at n : ℕ) (m : Parsed ℕ A) → end_of m ≡ Refused n → at ≡ stop_of at m
stop-refused at n (refused m) h = refl
stop-refused at n (got a p) h = let z : ◌≡◌ {A = ℕ} 0 1 = cc in absurd (omega arith)
