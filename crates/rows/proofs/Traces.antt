-- Events in another order: if it makes no difference which of two events that do not clash comes first, then every order in which those
-- that clash keep theirs ends in the same state and tells each event the same answer. Nothing here knows of ledgers. Assumes nothing.
use mathlib.Core.Bool.{true, false}
use mathlib.Core.List.{List, [], ◌∷◌, map}
use mathlib.Core.Path.{◌≡◌, refl, ap, sym, ◌∙◌, subst}
use Prim.Native.Nat.{ℕ, ◌≤◌, ◌<◌}
use native.Mathlib.Omega.{arith}
use lib.Dec.{ltb, eqb}
use lib.ListN.{get_or}
use borrow.Author.Tests.{eq-eqb, ne_eqb, eqb-true, eqb-false}
use Rattle.octets.specs.Choice.{pick}
use Rattle.octets.proofs.Cases.{test}
use Rattle.rows.specs.Order.{times, place, upto}
use Rattle.rows.proofs.Numbers.{times-head, times_tail, times_more, place-head, place_tail, empty, map_same}
use Rattle.rows.proofs.Numbers.{without, times-own, times-other, place_other, times-upto, within-upto, place-upto, at-upto}

-- An event is a number. It takes a state to the next, and is told an answer.

module _ {S : Type 0} (step : S → ℕ → S) where
  -- the state at the end
  unfoldable pub ends : S → List ℕ → S
  ends m [] = m
  ends m (i ∷ l) = ends (step m i) l

module _ {S A : Type 0} (step : S → ℕ → S) (tell : S → ℕ → A) where
  -- the answers in turn
  unfoldable pub says : S → List ℕ → List A
  says m [] = []
  says m (i ∷ l) = tell m i ∷ says (step m i) l

-- two orders of the same numbers, each once, in which any two that clash stand in the same order
record Reordered (Clash : ℕ → ℕ → Type 0) (a b : List ℕ) : Type 0 where
  single : (i : ℕ) → times i a ≤ 1
  same : (i : ℕ) → times i b ≡ times i a
  keeps : (i j : ℕ) → 1 ≤ times i a → 1 ≤ times j a → place i a < place j a → Clash i j → place i b < place j b

module _ {S A : Type 0} (step : S → ℕ → S) (tell : S → ℕ → A) (d : A) where
  -- what event i is told, the first time that it comes
  unfoldable told : S → List ℕ → ℕ → A
  told m [] i = d
  told m (s ∷ l) i = pick (eqb s i) (tell m s) (told (step m s) l i)

  -- where each comes once, the answers in turn are what each is told
  says-told : (m : S) (l : List ℕ) → ((i : ℕ) → times i l ≤ 1) → says step tell m l ≡ map (told m l) l
  unfolding says told
  says-told m [] h = refl
  says-told m (s ∷ l) h =
      λ j. head j ∷ (says-told (step m s) l rest ∙ map_same (told (step m s) l) (told m (s ∷ l)) l (λ i o. rw (ne_eqb s i (away i o)))) j
    where
      head : tell m s ≡ told m (s ∷ l) s
      head = rw (eq-eqb s s refl)

      rest : (i : ℕ) → times i l ≤ 1
      rest i = omega (arith, h i, times_more s i l)

      away : (i : ℕ) → 1 ≤ times i l → s ≡ i → ⊥
      away i o e = let q = ap (λ k. times k l) e in omega (arith, h s, times-head s l)

  module _ (Clash : ℕ → ℕ → Type 0) (both_ways : (i j : ℕ) → Clash i j → Clash j i)
      (commute : (m : S) (i j : ℕ) → (Clash i j → ⊥) → step (step m i) j ≡ step (step m j) i)
      (unmoved : (m : S) (i j : ℕ) → (Clash i j → ⊥) → tell (step m j) i ≡ tell m i) where
    -- t clashes with none before it
    abbrev Free : ℕ → List ℕ → Type 0
    Free t l = (i : ℕ) → 1 ≤ times i l → place i l < place t l → Clash i t → ⊥

    -- it makes no difference whether t comes first
    record First (m : S) (l : List ℕ) (t : ℕ) : Type 0 where
      ending : ends step m l ≡ ends step m (t ∷ without t l)
      telling : (i : ℕ) → told m l i ≡ told m (t ∷ without t l) i

    -- t comes first already
    here : (m : S) (s : ℕ) (l : List ℕ) (t : ℕ) → eqb s t ≡ true → First m (s ∷ l) t
    unfolding without
    here m s l t y = record { ending = rw (y, ← (eqb-true s t y)); telling = λ i. rw (y, ← (eqb-true s t y)) }

    -- t may come first after s, and changes places with s
    later : (m : S) (s : ℕ) (l : List ℕ) (t : ℕ) → eqb s t ≡ false → (Clash s t → ⊥) → First (step m s) l t → First m (s ∷ l) t
    unfolding without ends told
    later m s l t n apart c =
        let swap = commute m s t apart in
        let still = unmoved m t s (λ h. apart (both_ways t s h)) in
        record {
          ending = rw n (c.ending ∙ ap (λ k. ends step k (without t l)) swap);
          telling = λ i. rw n (test (eqb s i)
              (λ y. let w : eqb t i ≡ false = ne_eqb t i (λ e. eqb-false s t n (eqb-true s i y ∙ sym e)) in rw (y, w) (sym (unmoved m s t apart)))
              (λ z. rw z (c.telling i ∙ λ j. pick (eqb t i) (still j) (told (swap j) (without t l) i))));
        }

    -- so an event that clashes with none before it may as well come first
    first : (m : S) (l : List ℕ) (t : ℕ) → 1 ≤ times t l → Free t l → First m l t
    unfolding times place
    first m [] t h free = absurd (omega arith)
    first m (s ∷ l) t h free =
        test (eqb s t) (here m s l t)
        (λ n. later m s l t n (free s (omega (arith, times-head s l)) (rw (eq-eqb s s refl, n) (omega arith)))
        (first (step m s) l t (rw n at h)
        (λ i o p. free i (omega (arith, times_more s i l)) (rw n (test (eqb s i) (λ y. rw y (omega arith)) (λ z. rw z (omega arith)))))))

    -- The first event of one order may come first in the other too, and the rest are reordered

    module _ (t : ℕ) (a b : List ℕ) (r : Reordered Clash (t ∷ a) b) where
      -- it is in the other order
      in_other : 1 ≤ times t b
      in_other = omega (arith, r.same t, times-head t a)

      -- what clashes with it comes after it there
      free : Free t b
      free i o p s =
          let n : t ≡ i → ⊥ = λ e. let q = ap (λ k. place k b) e in omega arith in
          let before : place t (t ∷ a) < place i (t ∷ a) = omega (arith, place-head t a, place_tail t i a n) in
          omega (arith, r.keeps t i (omega (arith, times-head t a)) (omega (arith, r.same i)) before (both_ways i t s))

      -- it is none of the rest
      inside : (i : ℕ) → 1 ≤ times i a → t ≡ i → ⊥
      inside i o e = let q = ap (λ k. times k a) e in omega (arith, r.single t, times-head t a)

      -- the rest are reordered
      rest : Reordered Clash a (without t b)
      rest = record {
        single = λ i. omega (arith, r.single i, times_more t i a);
        same = λ i. test (eqb t i)
            (λ y. subst (λ k. times k (without t b) ≡ times k a) (eqb-true t i y)
            (omega (arith, times-own t b in_other, r.same t, times-head t a)))
            (λ n. times-other t i b (eqb-false t i n) ∙ r.same i ∙ times_tail t i a (eqb-false t i n));
        keeps = λ i j o p l s.
            let ni = inside i o in
            let nj = inside j p in
            let before : place i (t ∷ a) < place j (t ∷ a) = omega (arith, place_tail t i a ni, place_tail t j a nj) in
            place_other t i j b ni nj (r.keeps i j (omega (arith, times_more t i a)) (omega (arith, times_more t j a)) before s);
      }

    -- so both orders end in one state, and tell each event one answer
    both : (m : S) (a b : List ℕ) → Reordered Clash a b → (ends step m b ≡ ends step m a) × ((i : ℕ) → told m b i ≡ told m a i)
    unfolding times ends told
    both m [] b r = let e : b ≡ [] = empty b r.same in (ap (ends step m) e, λ i. ap (λ l. told m l i) e)
    both m (t ∷ a) b r =
        let c : First m b t = first m b t (in_other t a b r) (free t a b r) in
        let q = both (step m t) a (without t b) (rest t a b r) in
        (c.ending ∙ q.0, λ i. c.telling i ∙ ap (pick (eqb t i) (tell m t)) (q.1 i))

    -- the events 0 1 2 .. below n, in another order
    pub reorder : (m : S) (n : ℕ) (l : List ℕ) → ((i : ℕ) → times i l ≡ pick (ltb i n) 1 0)
        → ((i j : ℕ) → i < j → j < n → Clash i j → place i l < place j l)
        → (says step tell m l ≡ map (λ i. get_or (says step tell m (upto n)) i d) l) × (ends step m l ≡ ends step m (upto n))
    reorder m n l once keeps = (
      says-told m l (λ i. omega (arith, r.same i, r.single i)) ∙ map_same _ _ l each,
      alike.0,
    )
      where
        r : Reordered Clash (upto n) l
        r = record {
          single = λ i. rw (times-upto i n) (test (ltb i n) (λ y. rw y (omega arith)) (λ f. rw f (omega arith)));
          same = λ i. once i ∙ sym (times-upto i n);
          keeps = λ i j p q h s.
              let il = within-upto i n p in
              let jl = within-upto j n q in
              keeps i j (omega (arith, place-upto i n il, place-upto j n jl)) jl s;
        }

        alike : (ends step m l ≡ ends step m (upto n)) × ((i : ℕ) → told m l i ≡ told m (upto n) i)
        alike = both m (upto n) l r

        each : (i : ℕ) → 1 ≤ times i l → told m l i ≡ get_or (says step tell m (upto n)) i d
        each i p =
            alike.1 i
            ∙ sym (ap (λ t. get_or t i d) (says-told m (upto n) r.single)
            ∙ at-upto (told m (upto n)) d i n (within-upto i n (omega (arith, r.same i))))
