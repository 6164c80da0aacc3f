-- Lists of numbers: how often and where a number stands, a list with one number taken out, and the list 0 1 2 .. Assumes nothing.
use mathlib.Core.Bool.{false}
use mathlib.Core.List.{List, [], ◌∷◌, map}
use mathlib.Core.Path.{◌≡◌, refl, ap, sym, ◌∙◌}
use Prim.Native.Nat.{ℕ, zero, suc, ◌≤◌, ◌<◌}
use native.Mathlib.Omega.{arith}
use lib.Dec.{ltb, eqb, leb-suc-suc, leb-zero, leb-suc-zero, eqb-zero-suc, eqb-suc-zero, eqb-suc-suc}
use lib.ListN.{length, get_or}
use borrow.Author.Tests.{eq-eqb, ne_eqb, eqb-true, ltb-true}
use Rattle.octets.specs.Choice.{pick}
use Rattle.octets.proofs.Cases.{test}
use Rattle.rows.specs.Order.{times, place, upto}

-- A number t put in front of a list

-- t stands there once more
pub times-head : (t : ℕ) (l : List ℕ) → times t (t ∷ l) ≡ suc (times t l)
unfolding times
times-head t l = rw (eq-eqb t t refl)

-- any other number as often as before
pub times_tail : (t i : ℕ) (l : List ℕ) → (t ≡ i → ⊥) → times i (t ∷ l) ≡ times i l
unfolding times
times_tail t i l n = rw (ne_eqb t i n)

-- so none stands there less often
pub times_more : (t i : ℕ) (l : List ℕ) → times i l ≤ times i (t ∷ l)
unfolding times
times_more t i l = test (eqb t i) (λ y. rw y (omega arith)) (λ z. rw z (omega arith))

-- the place of t is the first
pub place-head : (t : ℕ) (l : List ℕ) → place t (t ∷ l) ≡ 0
unfolding place
place-head t l = rw (eq-eqb t t refl)

-- any other number's is one further on
pub place_tail : (t i : ℕ) (l : List ℕ) → (t ≡ i → ⊥) → place i (t ∷ l) ≡ suc (place i l)
unfolding place
place_tail t i l n = rw (ne_eqb t i n)

-- a list in which no number stands is empty
pub empty : (l : List ℕ) → ((i : ℕ) → times i l ≡ 0) → l ≡ []
empty [] h = refl
empty (s ∷ l) h = absurd (omega (arith, h s, times-head s l))

-- maps that agree on the numbers of a list
pub map_same : {A : Type 0} (g h : ℕ → A) (l : List ℕ) → ((i : ℕ) → 1 ≤ times i l → g i ≡ h i) → map g l ≡ map h l
map_same g h [] e = refl
map_same g h (s ∷ l) e =
    λ j. e s (omega (arith, times-head s l)) j ∷ map_same g h l (λ i o. e i (omega (arith, times_more s i l))) j

-- a map after a map is one map
pub map-twice : {A B : Type 0} (f : A → B) (g : ℕ → A) (l : List ℕ) → map f (map g l) ≡ map (λ i. f (g i)) l
map-twice f g [] = refl
map-twice f g (i ∷ l) = ap (λ t. f (g i) ∷ t) (map-twice f g l)

-- A number t taken out of a list

-- a list without its first t
unfoldable pub without : ℕ → List ℕ → List ℕ
without t [] = []
without t (s ∷ l) = pick (eqb s t) l (s ∷ without t l)

-- t stands there once less
pub times-own : (t : ℕ) (l : List ℕ) → 1 ≤ times t l → times t l ≡ suc (times t (without t l))
unfolding times without
times-own t [] h = absurd (omega arith)
times-own t (s ∷ l) h = test (eqb s t) (λ y. rw y) (λ n. rw (n, n) (times-own t l (rw n at h)))

-- any other number as often as before
pub times-other : (t i : ℕ) (l : List ℕ) → (t ≡ i → ⊥) → times i (without t l) ≡ times i l
unfolding times without
times-other t i [] n = refl
times-other t i (s ∷ l) n =
    test (eqb s t) (λ y. rw (y, ne_eqb s i (λ e. n (sym (eqb-true s t y) ∙ e))))
    (λ z. rw z (ap (λ k. pick (eqb s i) (suc k) k) (times-other t i l n)))

-- any two others stand in the same order
pub place_other : (t i j : ℕ) (l : List ℕ) → (t ≡ i → ⊥) → (t ≡ j → ⊥)
    → place i l < place j l → place i (without t l) < place j (without t l)
unfolding place without
place_other t i j [] n o h = h
place_other t i j (s ∷ l) n o h =
    test (eqb s t)
    (λ y. let ni : eqb s i ≡ false = ne_eqb s i (λ e. n (sym (eqb-true s t y) ∙ e)) in
    let nj : eqb s j ≡ false = ne_eqb s j (λ e. o (sym (eqb-true s t y) ∙ e)) in
    rw y (let g = rw (ni, nj) at h in omega arith))
    (λ z. rw z (test (eqb s j) (λ y. let g = rw y at h in absurd (omega arith))
    (λ nj. test (eqb s i) (λ y. rw (y, nj) (omega arith))
    (λ ni. let g = place_other t i j l n o (let k = rw (ni, nj) at h in omega arith) in rw (ni, nj) (omega arith)))))

-- The numbers below n

-- 0 is no successor
times_zero : (l : List ℕ) → times 0 (map suc l) ≡ 0
unfolding times
times_zero [] = refl
times_zero (s ∷ l) = rw (eqb-suc-zero s) (times_zero l)

-- a successor stands among successors as often as its number among theirs
times-suc : (i : ℕ) (l : List ℕ) → times (suc i) (map suc l) ≡ times i l
unfolding times
times-suc i [] = refl
times-suc i (s ∷ l) = rw (eqb-suc-suc s i) (ap (λ k. pick (eqb s i) (suc k) k) (times-suc i l))

-- and it has the same place
place-suc : (i : ℕ) (l : List ℕ) → place (suc i) (map suc l) ≡ place i l
unfolding place
place-suc i [] = refl
place-suc i (s ∷ l) = rw (eqb-suc-suc s i) (ap (λ k. pick (eqb s i) 0 (suc k)) (place-suc i l))

-- each number below n stands there once, and no other does
pub times-upto : (i n : ℕ) → times i (upto n) ≡ pick (ltb i n) 1 0
unfolding upto times
times-upto i zero = rw (leb-suc-zero i)
times-upto zero (suc n) = rw (leb-suc-suc 0 n, leb-zero n) (ap suc (times_zero (upto n)))
times-upto (suc i) (suc n) = rw (eqb-zero-suc i, leb-suc-suc (suc i) n) (times-suc i (upto n) ∙ times-upto i n)

-- what stands there is below n
pub within-upto : (i n : ℕ) → 1 ≤ times i (upto n) → i < n
within-upto i n p =
    let q = rw (times-upto i n) at p in
    test (ltb i n) (ltb-true i n) (λ f. absurd (let z = rw f at q in omega arith))

-- its place is its own number
pub place-upto : (i n : ℕ) → i < n → place i (upto n) ≡ i
unfolding upto place
place-upto i zero h = absurd (omega arith)
place-upto zero (suc n) h = refl
place-upto (suc i) (suc n) h = rw (eqb-zero-suc i) (ap suc (place-suc i (upto n) ∙ place-upto i n (omega arith)))

-- a list read at 0 1 2 .. is that list
pub read-upto : {A : Type 0} (l : List A) (d : A) → map (λ i. get_or l i d) (upto (length l)) ≡ l
unfolding upto
read-upto [] d = refl
read-upto (x ∷ l) d = ap (λ t. x ∷ t) (map-twice (λ i. get_or (x ∷ l) i d) suc (upto (length l)) ∙ read-upto l d)

-- a map over 0 1 2 .. read at i is its value at i
pub at-upto : {A : Type 0} (g : ℕ → A) (d : A) (i n : ℕ) → i < n → get_or (map g (upto n)) i d ≡ g i
unfolding upto
at-upto g d i zero h = absurd (omega arith)
at-upto g d zero (suc n) h = refl
at-upto g d (suc i) (suc n) h = ap (λ l. get_or l i d) (map-twice g suc (upto n)) ∙ at-upto (λ j. g (suc j)) d i n (omega arith)
