-- A ledger with room for all is a map from keys to rows. What a report does there touches only the keys that it names, and rests only on
-- their rows; so reports that share no counter may change places, and a run may come in another order. Assumes nothing.
use mathlib.Core.Bool.{Bool, true, false, ◌||◌, or-true}
use mathlib.Core.List.{List, [], ◌∷◌}
use mathlib.Core.Option.{Option, some}
use mathlib.Core.Path.{◌≡◌, refl, ap, sym, ◌∙◌, fun_ext}
use Prim.Native.Nat.{ℕ, ◌^◌}
use lib.Dec.{leb, eqb}
use lib.ListN.{length}
use borrow.Author.Tests.{eq-eqb}
use Rattle.octets.specs.Choice.{pick}
use Rattle.octets.specs.Refusals.{life_passes}
use Rattle.octets.proofs.Cases.{test, neither}
use Rattle.rows.specs.Rows.{Row, Entry, life_of, or_new}
use Rattle.rows.specs.Posting.{Report, refused, counts, entries, names, of_key, tally}
use Rattle.rows.specs.Order.{Shares, report, Order, answers_in_order, upto}
use Rattle.rows.proofs.Traces.{ends, says, reorder}

-- the row of each key, if there is one
abbrev pub Map : Type 0
Map = ℕ → Option Row

-- two maps have the same rows for the keys that entries name
abbrev Agree : Map → Map → List Entry → Type 0
Agree m n es = (k : ℕ) → names k es ≡ true → m k ≡ n k

-- a key that entries do not name has none of them
none_of : (k : ℕ) (es : List Entry) → names k es ≡ false → of_key k es ≡ []
unfolding names of_key
none_of k [] h = refl
none_of k (e ∷ es) h = let w = neither (eqb e.key k) (names k es) h in rw w.0 (none_of k es w.1)

module _ (rule : Row → Entry → Row) where
  -- an entry put into a map
  unfoldable pub put : Map → Entry → Map
  put m e k = pick (eqb e.key k) (some (rule (or_new k (m k)) e)) (m k)

  -- whether a life count would pass, entry by entry
  unfoldable pub passes_map : Map → List Entry → Bool
  passes_map m [] = false
  passes_map m (e ∷ es) = leb (2 ^ 64) (life_of (put m e e.key)) || passes_map (put m e) es

  -- entries in turn, key by key
  unfoldable pub tallies : Map → List Entry → Map
  tallies m es k = tally rule k (m k) (of_key k es)

  -- what a report is answered
  unfoldable pub refusal : Map → Report → ℕ
  refusal m (refused n) = n
  refusal m (counts es) = pick (passes_map m es) life_passes 0

  -- the map after it
  unfoldable pub next : Map → Report → Map
  next m (refused n) k = m k
  next m (counts es) k = pick (passes_map m es) (m k) (tallies m es k)

  -- a key that the report does not name keeps its row
  alone : (m : Map) (x : Report) (k : ℕ) → names k (entries x) ≡ false → next m x k ≡ m k
  unfolding next tallies tally
  alone m (refused n) k h = refl
  alone m (counts es) k h = test (passes_map m es) (λ t. rw t) (λ f. rw (f, none_of k es h))

  -- Where maps agree on the keys that are named, the report does the same

  -- an entry's row
  put_same : (m n : Map) (e : Entry) (k : ℕ) → m k ≡ n k → put m e k ≡ put n e k
  unfolding put
  put_same m n e k h = ap (λ row. pick (eqb e.key k) (some (rule (or_new k row) e)) row) h

  -- whether a life count would pass
  passes_same : (m n : Map) (es : List Entry) → Agree m n es → passes_map m es ≡ passes_map n es
  unfolding passes_map names
  passes_same m n [] a = refl
  passes_same m n (e ∷ es) a = λ i.
      leb (2 ^ 64) (life_of (put_same m n e e.key (a e.key (rw (eq-eqb e.key e.key refl))) i))
      || passes_same (put m e) (put n e) es (λ k h. put_same m n e k (a k (rw (h, or-true (eqb e.key k))))) i

  -- the answer
  refusal-same : (m n : Map) (x : Report) → Agree m n (entries x) → refusal m x ≡ refusal n x
  unfolding refusal
  refusal-same m n (refused c) a = refl
  refusal-same m n (counts es) a = ap (λ b. pick b life_passes 0) (passes_same m n es a)

  -- the row of any key on which they agree
  next-same : (m n : Map) (x : Report) → Agree m n (entries x) → (k : ℕ) → m k ≡ n k → next m x k ≡ next n x k
  unfolding next tallies
  next-same m n (refused c) a k h = h
  next-same m n (counts es) a k h = λ i. pick (passes_same m n es a i) (h i) (tally rule k (h i) (of_key k es))

  -- Two reports that share no counter

  module _ (m : Map) (x y : Report) (apart : Shares x y → ⊥) where
    -- a key that x names y does not name
    other : (k : ℕ) → names k (entries x) ≡ true → names k (entries y) ≡ false
    other k h = test (names k (entries y)) (λ t. absurd (apart (k, h, t))) (λ f. f)

    -- so after y, x finds its keys as they were
    untouched : Agree (next m y) m (entries x)
    untouched k h = alone m y k (other k h)

    -- it is answered as it would be before y
    refusal-apart : refusal (next m y) x ≡ refusal m x
    refusal-apart = refusal-same (next m y) m x untouched

    -- and does to its keys what it would do before y
    next-apart : (k : ℕ) → names k (entries x) ≡ true → next (next m y) x k ≡ next (next m x) y k
    next-apart k h = next-same (next m y) m x untouched k (untouched k h) ∙ sym (alone (next m x) y k (other k h))

  -- so the map after both is the same, whichever comes first
  commute : (m : Map) (x y : Report) → (Shares x y → ⊥) → next (next m x) y ≡ next (next m y) x
  commute m x y apart =
      fun_ext (λ k. test (names k (entries x)) (λ t. sym (next-apart m x y apart k t))
      (λ f. test (names k (entries y)) (λ t. next-apart m y x (λ s. apart (s.0, s.2, s.1)) k t)
      (λ g. alone (next m x) y k g ∙ alone m x k f ∙ sym (alone (next m y) x k f ∙ alone m y k g))))

  -- A run's reports in an order; an event is a report's place in the run

  -- the map after report i
  abbrev pub goes : List Report → Map → ℕ → Map
  goes rs m i = next m (report rs i)

  -- what report i is answered
  abbrev pub tells : List Report → Map → ℕ → ℕ
  tells rs m i = refusal m (report rs i)

  -- in another order, each gets the answer that it had, and the map ends the same
  pub map-order : (m : Map) (rs : List Report) (order : List ℕ) → Order rs order
      → (says (goes rs) (tells rs) m order ≡ answers_in_order order (says (goes rs) (tells rs) m (upto (length rs))))
      × (ends (goes rs) m order ≡ ends (goes rs) m (upto (length rs)))
  map-order m rs order o =
      reorder (goes rs) (tells rs) 0 (λ i j. Shares (report rs i) (report rs j)) (λ i j h. (h.0, h.2, h.1))
      (λ n i j. commute n (report rs i) (report rs j)) (λ n i j. refusal-apart n (report rs i) (report rs j)) m (length rs) order
      o.once o.keeps
