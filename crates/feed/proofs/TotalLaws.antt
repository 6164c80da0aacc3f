-- Counts that go up to 2^64 - 1 and stay there, and the totals made of them. Assumes nothing.
use mathlib.Core.List.{List, [], ◌∷◌}
use mathlib.Core.Path.{◌≡◌, sym, ap, ◌∙◌}
use Prim.Native.Nat.{ℕ, ◌+◌, ◌-◌, ◌≤◌, ◌<◌, ◌^◌}
use native.Mathlib.Nat.{add-zero, add_assoc}
use native.Mathlib.Omega.{arith}
use borrow.Author.Tests.{leb-true, leb-false, le-leb, lt-leb}
use lib.Dec.{leb, eqb}
use Rattle.octets.specs.Choice.{pick}
use Rattle.octets.specs.Refusals.{not_statistics, no_room, life_passes}
use Rattle.octets.proofs.Cases.{test}
use Rattle.rows.specs.Order.{times}
use Rattle.feed.specs.Totals.{up, answered_one, block_done, accepted_one}
use Rattle.feed.specs.declared.totals.Totals.{Totals}

-- A count that goes up

-- a sum below 2^64 is the count
pub up-low : (n k : ℕ) → n + k < 2 ^ 64 → up n k ≡ n + k
up-low n k h = rw (lt-leb (2 ^ 64) (n + k) h)

-- from there on it is 2^64 - 1
pub up-high : (n k : ℕ) → 2 ^ 64 ≤ n + k → up n k ≡ 2 ^ 64 - 1
up-high n k h = rw (le-leb (2 ^ 64) (n + k) h)

-- there are these two cases
up_cases : {P : Type 0} (n k : ℕ) → (n + k < 2 ^ 64 → P) → (2 ^ 64 ≤ n + k → P) → P
up_cases n k low high =
    test (leb (2 ^ 64) (n + k)) (λ t. high (leb-true (2 ^ 64) (n + k) t)) (λ f. low (leb-false (2 ^ 64) (n + k) f))

-- a count has 64 bits
pub up_fits : (n k : ℕ) → up n k < 2 ^ 64
up_fits n k = up_cases n k (λ h. rw (up-low n k h) h) (λ h. rw (up-high n k h) (omega arith))

-- one that has reached 2^64 - 1 stays
up-full : (k : ℕ) → up (2 ^ 64 - 1) k ≡ 2 ^ 64 - 1
up-full k = up_cases (2 ^ 64 - 1) k (λ h. up-low (2 ^ 64 - 1) k h ∙ omega arith) (up-high (2 ^ 64 - 1) k)

-- up by one number and by another is up by their sum
pub up_up : (n a b : ℕ) → up (up n a) b ≡ up n (a + b)
up_up n a b =
    up_cases n a
    (λ h. rw (up-low n a h) (ap (λ m. pick (leb (2 ^ 64) m) (2 ^ 64 - 1) m) (add_assoc n a b)))
    (λ h. ap (λ m. up m b) (up-high n a h) ∙ up-full b ∙ sym (up-high n (a + b) (omega arith)))

-- and it is the same to add the two up first
pub up-sum : (n a b : ℕ) → up n (up a b) ≡ up n (a + b)
up-sum n a b =
    up_cases a b (λ h. ap (up n) (up-low a b h))
    (λ h. ap (up n) (up-high a b h) ∙ up_cases n (2 ^ 64 - 1) (λ l. up-low n (2 ^ 64 - 1) l ∙ omega arith) (up-high n (2 ^ 64 - 1))
    ∙ sym (up-high n (a + b) (omega arith)))

-- up by none
pub up_none : (n : ℕ) → n < 2 ^ 64 → up n 0 ≡ n
up_none n h = up-low n 0 (omega arith) ∙ add-zero n

-- Answers counted: in front of others a number stands there so often more
times_split : (k n : ℕ) (ns : List ℕ) → times k (n ∷ ns) ≡ times k (n ∷ []) + times k ns
unfolding times
times_split k n ns = test (eqb n k) (λ t. rw t (omega arith)) (λ f. rw f (omega arith))

-- The totals

abbrev pub totals : ℕ → ℕ → ℕ → ℕ → Totals
totals a r p u = record { accepted = a; refused = r; posted = p; unposted = u }

-- the counts of records have 64 bits
pub record Small (t : Totals) : Type 0 where
  pub posted : t.posted < 2 ^ 64
  pub unposted : t.unposted < 2 ^ 64

-- One answer
module _ (t : Totals) (n : ℕ) where
  -- the counts have 64 bits then
  pub answered-small : Small (answered_one t n)
  answered-small = record {
    posted = up_fits t.posted (times 0 (n ∷ []));
    unposted = up_fits t.unposted (times no_room (n ∷ []) + times life_passes (n ∷ []));
  }

  -- a block's answers: the first, and then the others
  pub answered-more : (ns : List ℕ) → accepted_one (answered_one t n) ns ≡ accepted_one t (n ∷ ns)
  answered-more ns p =
      let zero = sym (times_split 0 n ns) in
      let others : times no_room (n ∷ []) + times life_passes (n ∷ []) + (times no_room ns + times life_passes ns)
      ≡ times no_room (n ∷ ns) + times life_passes (n ∷ ns) = omega (arith, times_split no_room n ns, times_split life_passes n ns) in
      totals (up t.accepted 1) t.refused ((up_up t.posted (times 0 (n ∷ [])) (times 0 ns) ∙ ap (up t.posted) zero) p)
      ((up_up t.unposted (times no_room (n ∷ []) + times life_passes (n ∷ [])) (times no_room ns + times life_passes ns)
      ∙ ap (up t.unposted) others) p)

-- 13 is not counted
pub uncounted : (t : Totals) → Small t → t ≡ answered_one t not_statistics
unfolding times
uncounted t s p = totals t.accepted t.refused (sym (up_none t.posted s.posted) p) (sym (up_none t.unposted s.unposted) p)

-- none
pub answered-none : (t : Totals) → Small t → accepted_one t [] ≡ block_done t
unfolding times
answered-none t s p = totals (up t.accepted 1) t.refused (up_none t.posted s.posted p) (up_none t.unposted s.unposted p)
