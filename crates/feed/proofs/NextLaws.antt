-- What octets begin with, by the case that a branch of the code is in; and what is known of a block. Assumes nothing.
use mathlib.Core.Bool.{Bool, true, false}
use mathlib.Core.List.{List}
use mathlib.Core.Path.{◌≡◌, refl, sym, ap, ◌∙◌, subst}
use Prim.Native.Nat.{ℕ, ◌≤◌, ◌<◌}
use borrow.Author.Tests.{ltb-true, ltb-false, lt-ltb, le-ltb}
use lib.Dec.{ltb, eqb}
use lib.ListN.{length}
use Rattle.octets.specs.Choice.{pick}
use Rattle.octets.specs.Numbers.{Octets}
use Rattle.octets.proofs.Cases.{test, choose}
use Rattle.blocks.specs.Walks.{read_of}
use Rattle.blocks.specs.Reading.{Reading}
use Rattle.blocks.specs.Reading as reading
use Rattle.blocks.proofs.HeaderLaws.{header-good}
use Rattle.blocks.proofs.TakenLaws.{accepted-head}
use Rattle.feed.specs.Blocks.{len_of, tally, judged_by, judged, next_of, listed_next, next_listed}
use Rattle.feed.specs.declared.run.Ending.{Ending}
use Rattle.feed.specs.declared.block.Next.{Next}
use Rattle.feed.specs.declared.block.Next.TheVariants as next

-- The cases

-- LEN octets are there, and LEN is 4 at least
pub record Whole (s : List ℕ) (len : ℕ) : Type 0 where
  pub is-len : len ≡ len_of s
  pub least : 4 ≤ len
  pub fits : len ≤ length s

module _ (s : List ℕ) (over : Bool) where
  -- fewer than 3 octets
  module _ (short : length s < 3) where
    pub next-few : over ≡ false → Next.Left Ending.More ≡ next_of s over
    unfolding next_of
    next-few e = rw (lt-ltb (length s) 3 short, e)

    pub next-ended : over ≡ true → eqb (length s) 0 ≡ true → Next.Left Ending.Ended ≡ next_of s over
    unfolding next_of
    next-ended e z = rw (lt-ltb (length s) 3 short, e, z)

    pub next-cut : over ≡ true → eqb (length s) 0 ≡ false → Next.Left Ending.Stopped ≡ next_of s over
    unfolding next_of
    next-cut e z = rw (lt-ltb (length s) 3 short, e, z)

  -- LEN is there
  module _ (long : 3 ≤ length s) (len : ℕ) (is : len ≡ len_of s) where
    pub next_low : len < 4 → Next.Left Ending.Stopped ≡ next_of s over
    unfolding next_of
    next_low h = rw (le-ltb (length s) 3 long, ← is, lt-ltb len 4 h)

    module _ (least : 4 ≤ len) where
      pub next-stopped : length s < len → over ≡ true → Next.Left Ending.Stopped ≡ next_of s over
      unfolding next_of
      next-stopped h e = rw (le-ltb (length s) 3 long, ← is, le-ltb len 4 least, lt-ltb (length s) len h, e)

      pub next_more : length s < len → over ≡ false → Next.Left Ending.More ≡ next_of s over
      unfolding next_of
      next_more h e = rw (le-ltb (length s) 3 long, ← is, le-ltb len 4 least, lt-ltb (length s) len h, e)

      pub next-judged : len ≤ length s → (r : Reading) → r ≡ read_of s → judged len r ≡ next_of s over
      unfolding next_of
      next-judged h r e = rw (le-ltb (length s) 3 long, ← is, le-ltb len 4 least, le-ltb (length s) len h, ← e)

  -- the definitions list the answer itself
  next-listed : listed_next (next_of s over) ≡ next_listed s over
  unfolding next_of next_listed
  next-listed =
      test (ltb (length s) 3)
      (λ a. rw a (test over (λ o. rw o (test (eqb (length s) 0) (λ z. rw z) (λ z. rw z))) (λ o. rw o)))
      (λ a. rw a (test (ltb (len_of s) 4) (λ b. rw b)
      (λ b. rw b (test (ltb (length s) (len_of s)) (λ d. rw d (test over (λ o. rw o) (λ o. rw o))) (λ d. rw d (listed (read_of s)))))))
    where
      listed : (r : Reading) → listed_next (judged (len_of s) r) ≡ judged_by (tally 1 0) (tally 0 1) (len_of s) r
      listed (reading.Accepted l n) = refl
      listed (reading.Refused n at) = refl

  -- an answer, and its numbers
  pub next-told : (r : Next) → r ≡ next_of s over → (r ≡ next_of s over) × (listed_next r ≡ next_listed s over)
  next-told r e = (e, ap listed_next e ∙ next-listed)

  -- test after test
  pub next_cases : (P : Next → Type 0)
      → (length s < 3 → P (pick over (pick (eqb (length s) 0) (Next.Left Ending.Ended) (Next.Left Ending.Stopped)) (Next.Left Ending.More)))
      → (3 ≤ length s → len_of s < 4 → P (Next.Left Ending.Stopped))
      → (length s < len_of s → P (pick over (Next.Left Ending.Stopped) (Next.Left Ending.More)))
      → (Whole s (len_of s) → P (judged (len_of s) (read_of s))) → P (next_of s over)
  unfolding next_of
  next_cases P short low cut whole =
      choose P (ltb (length s) 3) (λ e. short (ltb-true (length s) 3 e)) λ e1.
      choose P (ltb (len_of s) 4) (λ e. low (ltb-false (length s) 3 e1) (ltb-true (len_of s) 4 e)) λ e2.
      choose P (ltb (length s) (len_of s)) (λ e. cut (ltb-true (length s) (len_of s) e)) λ e3.
      whole (record { is-len = refl; least = ltb-false (len_of s) 4 e2; fits = ltb-false (length s) (len_of s) e3 })

  -- what is accepted, reading accepts
  abbrev Read : Next → Type 0
  Read (next.Left e) = Unit {0}
  Read (next.Skipped l) = Unit {0}
  Read (next.Accepted l) = (n : ℕ) × (read_of s ≡ Reading.Accepted l n)

  -- by what reading says
  read-judged : Octets s → (r : Reading) → read_of s ≡ r → Read (judged (len_of s) r)
  read-judged o (reading.Refused n at) e = tt
  read-judged o (reading.Accepted l n) e =
      let g = header-good s _ l (accepted-head s l n o e) in (n, e ∙ ap (λ x. Reading.Accepted x n) g.is-len)

  pub next_accepted : Octets s → (l : ℕ) → Next.Accepted l ≡ next_of s over → (n : ℕ) × (read_of s ≡ Reading.Accepted l n)
  next_accepted o l e =
      subst Read (sym e)
      (next_cases Read (λ l. choose Read over (λ e. choose Read (eqb (length s) 0) (λ d. tt) (λ d. tt)) (λ e. tt)) (λ l h. tt)
      (λ l. choose Read over (λ e. tt) (λ e. tt)) (λ w. read-judged o (read_of s) refl))
