-- What is put into a lent output is answered by its own refusals, then by 12, else by its length: the law that writing, rewriting, storing and a feed
-- share. Assumes nothing.
use mathlib.Core.List.{List}
use mathlib.Core.Logic.{◌↔◌}
use mathlib.Core.Path.{◌≡◌, refl, sym, ap, ◌∙◌}
use Prim.Native.Nat.{ℕ, ◌≤◌}
use native.Mathlib.Omega.{arith}
use borrow.Author.Tests.{ltb-true, ltb-false, le-ltb}
use lib.Dec.{ltb}
use lib.ListN.{length, take, drop}
use lib.Seq.{take_at}
use Rattle.octets.specs.Numbers.{laid}
use Rattle.octets.specs.Outcomes.{Outcome, no, puts, within, answer_of, output_of, listed_written, outcome_listed}
use Rattle.octets.specs.Written.{Written}
use Rattle.octets.proofs.Cases.{choose}
use Rattle.octets.proofs.Outcomes.{says-no, says-short, says-puts, written-laid}
use Rattle.demands.specs.Given.{OutputFault, own, output_short}

not_written : {n k : ℕ} → Written.Octets k ≡ Written.Refused n → ⊥
not_written h = let z : ◌≡◌ {A = ℕ} 0 1 = cc in omega arith

-- a refusal that is answered as a number
refused-number : (y : Outcome) (n : ℕ) → (n ≡ 0 → ⊥) → ((outcome_listed y).refusal ≡ n) ↔ (answer_of y ≡ Written.Refused n)
refused-number (no m) n z = (λ e. ap Written.Refused e, λ e. cc)
refused-number (puts xs) n z = (λ e. absurd (z (sym e)), λ e. absurd (not_written e))

-- an outcome that is a refusal n exactly for Fault n, and else, where Fine holds, the octets ys
module _ (x : Outcome) (Fault : ℕ → Type 0) (Fine : Type 0) (ys : List ℕ) (is-no : (n : ℕ) → (x ≡ no n) ↔ Fault n)
    (is-puts : (xs : List ℕ) → (x ≡ puts xs) ↔ (Fine × (ys ≡ xs))) (l : List ℕ) where
  module _ (n : ℕ) where
    abbrev Refuses : Type 0
    Refuses = OutputFault Fault Fine ys l n

    to-fault : (y : Outcome) → x ≡ y → answer_of (within (length l) y) ≡ Written.Refused n → Refuses
    to-fault (no m) is e = let same : m ≡ n = cc in own ((is-no n).0 (rw same at is))
    to-fault (puts xs) is e =
        choose (λ z. answer_of z ≡ Written.Refused n → Refuses) (ltb (length l) (length xs))
        (λ t e. let w = (is-puts xs).0 is in output_short w.0 (rw w.1 (ltb-true _ _ t)) (cc)) (λ f e. absurd (not_written e)) e

    of_fault : Refuses → Written.Refused n ≡ answer_of (within (length l) x)
    of_fault (own w) = (says-no l x n ((is-no n).1 w)).1
    of_fault (output_short w h is) = rw is (says-short l x ys ((is-puts ys).1 (w, refl)) h).1

    module _ (r : Written) (h : r ≡ answer_of (within (length l) x)) where
      -- Its own refusals, then 12.
      pub output_given : (r ≡ Written.Refused n) ↔ OutputFault Fault Fine ys l n
      output_given = (λ e. to-fault x refl (sym h ∙ e), λ w. h ∙ sym (of_fault w))

      -- Else the octets go out, and their number is answered.
      pub output_written : (r ≡ Written.Octets n) ↔ (Fine × (length ys ≤ length l) × (n ≡ length ys))
      output_written = (
        λ e.
            let w = written-laid x l (output_of l (within (length l) x)) n refl (sym e ∙ h) in
            let f = (is-puts w.xs).0 w.is in
            (f.0, rw f.1 w.fits, rw f.1 w.long),
        λ w. h ∙ sym (says-puts l x ys n ((is-puts ys).1 (w.0, refl)) (sym w.2) (omega arith) (laid l 0 ys) refl).1,
      )

  -- the octets go out where no refusal is due
  pub within-puts : Fine → length ys ≤ length l → within (length l) x ≡ puts ys
  within-puts f h = rw ((is-puts ys).1 (f, refl), le-ltb (length l) (length ys) h)

  to-fine : (Fault 0 → ⊥) → (y : Outcome) → x ≡ y → (outcome_listed (within (length l) y)).refusal ≡ 0 → Fine × (length ys ≤ length l)
  to-fine none (no m) is e = absurd (none ((is-no 0).0 (is ∙ ap no e)))
  to-fine none (puts xs) is e =
      choose (λ z. (outcome_listed z).refusal ≡ 0 → Fine × (length ys ≤ length l)) (ltb (length l) (length xs))
      (λ t e. absurd (omega arith)) (λ f e. let w = (is-puts xs).0 is in (w.0, rw w.1 (ltb-false _ _ f))) e

  -- The same where the refusal is answered as a number.
  module _ (r : ℕ) (h : r ≡ (outcome_listed (within (length l) x)).refusal) where
    pub number-given : (n : ℕ) → (n ≡ 0 → ⊥) → (r ≡ n) ↔ OutputFault Fault Fine ys l n
    number-given n z =
        let w = refused-number (within (length l) x) n z in
        let g = output_given n _ refl in
        (λ e. g.0 (w.0 (sym h ∙ e)), λ f. h ∙ w.1 (g.1 f))

    pub number-written : (Fault 0 → ⊥) → (r ≡ 0) ↔ (Fine × (length ys ≤ length l))
    number-written none = (λ e. to-fine none x refl (sym h ∙ e), λ w. h ∙ ap (λ y. (outcome_listed y).refusal) (within-puts w.0 w.1))

-- the answer that goes with an outcome, listed
pub listed : (x : Outcome) → listed_written (answer_of x) ≡ outcome_listed x
listed (no n) = refl
listed (puts xs) = refl

-- octets for which there is room go out
pub goes_out : (x : Outcome) (xs l out : List ℕ) (r : Written) → x ≡ puts xs → length xs ≤ length l
    → out ≡ output_of l (within (length l) x) → r ≡ answer_of (within (length l) x) → (r ≡ Written.Octets (length xs)) × (take (length xs) out ≡ xs)
unfolding laid
goes_out x xs l out r e room o a =
    let f = le-ltb (length l) (length xs) room in
    let put : out ≡ laid l 0 xs = rw (e, f) at o in
    (rw (e, f) at a, ap (take (length xs)) put ∙ take_at xs _ (length xs) refl)

-- and of the n octets that are answered, those are what went out
pub went_out : (x : Outcome) (l out : List ℕ) (n : ℕ) → out ≡ output_of l (within (length l) x) → Written.Octets n ≡ answer_of (within (length l) x)
    → x ≡ puts (take n out)
went_out x l out n o a =
    let w = written-laid x l out n o a in
    w.is ∙ ap puts (sym (ap (take n) w.same ∙ take_at w.xs (drop n l) n (sym w.long)))
