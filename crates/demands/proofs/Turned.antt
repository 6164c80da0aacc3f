-- A page turned into the other form and turned back, by the public operations (02 §5). Assumes nothing.
use mathlib.Core.List.{List, [], ◌∷◌, map}
use mathlib.Core.Logic.{◌↔◌}
use mathlib.Core.Path.{◌≡◌, refl, sym, ap, ◌∙◌, subst}
use Prim.Native.Nat.{ℕ, ◌≤◌}
use borrow.Author.Tests.{le-ltb}
use lib.ListN.{length, take}
use Rattle.octets.specs.Numbers.{Octets, laid}
use Rattle.octets.specs.Outcomes.{puts, within, answer_of, output_of, listed_written, outcome_listed}
use Rattle.octets.specs.Written.{Written}
use Rattle.octets.proofs.Outcomes.{puts-same}
use Rattle.pages.specs.Pages.{old, new, page_of, rows_in, turn_of, untimed, NoTimes}
use Rattle.pages.specs.declared.forms.Table.{Table}
use Rattle.pages.proofs.TurnTheorems.{rows_new, rows-old, old-unknown, old_new_old, new_old_new, untimed-back, turned-long}
use Rattle.demands.specs.Operations.{Turns, WearTurns}
use Rattle.demands.proofs.GivenOutputs.{listed, goes_out, went_out}

-- what was turned, of the n octets that went out
turned-into : (from to : List Table) (s o out : List ℕ) (n : ℕ) → Turns from to s o out (Written.Octets n) → turn_of from to s ≡ puts (take n out)
turned-into from to s o out n h = went_out (turn_of from to s) o out n h.0 h.1

-- The new page that an old one is turned into has its rows, and no known time.
pub turned-new : (s : List ℕ) → Octets s → (o out : List ℕ) (n : ℕ) → Turns old new s o out (Written.Octets n)
    → (rows_in new (take n out) ≡ rows_in old s) × NoTimes (rows_in new (take n out))
turned-new s okay o out n h =
    let same = rows_new s okay (take n out) (turned-into old new s o out n h) in
    (same, subst NoTimes (sym same) (old-unknown s))

-- The old page that a new one is turned into has its rows without their times.
pub turned-old : (s : List ℕ) → Octets s → (o out : List ℕ) (n : ℕ) → Turns new old s o out (Written.Octets n)
    → rows_in old (take n out) ≡ map untimed (rows_in new s)
turned-old s okay o out n h = rows-old s okay (take n out) (turned-into new old s o out n h)

-- Old to new to old gives the same octets.
pub old_there_and_back : (s : List ℕ) → Octets s → (o out : List ℕ) (n : ℕ) → Turns old new s o out (Written.Octets n)
    → (o' out' : List ℕ) (r : Written) → length s ≤ length o' → Turns new old (take n out) o' out' r
    → (r ≡ Written.Octets (length s)) × (take (length s) out' ≡ s)
old_there_and_back s okay o out n h o' out' r room k =
    goes_out (turn_of new old (take n out)) s o' out' r (old_new_old s okay (take n out) (turned-into old new s o out n h)) room k.0 k.1

-- New to old to new gives the octets exactly where every time was unknown.
pub new_there_and_back : (s : List ℕ) → Octets s → (o out : List ℕ) (n : ℕ) → Turns new old s o out (Written.Octets n)
    → (o' out' : List ℕ) (r : Written) → length s ≤ length o' → Turns old new (take n out) o' out' r
    → (r ≡ Written.Octets (length s)) × ((take (length s) out' ≡ s) ↔ NoTimes (rows_in new s))
new_there_and_back s okay o out n h o' out' r room k =
    let e = turned-into new old s o out n h in
    let x = page_of new (map untimed (rows_in new s)) in
    let is = untimed-back s okay (take n out) e in
    let long : length x ≡ length s = turned-long s okay (take n out) e in
    let w = goes_out (turn_of old new (take n out)) x o' out' r is (rw long room) k.0 k.1 in
    let same = new_old_new s okay (take n out) e in (
      w.0 ∙ ap Written.Octets long,
      (
        λ z. same.0 (is ∙ ap puts (sym w.1 ∙ ap (λ m. take m out') long ∙ z)),
        λ z. ap (λ m. take m out') (sym long) ∙ w.1 ∙ puts-same (sym is ∙ same.1 z),
      ),
    )

-- A door turns as the operation does: what the operation answers, in the refusal and in the cell of the length.
pub at_the_door : (from to : List Table) (page l size out after : List ℕ) (r : ℕ) → WearTurns from to page l size out after r → 1 ≤ length size
    → let w = answer_of (within (length l) (turn_of from to page)) in
    Turns from to page l out w × (r ≡ (listed_written w).refusal) × (after ≡ laid size 0 ((listed_written w).length ∷ []))
at_the_door from to page l size out after r h enough =
    let x = within (length l) (turn_of from to page) in
    let k : (r ≡ (outcome_listed x).refusal) × (out ≡ output_of l x) × (after ≡ laid size 0 ((outcome_listed x).length ∷ [])) = rw (le-ltb (length size) 1 enough) at h in
    let s = sym (listed x) in
    ((k.1, refl, listed x), k.0 ∙ ap (λ y. y.refusal) s, k.2 ∙ ap (λ y. laid size 0 (y.length ∷ [])) s)
