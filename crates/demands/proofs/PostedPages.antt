-- A record posted at its door is loaded, posted and stored: the door does what these operations do one after the other. Assumes nothing.
use mathlib.Core.List.{List, [], ◌∷◌}
use mathlib.Core.Path.{◌≡◌, sym, ap, ◌∙◌}
use Prim.Native.Nat.{ℕ, ◌≤◌}
use borrow.Author.Tests.{le-ltb}
use lib.ListN.{length}
use Rattle.octets.specs.Numbers.{laid}
use Rattle.octets.specs.Outcomes.{WrittenListed, within, listed_written}
use Rattle.octets.specs.Written.{Written}
use Rattle.ledger.specs.Answer.{Answer}
use Rattle.pages.specs.Pages.{new, store_of}
use Rattle.doors.proofs.DoorSteps.{load_refused, post_refused, post_stored_lem}
use Rattle.demands.specs.Operations.{Loads, Posts, Stores, WearPosts}
use Rattle.demands.proofs.GivenOutputs.{listed}

module _ (page s : List ℕ) (k : ℕ) (l size out after : List ℕ) (r : ℕ) (h : WearPosts page s k l size out after r) (one : 1 ≤ length size)
    (a : Answer) (loaded : Loads page a) where
  -- the refusal of the load;
  pub door_unloaded : (a.refusal ≡ 0 → ⊥) → r ≡ a.refusal
  door_unloaded z = rw (le-ltb (length size) 1 one, load_refused page s k loaded z) at h.0

  module _ (good : a.refusal ≡ 0) (b : Answer) (posted : Posts a.ledger s k b) where
    -- that of the post;
    pub door_unposted : (b.refusal ≡ 0 → ⊥) → r ≡ b.refusal
    door_unposted z = rw (le-ltb (length size) 1 one, post_refused page s k loaded good posted z) at h.0

    -- or what storing the ledger after the post answers, and puts out.
    pub door_posted : b.refusal ≡ 0 → (w : Written) (out' : List ℕ) → Stores b.ledger l out' w
        → (r ≡ (listed_written w).refusal) × (out ≡ out') × (after ≡ laid size 0 ((listed_written w).length ∷ []))
    door_posted z w out' stores =
        let d = rw (le-ltb (length size) 1 one, post_stored_lem page s k loaded good posted z) at h in
        let said = sym (ap listed_written stores.1 ∙ listed (within (length l) (store_of new b.ledger.cells))) in
        (d.0 ∙ ap (λ (x : WrittenListed). x.refusal) said, d.1 ∙ sym stores.0, d.2 ∙ ap (λ (x : WrittenListed). laid size 0 (x.length ∷ [])) said)
