-- No second answer meets the statement of a public operation; where an output, cells or a ledger are lent, they are left in no second way either.
-- Assumes nothing.
use mathlib.Core.Bool.{Bool}
use mathlib.Core.Path.{◌≡◌, ap}
use mathlib.Core.List.{List}
use Prim.Native.Nat.{ℕ}
use Rattle.octets.proofs.Unique.{only, only-both}
use Rattle.blocks.specs.declared.record.Record.{Record}
use Rattle.blocks.specs.Reading.{Reading}
use Rattle.blocks.specs.declared.cursor.Cursor.{Cursor}
use Rattle.blocks.specs.Step.{Step}
use Rattle.blocks.specs.Found.{Found}
use Rattle.octets.specs.Written.{Written}
use Rattle.ledger.specs.Answer.{Answer}
use Rattle.ledger.specs.declared.Ledger.{Ledger}
use Rattle.ledger.proofs.CellLaws.{ledger_same}
use Rattle.feed.specs.declared.block.Next.{Next}
use Rattle.pages.specs.declared.forms.Table.{Table}
use Rattle.demands.specs.Operations.{Reads, First, Steps, Entries, Writes, Rewrites, Fresh, Checks, Posts, LentPosts, Loads, Stores, Turns, Begins}
use Rattle.demands.specs.Operations.{WearVersions, WearReads, WearSteps, WearEntries, WearWrites, WearRewrites, WearTurns, WearPosts, WearFeeds}

pub one-reading : (s : List ℕ) (r q : Reading) → Reads s r → Reads s q → r ≡ q
one-reading s r q h k = only h.0 k.0

pub one-start : (r q : Cursor) → First r → First q → r ≡ q
one-start r q h k i = record { at = only h k i }

pub one-step : (s : List ℕ) (start : ℕ) (r q : Step) → Steps s start r → Steps s start q → r ≡ q
one-step s start r q h k = only h.0 k.0

pub one_entry : (s : List ℕ) (start n : ℕ) (r q : Found) → Entries s start n r → Entries s start n q → r ≡ q
one_entry s start n r q h k = only h.0 k.0

pub one-writing : (s : List ℕ) (t : Record) (l out out' : List ℕ) (r q : Written) → Writes s t l out r → Writes s t l out' q
    → (out ≡ out') × (r ≡ q)
one-writing s t l out out' r q h k = only-both (h.0, h.1) (k.0, k.1)

pub one-rewriting : (s l out out' : List ℕ) (r q : Written) → Rewrites s l out r → Rewrites s l out' q → (out ≡ out') × (r ≡ q)
one-rewriting s l out out' r q h k = only-both (h.0, h.1) (k.0, k.1)

pub one-fresh : (r q : Ledger) → Fresh r → Fresh q → r ≡ q
one-fresh r q h k = ledger_same (only h k)

pub one-checking : (l : Ledger) (r q : ℕ) → Checks l r → Checks l q → r ≡ q
one-checking l r q h k = only h k

pub one-posting : (l : Ledger) (s : List ℕ) (k : ℕ) (r q : Answer) → Posts l s k r → Posts l s k q → r ≡ q
one-posting l s k r q h e = only h e

pub one_lent_posting : (l : Ledger) (s : List ℕ) (k : ℕ) (after after' : Ledger) (r q : ℕ) → LentPosts l s k after r → LentPosts l s k after' q
    → (after ≡ after') × (r ≡ q)
one_lent_posting l s k after after' r q h e = (ap (λ a. a.ledger) (only h e), ap (λ a. a.refusal) (only h e))

pub one-loading : (s : List ℕ) (r q : Answer) → Loads s r → Loads s q → r ≡ q
one-loading s r q h k = only h k

pub one-storing : (l : Ledger) (o out out' : List ℕ) (r q : Written) → Stores l o out r → Stores l o out' q → (out ≡ out') × (r ≡ q)
one-storing l o out out' r q h k = only-both (h.0, h.1) (k.0, k.1)

pub one_turning : (from to : List Table) (s o out out' : List ℕ) (r q : Written) → Turns from to s o out r → Turns from to s o out' q
    → (out ≡ out') × (r ≡ q)
one_turning from to s o out out' r q h k = only-both (h.0, h.1) (k.0, k.1)

pub one-beginning : (s : List ℕ) (over : Bool) (r q : Next) → Begins s over r → Begins s over q → r ≡ q
one-beginning s over r q h k = only h.0 k.0

pub one_wear_version : (r q : ℕ) → WearVersions r → WearVersions q → r ≡ q
one_wear_version r q h k = only h k

pub one_wear_reading : (s cells after after' : List ℕ) (r q : ℕ) → WearReads s cells after r → WearReads s cells after' q
    → (r ≡ q) × (after ≡ after')
one_wear_reading s cells after after' r q h k = only-both h k

pub one_wear_step : (s : List ℕ) (start : ℕ) (cells after after' : List ℕ) (r q : ℕ) → WearSteps s start cells after r
    → WearSteps s start cells after' q → (r ≡ q) × (after ≡ after')
one_wear_step s start cells after after' r q h k = only-both h k

pub one_wear_entry : (s : List ℕ) (start n : ℕ) (cells after after' : List ℕ) (r q : ℕ) → WearEntries s start n cells after r
    → WearEntries s start n cells after' q → (r ≡ q) × (after ≡ after')
one_wear_entry s start n cells after after' r q h k = only-both h k

-- where an output is lent: the refusal, the output, and the cells
only-three : {r q a : ℕ} {o p b m n c : List ℕ} → (r ≡ a) × (o ≡ b) × (m ≡ c) → (q ≡ a) × (p ≡ b) × (n ≡ c) → (r ≡ q) × (o ≡ p) × (m ≡ n)
only-three h k = (only h.0 k.0, only h.1 k.1, only h.2 k.2)

pub one_wear_writing : (cells s l size out out' after after' : List ℕ) (r q : ℕ) → WearWrites cells s l size out after r
    → WearWrites cells s l size out' after' q → (r ≡ q) × (out ≡ out') × (after ≡ after')
one_wear_writing cells s l size out out' after after' r q h k = only-three h k

pub one_wear_rewriting : (s l size out out' after after' : List ℕ) (r q : ℕ) → WearRewrites s l size out after r
    → WearRewrites s l size out' after' q → (r ≡ q) × (out ≡ out') × (after ≡ after')
one_wear_rewriting s l size out out' after after' r q h k = only-three h k

pub one_wear_turning : (from to : List Table) (page l size out out' after after' : List ℕ) (r q : ℕ) → WearTurns from to page l size out after r
    → WearTurns from to page l size out' after' q → (r ≡ q) × (out ≡ out') × (after ≡ after')
one_wear_turning from to page l size out out' after after' r q h k = only-three h k

pub one_wear_posting : (page s : List ℕ) (n : ℕ) (l size out out' after after' : List ℕ) (r q : ℕ) → WearPosts page s n l size out after r
    → WearPosts page s n l size out' after' q → (r ≡ q) × (out ≡ out') × (after ≡ after')
one_wear_posting page s n l size out out' after after' r q h k = only-three h k

pub one_wear_feeding : (page s : List ℕ) (more : ℕ) (l cells out out' after after' : List ℕ) (r q : ℕ) → WearFeeds page s more l cells out after r
    → WearFeeds page s more l cells out' after' q → (r ≡ q) × (out ≡ out') × (after ≡ after')
one_wear_feeding page s more l cells out out' after after' r q h k = only-three h k
