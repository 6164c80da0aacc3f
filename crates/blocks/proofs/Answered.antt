-- What a contract says of an answer tells the answer: different answers are different in the definitions' words. Of a good header the words leave
-- the octets out, which its contract names beside them. Assumes nothing.
use mathlib.Core.Path.{◌≡◌}
use Prim.Native.Nat.{ℕ}
use Rattle.std.specs.Prelude.{Option, Some, None, Result, Ok, Err}
use Rattle.octets.specs.Refusals.{number_of}
use Rattle.octets.specs.declared.refusal.Refusal.{Refusal}
use Rattle.octets.proofs.Refusals.{number-same}
use Rattle.blocks.specs.Head.{as_head}
use Rattle.blocks.specs.Step.{as_step}
use Rattle.blocks.specs.Found.{as_found}
use Rattle.blocks.specs.Walked.{as_walked}
use Rattle.blocks.specs.Reading.{as_reading}
use Rattle.blocks.specs.Seen.{as_seen}
use Rattle.blocks.specs.declared.block.Block.{Block}
use Rattle.blocks.specs.declared.fault.Fault.{Fault}
use Rattle.blocks.specs.declared.cursor.Taken.{Taken}
use Rattle.blocks.specs.declared.cursor.Found.{Found}
use Rattle.blocks.specs.declared.cursor.Found.TheVariants as found
use Rattle.blocks.specs.declared.walk.Walked.{Walked}
use Rattle.blocks.specs.declared.walk.Reading.{Reading}
use Rattle.blocks.specs.declared.statistics.Seen.{Seen}
use Rattle.blocks.specs.declared.statistics.Statistics.{Statistics}

fault-same : {A : Type 0} (f g : Fault) → number_of f.refusal ≡ number_of g.refusal → f.at ≡ g.at → ◌≡◌ {A = Result A Fault} (Err f) (Err g)
fault-same f g n a = let r = number-same f.refusal g.refusal n in λ i. Err (record { refusal = r i; at = a i })

-- the same refusal, or blocks of the same category and LEN
abbrev pub SameHead : Result Block Refusal → Result Block Refusal → Type 0
SameHead (Ok a) (Ok b) = (a.cat ≡ b.cat) × (a.window.len ≡ b.window.len)
SameHead (Ok a) (Err q) = ⊥
SameHead (Err r) (Ok b) = ⊥
SameHead (Err r) (Err q) = r ≡ q

pub head-same : (r q : Result Block Refusal) → as_head r ≡ as_head q → SameHead r q
head-same (Ok a) (Ok b) e = (cc, cc)
head-same (Ok a) (Err q) e = cc
head-same (Err r) (Ok b) e = cc
head-same (Err r) (Err q) e = number-same r q (cc)

pub step-same : (r q : Result Taken Fault) → as_step r ≡ as_step q → r ≡ q
step-same (Ok a) (Ok b) e =
    let t : a.taken ≡ b.taken = cc in
    let n : a.next ≡ b.next = cc in
    λ i. Ok (record { taken = t i; next = n i })
step-same (Ok a) (Err g) e = cc
step-same (Err f) (Ok b) e = cc
step-same (Err f) (Err g) e = fault-same f g (cc) (cc)

pub found-same : (r q : Result Found Fault) → as_found r ≡ as_found q → r ≡ q
found-same (Ok (found.Counter a)) (Ok (found.Counter b)) e = let v : a ≡ b = cc in cc
found-same (Ok (found.Counter a)) (Ok (found.Version b)) e = cc
found-same (Ok (found.Counter a)) (Err g) e = cc
found-same (Ok (found.Version a)) (Ok (found.Counter b)) e = cc
found-same (Ok (found.Version a)) (Ok (found.Version b)) e = let v : a ≡ b = cc in cc
found-same (Ok (found.Version a)) (Err g) e = cc
found-same (Err f) (Ok (found.Counter b)) e = cc
found-same (Err f) (Ok (found.Version b)) e = cc
found-same (Err f) (Err g) e = fault-same f g (cc) (cc)

pub walked-same : (r q : Result Walked Fault) → as_walked r ≡ as_walked q → r ≡ q
walked-same (Ok a) (Ok b) e =
    let t : a.at ≡ b.at = cc in
    let n : a.count ≡ b.count = cc in
    λ i. Ok (record { at = t i; count = n i })
walked-same (Ok a) (Err g) e = cc
walked-same (Err f) (Ok b) e = cc
walked-same (Err f) (Err g) e = fault-same f g (cc) (cc)

pub reading-same : (r q : Result Reading Fault) → as_reading r ≡ as_reading q → r ≡ q
reading-same (Ok a) (Ok b) e =
    let l : a.len ≡ b.len = cc in
    let n : a.count ≡ b.count = cc in
    λ i. Ok (record { len = l i; count = n i })
reading-same (Ok a) (Err g) e = cc
reading-same (Err f) (Ok b) e = cc
reading-same (Err f) (Err g) e = fault-same f g (cc) (cc)

seen_by : (a b : Option Statistics) (n m : ℕ) → as_seen (record { report = a; next = n }) ≡ as_seen (record { report = b; next = m })
    → (a ≡ b) × (n ≡ m)
seen_by (Some a) (Some b) n m e = let v : a ≡ b = cc in (cc, cc)
seen_by (Some a) None n m e = cc
seen_by None (Some b) n m e = cc
seen_by None None n m e = (cc, cc)

pub seen-same : (r q : Seen) → as_seen r ≡ as_seen q → r ≡ q
seen-same r q e = let (a, n) = seen_by r.report q.report r.next q.next e in λ i. record { report = a i; next = n i }
