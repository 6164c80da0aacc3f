-- CAT and LEN in front of the records. Assumes nothing.
use mathlib.Core.Path.{◌≡◌, ap, ◌∙◌}
use mathlib.Core.List.{List, [], ◌∷◌}
use Prim.Native.Nat.{ℕ, suc, ◌+◌, ◌≤◌, ◌<◌}
use native.Mathlib.Omega.{arith}
use lib.ListN.{length, set, length-append}
use Rattle.octets.specs.Numbers.{laid}
use Rattle.octets.proofs.Numbers.{length-octets}
use Rattle.octets.proofs.Laying.{laid-laid, length-laid}
use Rattle.layouts.specs.Categories.{category}
use Rattle.blocks.specs.Records.{Rec}
use Rattle.blocks.specs.Blocks.{put_recs, put_block}
use Rattle.writing.specs.Written.{header_octets}

-- an octet stored, and others laid behind it
pub first-laid : (l : List ℕ) (x : ℕ) (p : List ℕ) → 0 < length l → laid (set l 0 x) 1 p ≡ laid l 0 (x ∷ p)
unfolding laid
first-laid [] x p h = absurd (omega arith)
first-laid (y ∷ l) x p h =
    let a : 1 + length p ≡ suc (length p) = omega arith in
    let b : 0 + suc (length p) ≡ suc (length p) = omega arith in
    rw (a, b)

pub header-long : (cat len : ℕ) → length (header_octets cat len) ≡ 3
header-long cat len = ap suc (length-octets 2 len)

-- How many octets a block has.
pub block-long : (cat : ℕ) (rs : List Rec) → length (put_block cat rs) ≡ length (put_recs (category cat) rs) + 3
unfolding put_block
block-long cat rs = rw (length-append, length-octets) (omega arith)

-- the header, and the records behind it
pub block-laid : (l : List ℕ) (cat : ℕ) (rs : List Rec) (n : ℕ) → n ≡ length (put_recs (category cat) rs) → n + 3 ≤ length l
    → laid (laid l 0 (header_octets cat (n + 3))) 3 (put_recs (category cat) rs) ≡ laid l 0 (put_block cat rs)
unfolding put_block
block-laid l cat rs n e h =
    let body = put_recs (category cat) rs in
    let three : 0 + length (header_octets cat (n + 3)) ≡ 3 = omega (arith, header-long cat (n + 3)) in
    let same : n + 3 ≡ 3 + length body = omega arith in
    (rw three at (laid-laid l 0 (header_octets cat (n + 3)) body (omega arith))) ∙ rw same

pub header-same : (l l' : List ℕ) (cat len : ℕ) → 3 ≤ length l → l' ≡ laid l 0 (header_octets cat len) → length l' ≡ length l
header-same l l' cat len h e = rw e (length-laid l 0 (header_octets cat len) (omega (arith, header-long cat len)))

-- the header laid, and then the records
module _ (cat : ℕ) (rs : List Rec) (n : ℕ) (is : n ≡ length (put_recs (category cat) rs)) (l l₁ : List ℕ) (h : n + 3 ≤ length l)
    (e : l₁ ≡ laid l 0 (header_octets cat (n + 3))) where
  pub body-room : 3 + length (put_recs (category cat) rs) ≤ length l₁
  body-room = omega (arith, is, header-same l l₁ cat (n + 3) (omega arith) e)

  pub body-laid : (l₂ : List ℕ) → l₂ ≡ laid l₁ 3 (put_recs (category cat) rs) → l₂ ≡ laid l 0 (put_block cat rs)
  body-laid l₂ f = f ∙ rw e (block-laid l cat rs n is h)
