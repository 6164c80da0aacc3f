-- The records of a block up to the first that is refused: one after the other, all of an accepted block, and in normal form no longer
-- than the octets they were read from. Assumes nothing.
use mathlib.Core.Path.{◌≡◌, refl, sym, ap, ◌∙◌, subst}
use mathlib.Core.Bool.{Bool, true, false}
use mathlib.Core.List.{List, [], ◌∷◌}
use Prim.Native.Nat.{ℕ, zero, suc, ◌+◌, ◌-◌, ◌≤◌, ◌<◌}
use native.Mathlib.Omega.{arith}
use borrow.Author.Tests.{leb-true, leb-false, lt-leb, le-leb}
use lib.Dec.{leb}
use lib.ListN.{length, get_or, take, length-append}
use Rattle.octets.specs.Numbers.{Octets, number}
use Rattle.octets.proofs.Numbers.{number_lt}
use Rattle.octets.proofs.Parts.{Octets-drop, Octets-take}
use Rattle.layouts.specs.Formats.{Parsed, refused, got}
use Rattle.layouts.specs.Categories.{Category, known, category}
use Rattle.layouts.proofs.Windows.{window, behind, window-long}
use Rattle.blocks.specs.Records.{Rec, put_rec}
use Rattle.blocks.specs.Blocks.{all, block_of, put_recs}
use Rattle.blocks.specs.Offsets.{record_at}
use Rattle.blocks.specs.Boundaries.{Joined}
use Rattle.blocks.specs.Headers.{header_of}
use Rattle.blocks.specs.Walks.{answer_of, read_of}
use Rattle.blocks.specs.Head.{Head}
use Rattle.blocks.specs.Reading.{Reading}
use Rattle.blocks.proofs.RecordTheorems.{normal_short}
use Rattle.blocks.proofs.WindowLaws.{record_at_lem}
use Rattle.blocks.proofs.ReadSteps.{record_within}
use Rattle.blocks.proofs.HeaderLaws.{Headed, header-good}
use Rattle.blocks.proofs.ListedLaws.{read-block}
use Rattle.blocks.proofs.BoundaryLaws.{read-filled}
use Rattle.writing.specs.Written.{good_from, good_at}

module _ (s : List ℕ) (len : ℕ) (c : Category) where
  -- At the end there is none.
  pub good-end : (n at : ℕ) → len ≤ at → good_at s len c n at ≡ []
  unfolding good_at
  good-end zero at h = refl
  good-end (suc n) at h = rw (le-leb len at h)

  good-zero : (at : ℕ) → good_at s len c 0 at ≡ []
  unfolding good_at
  good-zero at = refl

  -- one more
  good-one : (n at : ℕ) → at < len → good_at s len c (suc n) at ≡ good_from s len c (record_at s len c at) (λ q. good_at s len c n q)
  unfolding good_at
  good-one n at h = rw (lt-leb len at h)

  -- A record that is refused ends them.
  pub good-refused : (n at m : ℕ) → record_at s len c at ≡ refused m → good_at s len c n at ≡ []
  good-refused zero at m e = good-zero at
  good-refused (suc n) at m e = go (leb len at) refl
    where
      go : (b : Bool) → leb len at ≡ b → good_at s len c (suc n) at ≡ []
      go true h = good-end (suc n) at (leb-true len at h)
      go false h = good-one n at (leb-false len at h) ∙ rw e

  module _ (o : Octets s) where
    -- As many steps as octets are left are enough: each record has one.
    pub good-fuel : (n m at : ℕ) → len - at ≤ n → len - at ≤ m → good_at s len c n at ≡ good_at s len c m at
    good-fuel zero m at h k = good-end 0 at (omega arith) ∙ sym (good-end m at (omega arith))
    good-fuel (suc n) zero at h k = good-end (suc n) at (omega arith) ∙ sym (good-end 0 at (omega arith))
    good-fuel (suc n) (suc m) at h k = go (leb len at) refl (λ q l. good-fuel n m q (omega arith) (omega arith))
      where
        from : ((q : ℕ) → at < q → good_at s len c n q ≡ good_at s len c m q) → (a : Parsed ℕ Rec) → record_at s len c at ≡ a
            → good_from s len c a (λ q. good_at s len c n q) ≡ good_from s len c a (λ q. good_at s len c m q)
        from ih (refused i) e = refl
        from ih (got r q) e = ap (λ (rs : List Rec). r ∷ rs) (ih q (record_within s len c o at q r e).0)

        go : (b : Bool) → leb len at ≡ b → ((q : ℕ) → at < q → good_at s len c n q ≡ good_at s len c m q)
            → good_at s len c (suc n) at ≡ good_at s len c (suc m) at
        go true e ih = good-end (suc n) at (leb-true len at e) ∙ sym (good-end (suc m) at (leb-true len at e))
        go false e ih =
            let more = leb-false len at e in
            good-one n at more ∙ from ih (record_at s len c at) refl ∙ sym (good-one m at more)

    -- A record that was read, and then the others.
    pub good-step : (n at : ℕ) (r : Rec) (q : ℕ) → at < len → len - at ≤ n → record_at s len c at ≡ got r q
        → good_at s len c n at ≡ r ∷ good_at s len c n q
    good-step zero at r q l h e = absurd (omega arith)
    good-step (suc n) at r q l h e =
        let forward = (record_within s len c o at q r e).0 in
        good-one n at l ∙ rw e (ap (λ (rs : List Rec). r ∷ rs) (good-fuel n (suc n) q (omega arith) (omega arith)))

    -- Records that go to the end are all of them.
    pub joined-good : (n at : ℕ) (rs : List Rec) → len - at ≤ n → Joined s len c at rs len → good_at s len c n at ≡ rs
    joined-good n at [] h j = good-end n at (omega arith)
    joined-good n at (r ∷ rs) h (q, e, l, m, j) =
        good-step n at r q (omega arith) h e ∙ ap (λ (rs : List Rec). r ∷ rs) (joined-good n q rs (omega arith) j)

    module _ (fit : len ≤ length s) where
      -- a record in normal form is no longer than what was read
      record_short : (at q : ℕ) (r : Rec) → record_at s len c at ≡ got r q → at + length (put_rec c r) ≤ q
      record_short at q r e =
          let (l, m) = record_within s len c o at q r e in
          let read = record_at_lem s len fit c at ∙ ap (behind s len) e in
          let short = normal_short c (window s len at) r (window s len q) (Octets-drop at (take len s) (Octets-take len s o)) read in
          omega (arith, short, window-long s len fit at, window-long s len fit q)

      record_then : (at q : ℕ) (r : Rec) (rs : List Rec) → record_at s len c at ≡ got r q → q + length (put_recs c rs) ≤ len
          → at + length (put_recs c (r ∷ rs)) ≤ len
      unfolding put_recs
      record_then at q r rs e h = rw length-append (omega (arith, record_short at q r e))

      none-short : (at : ℕ) (rs : List Rec) → at ≤ len → rs ≡ [] → at + length (put_recs c rs) ≤ len
      unfolding put_recs
      none-short at rs h e = rw e (omega arith)

      -- So their normal form ends no later than the block.
      pub good-short : (n at : ℕ) → at ≤ len → at + length (put_recs c (good_at s len c n at)) ≤ len
      good-short zero at h = none-short at _ h (good-zero at)
      good-short (suc n) at h = go (leb len at) refl (good-short n)
        where
          from : ((q : ℕ) → q ≤ len → q + length (put_recs c (good_at s len c n q)) ≤ len) → (a : Parsed ℕ Rec) → record_at s len c at ≡ a
              → at + length (put_recs c (good_from s len c a (λ q. good_at s len c n q))) ≤ len
          from ih (refused i) e = none-short at [] h refl
          from ih (got r q) e = record_then at q r (good_at s len c n q) e (ih q (record_within s len c o at q r e).1)

          go : (b : Bool) → leb len at ≡ b → ((q : ℕ) → q ≤ len → q + length (put_recs c (good_at s len c n q)) ≤ len)
              → at + length (put_recs c (good_at s len c (suc n) at)) ≤ len
          go true e ih = none-short at _ h (good-end (suc n) at (leb-true len at e))
          go false e ih = rw (good-one n at (leb-false len at e)) (from ih (record_at s len c at) refl)

-- what an accepted block is: a good header, and records that are all good
pub record Accepted (s : List ℕ) (cat len : ℕ) : Type 0 where
  pub known : known cat ≡ true
  pub least : 4 ≤ len
  pub fits : len ≤ length s
  pub low : len < 65536
  pub is : block_of s ≡ all cat (good_at s len (category cat) len 3)

pub read-accepted : (s : List ℕ) (len n : ℕ) → Octets s → read_of s ≡ Reading.Accepted len n → Accepted s (get_or s 0 0) len
read-accepted s len n o a =
    let (cat, rs, h, j, count, is) = read-filled s len n o a in
    go cat rs h j is (header-good s cat len h)
  where
    go : (cat : ℕ) (rs : List Rec) → header_of s ≡ Head.Good cat len → Joined s len (category cat) 3 rs len → block_of s ≡ all cat rs
        → Headed s cat len → Accepted s (get_or s 0 0) len
    go cat rs h j is w =
        subst (λ (cat : ℕ). Accepted s cat len) w.is-cat (record {
          known = w.known;
          least = w.least;
          fits = w.fits;
          low = omega (arith, w.is-len, number_lt 2 s 1 o);
          is = is ∙ ap (all cat) (sym (joined-good s len (category cat) o len 3 rs (omega arith) j));
        })

-- Of a block that is accepted the good records are all.
pub block-good : (s : List ℕ) (cat : ℕ) (rs : List Rec) → Octets s → block_of s ≡ all cat rs
    → good_at s (number 2 s 1) (category cat) (number 2 s 1) 3 ≡ rs
block-good s cat rs o h =
    let len = number 2 s 1 in
    let w = read-accepted s len (length rs) o (read-block s ∙ ap (answer_of len) h) in
    let e : all cat rs ≡ all (get_or s 0 0) (good_at s len (category (get_or s 0 0)) len 3) = sym h ∙ w.is in
    let same : get_or s 0 0 ≡ cat = cc in
    rw (← same) cc
