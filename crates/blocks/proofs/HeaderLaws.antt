-- What a good header says of the octets, and what holds of every header. Assumes nothing.
use mathlib.Core.Path.{◌≡◌, refl, ap, ◌∙◌}
use mathlib.Core.Bool.{Bool, true, false}
use mathlib.Core.List.{List}
use Prim.Native.Nat.{ℕ, ◌≤◌, ◌<◌}
use native.Mathlib.Omega.{arith}
use borrow.Author.Tests.{ltb-true, ltb-false, lt-ltb, le-ltb}
use lib.Dec.{ltb}
use lib.ListN.{length, get_or}
use Rattle.octets.specs.Choice.{pick}
use Rattle.octets.specs.Numbers.{number}
use Rattle.octets.specs.Refusals.{too_short, unknown_category, len_too_small}
use Rattle.octets.proofs.Cases.{choose}
use Rattle.layouts.specs.Categories.{known}
use Rattle.blocks.specs.Headers.{header_of, head_refused, head_good, listed_head, head_listed}
use Rattle.blocks.specs.Head.{Head}

-- a block that may be read: its category, and LEN octets of it are there
pub record Headed (s : List ℕ) (cat len : ℕ) : Type 0 where
  pub is-cat : cat ≡ get_or s 0 0
  pub is-len : len ≡ number 2 s 1
  pub known : known cat ≡ true
  pub least : 4 ≤ len
  pub fits : len ≤ length s

module _ (s : List ℕ) where
  abbrev cat : ℕ
  cat = get_or s 0 0

  abbrev len : ℕ
  len = number 2 s 1

  -- test after test
  pub header_cases : (P : Head → Type 0) → (length s < 3 → P (Head.Refused too_short))
      → (3 ≤ length s → known cat ≡ false → P (Head.Refused unknown_category))
      → (3 ≤ length s → known cat ≡ true → len < 4 → P (Head.Refused len_too_small))
      → (known cat ≡ true → 4 ≤ len → length s < len → P (Head.Refused too_short))
      → (Headed s cat len → P (Head.Good cat len)) → P (header_of s)
  unfolding header_of
  header_cases P short unknown low cut good =
      choose P (ltb (length s) 3) (λ e. short (ltb-true (length s) 3 e)) λ e1.
      choose P (known cat)
      (λ k. choose P (ltb len 4) (λ e. low (ltb-false (length s) 3 e1) k (ltb-true len 4 e)) λ e3.
      let four = ltb-false len 4 e3 in
      choose P (ltb (length s) len) (λ e. cut k four (ltb-true (length s) len e)) λ e4.
      good (record { is-cat = refl; is-len = refl; known = k; least = four; fits = ltb-false (length s) len e4 }))
      (λ k. unknown (ltb-false (length s) 3 e1) k)

  pub header-short : length s < 3 → Head.Refused too_short ≡ header_of s
  unfolding header_of
  header-short h = rw (lt-ltb (length s) 3 h)

  module _ (long : 3 ≤ length s) where
    pub header-unknown : known cat ≡ false → Head.Refused unknown_category ≡ header_of s
    unfolding header_of
    header-unknown h = rw (le-ltb (length s) 3 long, h)

    module _ (k : known cat ≡ true) (len : ℕ) (is : len ≡ number 2 s 1) where
      pub header-low : len < 4 → Head.Refused len_too_small ≡ header_of s
      unfolding header_of
      header-low h = rw (le-ltb (length s) 3 long, k, ← is, lt-ltb len 4 h)

      module _ (least : 4 ≤ len) where
        pub header-cut : length s < len → Head.Refused too_short ≡ header_of s
        unfolding header_of
        header-cut h = rw (le-ltb (length s) 3 long, k, ← is, le-ltb len 4 least, lt-ltb (length s) len h)

        pub header-fits : len ≤ length s → Head.Good cat len ≡ header_of s
        unfolding header_of
        header-fits h = rw (le-ltb (length s) 3 long, k, ← is, le-ltb len 4 least, le-ltb (length s) len h)

not_good : {n cat len : ℕ} → Head.Refused n ≡ Head.Good cat len → ⊥
not_good h = let z : ◌≡◌ {A = ℕ} 0 1 = cc in omega arith

pub header-good : (s : List ℕ) (cat len : ℕ) → header_of s ≡ Head.Good cat len → Headed s cat len
header-good s cat len =
    header_cases s (λ h. h ≡ Head.Good cat len → Headed s cat len)
    (λ a h. absurd (not_good h))
    (λ a b h. absurd (not_good h))
    (λ a b d h. absurd (not_good h))
    (λ a b d h. absurd (not_good h))
    (λ w h. same w (cc) (cc))
  where
    same : {c l : ℕ} → Headed s c l → c ≡ cat → l ≡ len → Headed s cat len
    same w e f = rw (e, f) at w

-- the definitions list the answer itself
pub header-listed : (s : List ℕ) → listed_head (header_of s) ≡ head_listed s
unfolding header_of head_listed
header-listed s = go (ltb (length s) 3) (known (get_or s 0 0)) (ltb (number 2 s 1) 4) (ltb (length s) (number 2 s 1))
  where
    go : (a b d e : Bool)
        → listed_head
        (pick a (Head.Refused too_short)
        (pick b (pick d (Head.Refused len_too_small) (pick e (Head.Refused too_short) (Head.Good (get_or s 0 0) (number 2 s 1)))) (Head.Refused unknown_category)))
        ≡ pick a (head_refused too_short)
        (pick b (pick d (head_refused len_too_small) (pick e (head_refused too_short) (head_good (get_or s 0 0) (number 2 s 1)))) (head_refused unknown_category))
    go true b d e = refl
    go false false d e = refl
    go false true true e = refl
    go false true false true = refl
    go false true false false = refl

-- an answer, its number and values, and what else is told
pub header-told : {C : Type 0} (s : List ℕ) (r : Head) → r ≡ header_of s → C → (r ≡ header_of s) × (listed_head r ≡ head_listed s) × C
header-told s r e w = (e, ap listed_head e ∙ header-listed s, w)
