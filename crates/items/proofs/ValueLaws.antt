-- Which values fit (`in_bits`), and an arm of a match that stands for several variants (`each_of`). Assumes nothing.
use mathlib.Core.Path.{◌≡◌, refl, subst⁻¹}
use mathlib.Core.Bool.{Bool, true, false, ◌&&◌, and-false}
use mathlib.Core.List.{List, [], ◌∷◌}
use mathlib.Core.Logic.{inl, inr}
use Prim.Native.Nat.{ℕ, ◌<◌}
use native.Mathlib.Omega.{arith}
use lib.Dec.{leb, ltb}
use borrow.Author.Tests.{lt-ltb, leb-true}
use borrow.Enum.Known.{ValuesAt, at, lives_at}
use denote.Enum.Declared.{Record, declared, tag_of}
use types.Run.{OneOf}

module _ (N : Record) (P : N.D → Type 0) where
  -- P of d, from P of each of these variants whatever it holds
  abbrev pub Each : List ℕ → N.D → Type 0
  Each [] d = P d
  Each (k ∷ ks) d = ((v : ValuesAt N.parts k) → P (at N k v)) → Each ks d

  is_one : (k : ℕ) (d : N.D) → tag_of (declared N) d ≡ k → ((v : ValuesAt N.parts k) → P (at N k v)) → P d
  is_one k d e p = subst⁻¹ P (lives_at N d k e).1 (p (lives_at N d k e).0)

  found : (ks : List ℕ) (d : N.D) → P d → Each ks d
  found [] d q = q
  found (k ∷ ks) d q = λ p. found ks d q

  -- In an arm for several variants, what holds of each of them holds of the value.
  pub each_of : (ks : List ℕ) (d : N.D) → OneOf ks (tag_of (declared N) d) → Each ks d
  each_of [] d h = absurd h
  each_of (k ∷ []) d e = is_one k d e
  each_of (k ∷ j ∷ ks) d (inl e) = λ p. found (j ∷ ks) d (is_one k d e p)
  each_of (k ∷ j ∷ ks) d (inr h) = λ p. each_of (j ∷ ks) d h

-- A value in a range below m needs no test that it is below m.
pub in_bits : (m a k : ℕ) → k < m → (v : ℕ) → (ltb v m && (leb a v && leb v k)) ≡ (leb a v && leb v k)
in_bits m a k h v = go (leb v k) refl
  where
    go : (b : Bool) → leb v k ≡ b → (ltb v m && (leb a v && leb v k)) ≡ (leb a v && leb v k)
    go true e = rw (lt-ltb v m (omega (arith, leb-true v k e)))
    go false e = simp (e, and-false)
