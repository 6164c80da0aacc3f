-- What a table says at the fields that no item has, and at a category that the box does not read. Assumes nothing.
use mathlib.Core.Path.{◌≡◌, refl, sym, ap}
use mathlib.Core.Bool.{Bool, true, false, ◌||◌, true≢false}
use mathlib.Core.List.{List, [], ◌∷◌}
use Prim.Native.Nat.{ℕ, zero, suc, ◌+◌, ◌*◌, ◌≤◌}
use native.Mathlib.Nat.{zero-add, add-zero, add-suc, suc-add}
use native.Mathlib.Omega.{arith}
use lib.Dec.{eqb}
use lib.ListN.{length, get_or}
use borrow.Author.Tests.{ne_eqb}
use Rattle.octets.specs.Choice.{pick}
use Rattle.layouts.specs.Categories.{Category, cat23, cat65, cat242, category, field_at}
use Rattle.layouts.specs.Presence.{FieldNeed, needs23, needs65, needs242, needs_of}
use Rattle.layouts.specs.Layouts.{kind_of}
use Rattle.layouts.specs.Tables.{layout}
use Rattle.layouts.specs.declared.ends.Kind.{Kind}
use Rattle.layouts.specs.declared.form.Form.{Form}

-- f is none of these; P is what is known before (the order in which a match tells it)
abbrev pub NoneOf : Type 0 → List ℕ → ℕ → Type 0
NoneOf P [] f = P
NoneOf P (k ∷ ks) f = NoneOf (P × (f ≡ k → ⊥)) ks f

abbrev pub has : List ℕ → ℕ → Bool
has [] f = false
has (k ∷ ks) f = eqb f k || has ks f

abbrev pub Unless : Bool → Type 0 → Type 0
Unless true A = Unit {0}
Unless false A = A

-- what is not at one of these places is spare; the first of the list is at place i
abbrev pub Others : List Form → ℕ → List ℕ → Type 0
Others [] i ks = Unit {0}
Others (x ∷ l) i ks = Unless (has ks i) (x ≡ Form.Spare) × Others l (suc i) ks

pub none_has : (P : Type 0) (ks : List ℕ) (f : ℕ) → NoneOf P ks f → (has ks f ≡ false) × P
none_has P [] f h = (refl, h)
none_has P (k ∷ ks) f h =
    let w = none_has (P × (f ≡ k → ⊥)) ks f h in
    (rw (ne_eqb f k w.1.1, w.0), w.1.0)

must : (b : Bool) (A : Type 0) → b ≡ false → Unless b A → A
must true A e h = absurd (true≢false e)
must false A e h = h

spare-at : (l : List Form) (i : ℕ) (ks : List ℕ) → Others l i ks → (f : ℕ) → has ks (i + f) ≡ false → get_or l f Form.Spare ≡ Form.Spare
spare-at [] i ks h f n = refl
spare-at (x ∷ l) i ks h zero n = must (has ks i) (x ≡ Form.Spare) (rw add-zero at n) h.0
spare-at (x ∷ l) i ks h (suc f) n = spare-at l (suc i) ks h.1 f (rw (add-suc, ← suc-add) at n)

-- a field that no match names is spare
pub spare-field : (c : Category) (ks : List ℕ) → Others (Form.Spare ∷ c.fields) 0 ks → (f : ℕ) → NoneOf (Unit {0}) ks f
    → record { 0 = Form.Spare; 1 = Kind.Spare } ≡ field_at c f
spare-field c ks h f n =
    let e = spare-at (Form.Spare ∷ c.fields) 0 ks h f (rw zero-add (none_has (Unit {0}) ks f n).0) in
    sym (ap (λ (x : Form). record { 0 = x; 1 = kind_of (layout x) }) e)

-- a category that no match names has no field and no need
module _ (n : ℕ) (h : NoneOf (Unit {0}) (23 ∷ 65 ∷ 242 ∷ []) n) where
  pub no_fields : category n ≡ record { cat = n; most = 0; fields = [] }
  no_fields = rw (ne_eqb n 23 h.0.0.1, ne_eqb n 65 h.0.1, ne_eqb n 242 h.1)

  pub no_needs : needs_of n ≡ []
  no_needs = rw (ne_eqb n 23 h.0.0.1, ne_eqb n 65 h.0.1, ne_eqb n 242 h.1)

  pub no_field : (f : ℕ) → record { 0 = Form.Spare; 1 = Kind.Spare } ≡ field_at (category n) f
  no_field f = rw no_fields (spare-field (record { cat = n; most = 0; fields = [] }) [] (refl, tt) f tt)

-- what holds of the tables of the three categories, and of a category without field and need, holds of every one
pub by-tables : (P : List FieldNeed → Category → Type 0) → P needs23 cat23 → P needs65 cat65 → P needs242 cat242
    → ((n : ℕ) → P [] (record { cat = n; most = 0; fields = [] })) → (n : ℕ) → P (needs_of n) (category n)
by-tables P a b c d n = go (eqb n 23) (eqb n 65) (eqb n 242)
  where
    go : (x y z : Bool) → P (pick x needs23 (pick y needs65 (pick z needs242 []))) (pick x cat23 (pick y cat65 (pick z cat242 (record { cat = n; most = 0; fields = [] }))))
    go true y z = a
    go false true z = b
    go false false true = c
    go false false false = d n

-- seven fields to each specification octet, of which there are at most two
pub seven-each : (n : ℕ) → (length (category n).fields ≡ (category n).most * 7) × ((category n).most ≤ 2)
seven-each =
    by-tables (λ rs c. (length c.fields ≡ c.most * 7) × (c.most ≤ 2)) (refl, omega arith) (refl, omega arith) (refl, omega arith)
    (λ n. (refl, omega arith))
