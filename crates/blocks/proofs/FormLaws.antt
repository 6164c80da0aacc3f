-- Forms and their fields: a form's number tells it, its field has it, and no form of items has two fields. Assumes nothing.
use mathlib.Core.Path.{◌≡◌, refl, sym, ap, ◌∙◌}
use mathlib.Core.Bool.{Bool, true, false, ◌&&◌}
use mathlib.Core.List.{List, [], ◌∷◌}
use Prim.Native.Nat.{ℕ, zero, suc, ◌+◌, ◌<◌, ◌≤◌}
use native.Mathlib.Nat.{zero-add, add-zero}
use native.Mathlib.Omega.{arith}
use borrow.Author.Tests.{ltb-true, ltb-false, eqb-true}
use lib.Dec.{ltb, eqb}
use lib.ListN.{length, get_or, get_or-eq_default}
use Rattle.octets.specs.Choice.{pick}
use Rattle.octets.proofs.Cases.{both, test}
use Rattle.layouts.specs.Layouts.{is_unused}
use Rattle.layouts.specs.Tables.{layout}
use Rattle.layouts.specs.Categories.{Category, known, category}
use Rattle.layouts.specs.declared.form.Form.{Form}
use Rattle.layouts.specs.declared.form.Form.TheVariants as form
use Rattle.blocks.specs.Forms.{form_number}
use Rattle.blocks.specs.Typed.{field_after, field_for}
use Rattle.blocks.proofs.WalkSteps.{by-known}

-- Numbers

abbrev all : List Form
all =
    Form.Spare ∷ Form.Source ∷ Form.MessageType ∷ Form.Service ∷ Form.Identification ∷ Form.Time ∷ Form.Batch ∷ Form.Sdps ∷ Form.Report
    ∷ Form.Station ∷ Form.Configuration ∷ Form.Range ∷ Form.Status ∷ Form.Statistics ∷ Form.Versions ∷ Form.Expansion ∷ Form.Purpose ∷ []

in_form_number : (f : Form) → get_or all (form_number f) Form.Spare ≡ f
in_form_number form.Spare = refl
in_form_number form.Source = refl
in_form_number form.MessageType = refl
in_form_number form.Service = refl
in_form_number form.Identification = refl
in_form_number form.Time = refl
in_form_number form.Batch = refl
in_form_number form.Sdps = refl
in_form_number form.Report = refl
in_form_number form.Station = refl
in_form_number form.Configuration = refl
in_form_number form.Range = refl
in_form_number form.Status = refl
in_form_number form.Statistics = refl
in_form_number form.Versions = refl
in_form_number form.Expansion = refl
in_form_number form.Purpose = refl

-- forms with the same number are the same
pub same_form_number : (f g : Form) → form_number f ≡ form_number g → f ≡ g
same_form_number f g h = sym (in_form_number f) ∙ ap (λ (n : ℕ). get_or all n Form.Spare) h ∙ in_form_number g

-- no number is past the last: only the first form would be found there
pub form_number_few : (f : Form) → form_number f < 17
form_number_few f =
    test (ltb (form_number f) 17) (ltb-true (form_number f) 17)
    (λ t.
    let past : Form.Spare ≡ f = sym (get_or-eq_default all Form.Spare {n = form_number f} (ltb-false (form_number f) 17 t)) ∙ in_form_number f in
    omega (arith, ap form_number past))

-- Fields

-- the field of a form has that form
pub field-form : (fs : List Form) (f : Form) (n : ℕ) → field_for fs f ≡ suc n → get_or fs n Form.Spare ≡ f
field-form [] f n h = absurd (omega arith)
field-form (g ∷ fs) f n h = go (eqb (form_number g) (form_number f)) refl (field_for fs f) (field-form fs f) h
  where
    go : (b : Bool) → eqb (form_number g) (form_number f) ≡ b → (k : ℕ) → ((m : ℕ) → k ≡ suc m → get_or fs m Form.Spare ≡ f)
        → pick b 1 (field_after k) ≡ suc n → get_or (g ∷ fs) n Form.Spare ≡ f
    go true e k ih h = let z : n ≡ 0 = omega arith in rw z (same_form_number g f (eqb-true (form_number g) (form_number f) e))
    go false e zero ih h = absurd (omega arith)
    go false e (suc m) ih h = let z : n ≡ suc m = omega arith in rw z (ih m refl)

-- and is one of the fields
pub field-few : (fs : List Form) (f : Form) → field_for fs f ≤ length fs
field-few [] f = omega arith
field-few (g ∷ fs) f = go (eqb (form_number g) (form_number f)) (field_for fs f) (field-few fs f)
  where
    go : (b : Bool) (k : ℕ) → k ≤ length fs → pick b 1 (field_after k) ≤ length (g ∷ fs)
    go true k l = omega arith
    go false zero l = omega arith
    go false (suc k) l = omega arith

-- a form is spare, or field k + 1 is its field
abbrev pub owned : List Form → Form → ℕ → Bool
owned fs f k = pick (is_unused (layout f)) true (eqb (field_for fs f) (suc k))

-- and so from k on
abbrev owns : List Form → List Form → ℕ → Bool
owns fs [] k = true
owns fs (g ∷ gs) k = owned fs g k && owns fs gs (suc k)

owns-at : (fs gs : List Form) (k n : ℕ) → owns fs gs k ≡ true → n < length gs
    → owned fs (get_or gs n Form.Spare) (k + n) ≡ true
owns-at fs [] k n h l = absurd (omega arith)
owns-at fs (g ∷ gs) k zero h l = rw add-zero (both (owned fs g k) (owns fs gs (suc k)) h).0
owns-at fs (g ∷ gs) k (suc n) h l =
    let e : suc k + n ≡ k + suc n = omega arith in
    rw (← e) (owns-at fs gs (suc k) n (both (owned fs g k) (owns fs gs (suc k)) h).1 (omega arith))

-- what a typed record needs of a category: no form at two fields, and entries of one kind
pub record Forms (c : Category) : Type 0 where
  pub same : category c.cat ≡ c
  pub own : owns c.fields c.fields 0 ≡ true
  pub statistics : (i : ℕ) → field_for c.fields Form.Statistics ≡ suc i → eqb c.cat 242 ≡ false
  pub versions : (i : ℕ) → field_for c.fields Form.Versions ≡ suc i → eqb c.cat 242 ≡ true

pub forms : (n : ℕ) → known n ≡ true → Forms (category n)
forms =
    by-known (λ (n : ℕ). Forms (category n))
    (record { same = refl; own = refl; statistics = λ i h. refl; versions = λ i h. absurd (omega arith) })
    (record { same = refl; own = refl; statistics = λ i h. refl; versions = λ i h. absurd (omega arith) })
    (record { same = refl; own = refl; statistics = λ i h. absurd (omega arith); versions = λ i h. refl })

-- the form at a field
pub field-owned : (c : Category) → Forms c → (n : ℕ) → n < length c.fields → owned c.fields (get_or c.fields n Form.Spare) n ≡ true
field-owned c w n l = rw zero-add at (owns-at c.fields c.fields 0 n w.own l)
