-- A record has the items that it must have: its category's mandatory ones, and field by field what the rule of its type asks. Assumes nothing.
use mathlib.Core.Path.{◌≡◌, refl, sym, ap, ◌∙◌}
use mathlib.Core.Bool.{Bool, true, false, false≢true}
use mathlib.Core.List.{List, [], ◌∷◌}
use Prim.Native.Nat.{ℕ, zero, suc, ◌+◌, ◌-◌, ◌≤◌}
use native.Mathlib.Omega.{arith}
use lib.ListN.{length, get_or}
use Rattle.std.specs.List.{list_all, range_with_len}
use Rattle.std.proofs.lemmas.List.Folds.{list_all_at}
use Rattle.std.proofs.lemmas.List.FromFn.{length-range_with_len, get_or-range_with_len}
use Rattle.octets.proofs.Cases.{test}
use Rattle.layouts.specs.Categories.{category, field_marks}
use Rattle.layouts.specs.Presence.{FieldNeed, needs23, types65, needs65, needs242, needs_of, need_at, rule_at, mandatory, met, meets}
use Rattle.layouts.specs.declared.presence.Need.{Need}
use Rattle.layouts.specs.declared.presence.Need.TheVariants.{M}
use Rattle.layouts.specs.declared.presence.Rule.{Rule}
use Rattle.layouts.proofs.Categories.{by-tables}
use Rattle.layouts.proofs.Rules.{MetAt, met_at, all-met, needs_apart, in_every_type}
use Rattle.blocks.specs.Marks.{flags_of, marked, has_all}
use Rattle.blocks.proofs.MarksLaws.{marked-at}

-- the need that a rule has is the table's
pub need-is : (n t f : ℕ) {r : Rule} {k : Need} → r ≡ rule_at n t f → r.0 ≡ k → (b : Bool) → met k b ≡ met (need_at (needs_of n) t f) b
unfolding rule_at
need-is n t f is e b = λ i. met ((sym e ∙ ap (λ (r : Rule). r.0) is) i) b

-- where all needs are met the mandatory items are there
has-mandatory : (t m n : ℕ) → meets (needs_of n) t (flags_of 32 m) ≡ true → has_all 32 (field_marks (mandatory (needs_of n))) m ≡ true
unfolding flags_of has_all
has-mandatory t m =
    let is : (rs : List FieldNeed) → meets rs t (flags_of 32 m) ≡ true → (f : ℕ) → MetAt t (flags_of 32 m) rs f = λ rs h f. met_at t (flags_of 32 m) rs f h in
    by-tables (λ rs c. meets rs t (flags_of 32 m) ≡ true → has_all 32 (field_marks (mandatory rs)) m ≡ true)
    (λ h. rw (is needs23 h 2, is needs23 h 4))
    (λ h.
    let e = in_every_type types65 (M ∷ M ∷ M ∷ []) refl t in
    rw (rw e at (is needs65 h 1), rw e at (is needs65 h 2), rw e at (is needs65 h 3), rw e at (is needs65 h 4)))
    (λ h. rw (is needs242 h 1, is needs242 h 2, is needs242 h 3))
    (λ k h. refl)

-- Of a record of category n and type t with these marks
module _ (n t m : ℕ) where
  abbrev all : Bool
  all = meets (needs_of n) t (flags_of 32 m)

  -- a mandatory item is missing
  pub lacks_one : {k : ℕ} → k ≡ field_marks (mandatory (needs_of n)) → {x : Bool} → x ≡ has_all 32 k m → x ≡ false → x ≡ all
  lacks_one is tested h =
      h ∙ test all (λ e. absurd (false≢true (sym h ∙ tested ∙ ap (λ (k : ℕ). has_all 32 k m) is ∙ has-mandatory t m n e))) sym

  -- a field is as its rule asks
  abbrev pub met_at_field : ℕ → Bool
  met_at_field f = met (need_at (needs_of n) t f) (marked m f)

  met-same : (f : ℕ) → 1 ≤ f → met_at_field f ≡ met (need_at (needs_of n) t f) (get_or (flags_of 32 m) (f - 1) false)
  met-same f l = ap (met (need_at (needs_of n) t f)) (marked-at m f l)

  -- where all are, so are the k fields from a on
  each : (a k : ℕ) → all ≡ true → 1 ≤ a → list_all met_at_field (range_with_len a k) ≡ true
  each a zero h l = refl
  each a (suc k) h l = rw (met-same a l ∙ met_at t (flags_of 32 m) (needs_of n) a h, each (a + 1) k h (omega arith))

  -- and each of k fields is, where all of them are
  one : (k f : ℕ) → list_all met_at_field (range_with_len 1 k) ≡ true → 1 ≤ f → f ≤ k → met_at_field f ≡ true
  one k f h l u =
      let here : 1 + (f - 1) ≡ f = omega arith in
      let at : get_or (range_with_len 1 k) (f - 1) 0 ≡ f = get_or-range_with_len 1 k (f - 1) 0 (omega arith) ∙ here in
      test (met_at_field f) (λ e. e) (λ e. absurd (false≢true
      (sym (list_all_at met_at_field (range_with_len 1 k) (f - 1) 0 (rw length-range_with_len (omega arith)) (rw at e)) ∙ h)))

  -- all fields of the category
  pub met_all : (k : ℕ) → k ≡ length (category n).fields → list_all met_at_field (range_with_len 1 k) ≡ all
  met_all k is =
      test (list_all met_at_field (range_with_len 1 k))
      (λ h. h ∙ sym (all-met t (flags_of 32 m) k (needs_of n) (rw is (needs_apart n)) (λ f l u. sym (met-same f l) ∙ one k f h l u)))
      (λ h. h ∙ test all (λ e. absurd (false≢true (sym h ∙ each 1 k e (omega arith)))) sym)
