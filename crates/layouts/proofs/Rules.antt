-- What a table of presence says field by field, and what an arm of a match on type and field has to show. Assumes nothing.
use mathlib.Core.Path.{◌≡◌, refl, sym, ap, ◌∙◌}
use mathlib.Core.Bool.{Bool, true, false, ◌&&◌, ◌||◌, not, true≢false, false≢true}
use mathlib.Core.List.{List, [], ◌∷◌}
use Prim.Native.Nat.{ℕ, zero, suc, ◌+◌, ◌-◌, ◌≤◌, ◌<◌}
use native.Mathlib.Omega.{arith}
use borrow.Author.Tests.{eqb-true, eqb-false, eq-eqb, ne_eqb, leb-true}
use lib.Dec.{eqb, leb}
use lib.ListN.{length, get_or, replicate, get_or-eq_default}
use Rattle.octets.specs.Choice.{pick}
use Rattle.octets.proofs.Cases.{both, choose, test, neither}
use Rattle.layouts.specs.Layouts.{kind_of}
use Rattle.layouts.specs.Categories.{category, layout_at}
use Rattle.layouts.specs.Presence.{FieldNeed, Row, in_each, below, untyped, by_type, need_at, needs_of, rule_in, rule_at, met, meets}
use Rattle.layouts.specs.declared.ends.Kind.{Kind}
use Rattle.layouts.specs.declared.form.Form.{Form}
use Rattle.layouts.specs.declared.presence.Need.{Need}
use Rattle.layouts.specs.declared.presence.Need.TheVariants.{M, O, X}
use Rattle.layouts.specs.declared.presence.Rule.{Rule}
use Rattle.layouts.proofs.Categories.{NoneOf, has, none_has, no_needs, no_field, by-tables}

-- Field by field

-- a field has a row
abbrev has_row : ℕ → List FieldNeed → Bool
has_row f [] = false
has_row f (r ∷ rs) = eqb f r.field || has_row f rs

-- each row is of a field from 1 to n that no row behind it has
abbrev pub apart : ℕ → List FieldNeed → Bool
apart n [] = true
apart n (r ∷ rs) = (leb 1 r.field && leb r.field n) && (not (has_row r.field rs) && apart n rs)

no_row : (rs : List FieldNeed) (t f : ℕ) → not (has_row f rs) ≡ true → need_at rs t f ≡ O
no_row [] t f h = refl
no_row (r ∷ rs) t f h = test (eqb f r.field) (λ e. absurd (true≢false (sym (rw e at h)))) (λ e. rw e (no_row rs t f (rw e at h)))

module _ (t : ℕ) (bs : List Bool) where
  -- the need of a field is met
  abbrev pub MetAt : List FieldNeed → ℕ → Type 0
  MetAt rs f = met (need_at rs t f) (get_or bs (f - 1) false) ≡ true

  -- a record that meets all needs meets that of each field
  pub met_at : (rs : List FieldNeed) (f : ℕ) → meets rs t bs ≡ true → MetAt rs f
  unfolding meets
  met_at [] f h = refl
  met_at (r ∷ rs) f h =
      let (a, b) = both (met (r.need t) (get_or bs (r.field - 1) false)) (meets rs t bs) h in
      choose (λ (n : Need). met n (get_or bs (f - 1) false) ≡ true) (eqb f r.field) (λ e. rw (eqb-true f r.field e) a) (λ e. met_at rs f b)

  -- and one that meets that of each field meets them all, where no field has two rows
  pub all-met : (n : ℕ) (rs : List FieldNeed) → apart n rs ≡ true → ((f : ℕ) → 1 ≤ f → f ≤ n → MetAt rs f) → meets rs t bs ≡ true
  unfolding meets
  all-met n [] a h = refl
  all-met n (r ∷ rs) a h =
      let (in-n, others) = both (leb 1 r.field && leb r.field n) (not (has_row r.field rs) && apart n rs) a in
      let (low, high) = both (leb 1 r.field) (leb r.field n) in-n in
      let (once, a') = both (not (has_row r.field rs)) (apart n rs) others in
      let own : met (r.need t) (get_or bs (r.field - 1) false) ≡ true =
      rw (eq-eqb r.field r.field refl) at (h r.field (leb-true _ _ low) (leb-true _ _ high)) in
      let rest : meets rs t bs ≡ true =
      all-met n rs a' (λ f l m. test (eqb f r.field)
      (λ e. rw (no_row rs t f (rw (← eqb-true f r.field e) at once)))
      (λ e. rw e at (h f l m))) in
      rw (own, rest)

-- what is M in each type is M whatever the type
each_below : (types : List ℕ) (ns : List Need) (d : Need) (t : ℕ) → in_each ns ≡ true → d ≡ M → below types ns d t ≡ M
each_below [] ns d t h e = e
each_below (k ∷ ks) [] d t h e = e
each_below (k ∷ ks) (M ∷ ns) d t h e = choose (λ (n : Need). n ≡ M) (eqb t k) (λ x. refl) (λ x. each_below ks ns d t h e)
each_below (k ∷ ks) (O ∷ ns) d t h e = absurd (false≢true h)
each_below (k ∷ ks) (X ∷ ns) d t h e = absurd (false≢true h)

pub in_every_type : (types : List ℕ) (ns : List Need) → in_each ns ≡ true → (t : ℕ) → below types ns (untyped ns) t ≡ M
in_every_type types ns h t = each_below types ns (untyped ns) t h (rw h)

-- the rows of a category are of its fields
pub needs_apart : (n : ℕ) → apart (length (category n).fields) (needs_of n) ≡ true
needs_apart = by-tables (λ rs c. apart (length c.fields) rs ≡ true) refl refl refl (λ n. refl)

-- The arms of a match

-- the rules of n fields from a on, in a type
abbrev rules : ℕ → ℕ → ℕ → ℕ → List Rule
rules cat type a zero = []
rules cat type a (suc n) = rule_in (needs_of cat) (category cat) type a ∷ rules cat type (suc a) n

rule_among : (cat type n a f : ℕ) (r : Rule) → rules cat type a n ≡ replicate n r → a ≤ f → f < a + n → r ≡ rule_in (needs_of cat) (category cat) type f
rule_among cat type zero a f r h l m = absurd (omega arith)
rule_among cat type (suc n) a f r h l m =
    test (eqb f a) (λ e. rw (eqb-true f a e) (cc)) (λ e. rule_among cat type n (suc a) f r (cc) (omega (arith, eqb-false f a e)) (omega arith))

-- an arm that names a type and n fields from a on: all have its rule
pub arm : (cat type a n : ℕ) {r : Rule} → rules cat type a n ≡ replicate n r → {t f : ℕ} → (t ≡ type) × (a ≤ f) × (f < a + n) → r ≡ rule_at cat t f
unfolding rule_at
arm cat type a n {r} h {t} {f} (e, l, m) = rw e (rule_among cat type n a f r h l m)

-- n fields from a on, each with an arm of its own
abbrev named : ℕ → ℕ → List ℕ
named a zero = []
named a (suc n) = a ∷ named (suc a) n

none_named : (n a f : ℕ) → has (named a n) f ≡ false → a ≤ f → a + n ≤ f
none_named zero a f h l = omega arith
none_named (suc n) a f h l =
    let (x, y) = neither (eqb f a) (has (named (suc a) n) f) h in
    omega (arith, none_named n (suc a) f y (omega (arith, eqb-false f a x)))

-- a field from a on that is none of them stands behind them
pub behind : (a n : ℕ) {f : ℕ} → NoneOf (Unit {0}) (named a n) f → a ≤ f → a + n ≤ f
behind a n {f} h l = none_named n a f (none_has (Unit {0}) (named a n) f h).0 l

-- a type that is no heading is as good as none
not_below : (types : List ℕ) (ns : List Need) (d : Need) (t : ℕ) → has types t ≡ false → below types ns d t ≡ d
not_below [] ns d t h = refl
not_below (k ∷ ks) [] d t h = refl
not_below (k ∷ ks) (n ∷ ns) d t h =
    let (x, y) = neither (eqb t k) (has ks t) h in
    rw x (not_below ks ns d t y)

no_heading : (types : List ℕ) (rs : List Row) (t u f : ℕ) → has types t ≡ false → has types u ≡ false
    → need_at (by_type types rs) t f ≡ need_at (by_type types rs) u f
no_heading types [] t u f h k = refl
no_heading types (r ∷ rs) t u f h k =
    let d = untyped r.letters in
    let same : below types r.letters d t ≡ below types r.letters d u = not_below types r.letters d t h ∙ sym (not_below types r.letters d u k) in
    λ i. pick (eqb f r.field) (same i) (no_heading types rs t u f h k i)

-- an arm behind those that name the types
pub arm-untyped : (cat : ℕ) (types : List ℕ) (rs : List Row) → needs_of cat ≡ by_type types rs → has types 0 ≡ false → (a n : ℕ) {r : Rule}
    → rules cat 0 a n ≡ replicate n r → (t : ℕ) {f : ℕ} → NoneOf (Unit {0}) types t × (a ≤ f) × (f < a + n) → r ≡ rule_at cat t f
unfolding rule_at
arm-untyped cat types rs is zeroth a n {r} h t {f} (x, l, m) =
    let same : need_at (by_type types rs) 0 f ≡ need_at (by_type types rs) t f = no_heading types rs 0 t f zeroth (none_has (Unit {0}) types t x).0 in
    rule_among cat 0 n a f r h l m
    ∙ (λ i. record { 0 = (ap (λ (ns : List FieldNeed). need_at ns 0 f) is ∙ same ∙ ap (λ (ns : List FieldNeed). need_at ns t f) (sym is)) i; 1 = kind_of (layout_at (category cat) f) })

past-rows : (n : ℕ) (rs : List FieldNeed) → apart n rs ≡ true → (t f : ℕ) → n < f → need_at rs t f ≡ O
past-rows n [] a t f l = refl
past-rows n (r ∷ rs) a t f l =
    let (in-n, others) = both (leb 1 r.field && leb r.field n) (not (has_row r.field rs) && apart n rs) a in
    let high = (both (leb 1 r.field) (leb r.field n) in-n).1 in
    rw (ne_eqb f r.field (λ e. omega (arith, leb-true r.field n high)))
    (past-rows n rs (both (not (has_row r.field rs)) (apart n rs) others).1 t f l)

-- past the category's last field
pub past : (cat t f : ℕ) → length (category cat).fields < f → record { 0 = O; 1 = Kind.Spare } ≡ rule_at cat t f
unfolding rule_at
past cat t f l =
    rw (get_or-eq_default (Form.Spare ∷ (category cat).fields) Form.Spare {n = f} (omega arith), past-rows (length (category cat).fields) (needs_of cat) (needs_apart cat) t f l)

-- of a category that no match names every field is spare
pub no_rule : (n : ℕ) → NoneOf (Unit {0}) (23 ∷ 65 ∷ 242 ∷ []) n → (t f : ℕ) → record { 0 = O; 1 = Kind.Spare } ≡ rule_at n t f
unfolding rule_at
no_rule n h t f = λ i. record { 0 = need_at (sym (no_needs n h) i) t f; 1 = (no_field n h f i).1 }
