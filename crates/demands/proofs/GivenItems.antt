-- An item to be written, and the marked items in field order: 7, 8 and 11 are given when document 01 says, and only then (specs/GivenWriting.antt).
-- Assumes nothing.
use mathlib.Core.Bool.{Bool, true, false, ◌&&◌, false≢true, true≢false}
use mathlib.Core.List.{List, [], ◌∷◌}
use mathlib.Core.Logic.{◌↔◌, ◌⊎◌, inl, inr}
use mathlib.Core.Path.{◌≡◌, refl, sym, ◌∙◌, subst}
use Prim.Native.Nat.{ℕ, zero, suc, ◌+◌, ◌*◌, ◌<◌}
use native.Mathlib.Nat.{zero-mul, suc-mul, add-zero}
use native.Mathlib.Omega.{arith}
use borrow.Author.Tests.{ltb-true, ltb-false, leb-false, eqb-true, eqb-false, lt-ltb, le-ltb, lt-leb, eq-eqb, ne_eqb}
use lib.Dec.{ltb, leb, eqb}
use lib.ListN.{length, get_or}
use Rattle.octets.specs.Choice.{pick}
use Rattle.octets.specs.Numbers.{number}
use Rattle.octets.specs.Refusals.{passes_end, no_count, out_of_range}
use Rattle.octets.proofs.Cases.{test, choose}
use Rattle.layouts.specs.Groups.{values, fits, Group}
use Rattle.layouts.specs.Formats.{Format, fits_in}
use Rattle.layouts.specs.Layouts.{is_unused, times, counted, format}
use Rattle.layouts.specs.Offsets.{groups_at}
use Rattle.layouts.specs.Tables.{layout}
use Rattle.layouts.specs.declared.form.Form.{Form}
use Rattle.items.specs.Typed.{Supply, exact, placed, given, given_refusal, item_format, item_refusal}
use Rattle.items.specs.declared.typed.Item.{Item}
use Rattle.items.specs.declared.typed.Item.TheVariants as item
use Rattle.items.proofs.Entries.{entries_fit_lem}
use Rattle.items.proofs.Judged.{placed-refusal}
use Rattle.blocks.specs.Meaning.{item_in}
use Rattle.blocks.specs.Steps.{entry_values}
use Rattle.blocks.specs.declared.record.Record.{Record}
use Rattle.writing.specs.Judged.{items_refusal}
use Rattle.writing.proofs.ItemsWritten.{none_of}
use Rattle.demands.specs.GivenWriting.{Inside, PlaceOutside, NoneGiven, EntryOut, DoesNotFit, ItemFault}

and_not : (a b : Bool) → b ≡ false → (a && b) ≡ false
and_not true b h = h
and_not false b h = refl

-- Entries: all fit, or one does not

module _ (s : List ℕ) (g : Group) where
  abbrev OneOut : ℕ → ℕ → Type 0
  OneOut n at = (j : ℕ) × (j < n) × (fits g.parts (entry_values s g at j) ≡ false)

  entry_first : (at : ℕ) → entry_values s g at 0 ≡ values g.parts (number g.wide s at)
  entry_first at = rw (zero-mul, add-zero)

  entry_next : (at j : ℕ) → entry_values s g at (suc j) ≡ entry_values s g (at + g.wide) j
  entry_next at j = let e : at + suc j * g.wide ≡ at + g.wide + j * g.wide = omega (arith, suc-mul j g.wide) in rw e

  one_out : (n at : ℕ) → entries_fit_lem n g s at ≡ false → OneOut n at
  unfolding times groups_at fits_in
  one_out zero at h = absurd (true≢false h)
  one_out (suc n) at h = go (fits g.parts (values g.parts (number g.wide s at))) refl h (one_out n (at + g.wide))
    where
      go : (b : Bool) → fits g.parts (values g.parts (number g.wide s at)) ≡ b → (b && entries_fit_lem n g s (at + g.wide)) ≡ false
          → (entries_fit_lem n g s (at + g.wide) ≡ false → OneOut n (at + g.wide)) → OneOut (suc n) at
      go false e h k = (0, omega arith, rw (entry_first at) e)
      go true e h k = let w = k h in (suc w.0, omega arith, rw (entry_next at w.0) w.2)

  out_one : (n at j : ℕ) → j < n → fits g.parts (entry_values s g at j) ≡ false → entries_fit_lem n g s at ≡ false
  unfolding times groups_at fits_in
  out_one zero at j l h = absurd (omega arith)
  out_one (suc n) at zero l h = rw (rw (entry_first at) at h)
  out_one (suc n) at (suc j) l h =
      and_not (fits g.parts (values g.parts (number g.wide s at))) (entries_fit_lem n g s (at + g.wide))
      (out_one n (at + g.wide) j (omega arith) (rw (entry_next at j) at h))

-- An item

-- what refuses it, test by test
module _ (s : List ℕ) where
  -- entries and content have the format of what counts them
  abbrev Formed : Format → Supply → Type 0
  Formed f (exact vs) = Unit {0}
  Formed f (placed e g p) = f ≡ counted e g

  formed : (i : Item) → Formed (item_format i) (given i)
  unfolding format
  formed item.Absent = tt
  formed (item.Source x) = tt
  formed (item.MessageType x) = tt
  formed (item.Service x) = tt
  formed (item.Identification x) = tt
  formed (item.Time x) = tt
  formed (item.Batch x) = tt
  formed (item.Sdps x) = tt
  formed (item.Report x) = tt
  formed (item.Station x) = tt
  formed (item.Configuration x) = tt
  formed (item.Range x) = tt
  formed (item.Status x) = tt
  formed (item.Statistics p) = refl
  formed (item.Versions p) = refl
  formed (item.Expansion p) = refl
  formed (item.Purpose p) = refl

  given_cases : (P : ℕ → Type 0) (f : Format) (x : Supply) → Formed f x → (PlaceOutside s x → P passes_end) → (NoneGiven s x → P no_count)
      → (DoesNotFit s f x → P out_of_range) → P 0 → P (given_refusal s f x)
  given_cases P f (exact vs) h out none not-fit fine = choose P (fits_in f vs) (λ t. fine) (λ e. not-fit e)
  given_cases P f (placed e g p) h out none not-fit fine =
      subst (λ k. P (given_refusal s k (placed e g p))) (sym h)
      (subst P (sym (placed-refusal s e g p))
      (choose P (ltb (length s) (p.at + p.count * g.wide)) (λ a. out (ltb-true _ _ a)) λ a.
      let lies : Inside s g p = ltb-false _ _ a in
      choose P (eqb p.count 0) (λ b. none (lies, eqb-true _ _ b)) λ b.
      let some : p.count ≡ 0 → ⊥ = eqb-false _ _ b in
      choose P (few && entries_fit_lem p.count g s p.at) (λ c. fine) (λ c. not-fit (lies, omega arith, some_out c))))
    where
      few : Bool
      few = leb (p.count + e) 255

      some_out : (few && entries_fit_lem p.count g s p.at) ≡ false → (255 < p.count + e) ⊎ EntryOut s g p
      some_out c = test few (λ a. inr (one_out s g p.count p.at (rw a at c))) (λ a. inl (leb-false (p.count + e) 255 a))

  given-outside : (f : Format) (x : Supply) → PlaceOutside s x → given_refusal s f x ≡ passes_end
  given-outside f (exact vs) h = absurd h
  given-outside f (placed e g p) h = rw (lt-ltb (length s) (p.at + p.count * g.wide) h)

  given-none : (f : Format) (x : Supply) → NoneGiven s x → given_refusal s f x ≡ no_count
  given-none f (exact vs) h = absurd h
  given-none f (placed e g p) h = rw (le-ltb (length s) (p.at + p.count * g.wide) h.0, eq-eqb p.count 0 h.1)

  given-wide : (f : Format) (x : Supply) → Formed f x → DoesNotFit s f x → given_refusal s f x ≡ out_of_range
  given-wide f (exact vs) h w = rw w
  given-wide f (placed e g p) h w =
      rw (h, placed-refusal s e g p, le-ltb (length s) (p.at + p.count * g.wide) w.0, ne_eqb p.count 0 (λ z. omega arith), not_all w.2)
    where
      not_all : (255 < p.count + e) ⊎ EntryOut s g p → (leb (p.count + e) 255 && entries_fit_lem p.count g s p.at) ≡ false
      not_all (inl l) = rw (lt-leb (p.count + e) 255 l)
      not_all (inr x) = and_not (leb (p.count + e) 255) (entries_fit_lem p.count g s p.at) (out_one s g p.count p.at x.0 x.1 x.2)

  module _ (i : Item) where
    pub item-fault : (n : ℕ) → item_refusal s i ≡ n → (n ≡ 0 → ⊥) → ItemFault s i n
    item-fault n =
        given_cases (λ m. m ≡ n → (n ≡ 0 → ⊥) → ItemFault s i n) (item_format i) (given i) (formed i)
        (λ w e d. ItemFault.outside w (sym e)) (λ w e d. ItemFault.empty w (sym e)) (λ w e d. ItemFault.wide w (sym e)) (λ e d. absurd (d (sym e)))

    pub fault-item : (n : ℕ) → ItemFault s i n → item_refusal s i ≡ n
    fault-item n (ItemFault.outside w e) = given-outside (item_format i) (given i) w ∙ sym e
    fault-item n (ItemFault.empty w e) = given-none (item_format i) (given i) w ∙ sym e
    fault-item n (ItemFault.wide w e) = given-wide (item_format i) (given i) (formed i) w ∙ sym e

    pub not_zero : (n : ℕ) → ItemFault s i n → n ≡ 0 → ⊥
    not_zero n (ItemFault.outside w e) z = omega arith
    not_zero n (ItemFault.empty w e) z = omega arith
    not_zero n (ItemFault.wide w e) z = omega arith

    -- An item: 7, 8, 11 given when, and only then; and no other number.
    pub item-given : (n : ℕ) → ((item_refusal s i ≡ n) × (n ≡ 0 → ⊥)) ↔ ItemFault s i n
    item-given n = (λ w. item-fault n w.0 w.1, λ w. (fault-item n w, not_zero n w))

    pub item_given_0 : (item_refusal s i ≡ 0) ↔ ((m : ℕ) → ItemFault s i m → ⊥)
    item_given_0 = (
      λ z m w. not_zero m w (sym (fault-item m w) ∙ z),
      λ f. test (eqb (item_refusal s i) 0) (eqb-true _ _) (λ e. absurd (f (item_refusal s i) (item-fault _ refl (eqb-false _ _ e)))),
    )

-- Items in field order

module _ (s : List ℕ) (t : Record) where
  abbrev pub on : List Form → ℕ → ℕ
  on fs i = item_refusal s (item_in t (get_or fs i Form.Spare))

  -- one is refused, and no marked one before it
  abbrev pub First : List Bool → List Form → ℕ → Type 0
  First bs fs n = (i : ℕ) × (get_or bs i false ≡ true) × ((j : ℕ) → j < i → get_or bs j false ≡ true → on fs j ≡ 0) × (on fs i ≡ n)

  first_next : (b : Bool) (bs : List Bool) (f : Form) (fs : List Form) (n : ℕ) → (b ≡ true → item_refusal s (item_in t f) ≡ 0) → First bs fs n
      → First (b ∷ bs) (f ∷ fs) n
  first_next b bs f fs n h (i, m, before, e) = (suc i, m, all, e)
    where
      all : (j : ℕ) → j < suc i → get_or (b ∷ bs) j false ≡ true → on (f ∷ fs) j ≡ 0
      all zero l m = h m
      all (suc j) l m = before j (omega arith) m

  pub first_of : (bs : List Bool) (fs : List Form) (n : ℕ) → (n ≡ 0 → ⊥) → items_refusal s t bs fs ≡ n → First bs fs n
  unfolding items_refusal
  first_of [] fs n d h = absurd (d (sym h))
  first_of (b ∷ bs) [] n d h = absurd (d (sym h))
  first_of (false ∷ bs) (f ∷ fs) n d h = first_next false bs f fs n (λ e. absurd (false≢true e)) (first_of bs fs n d h)
  first_of (true ∷ bs) (f ∷ fs) n d h = go (eqb (item_refusal s (item_in t f)) 0) refl h (first_of bs fs n d)
    where
      go : (b : Bool) → eqb (item_refusal s (item_in t f)) 0 ≡ b → pick b (items_refusal s t bs fs) (item_refusal s (item_in t f)) ≡ n
          → (items_refusal s t bs fs ≡ n → First bs fs n) → First (true ∷ bs) (f ∷ fs) n
      go true e h k = first_next true bs f fs n (λ x. eqb-true _ _ e) (k h)
      go false e h k = (0, refl, (λ j l. absurd (omega arith)), h)

  skip : (b : Bool) (f : Form) → (b ≡ true → item_refusal s (item_in t f) ≡ 0) → pick b (item_refusal s (item_in t f)) 0 ≡ 0
  skip true f h = h refl
  skip false f h = refl

  pub of_first : (bs : List Bool) (fs : List Form) (n i : ℕ) → (n ≡ 0 → ⊥) → i < length fs → get_or bs i false ≡ true
      → ((j : ℕ) → j < i → get_or bs j false ≡ true → on fs j ≡ 0) → on fs i ≡ n → items_refusal s t bs fs ≡ n
  unfolding items_refusal
  of_first [] fs n i d l m before e = absurd (false≢true m)
  of_first (b ∷ bs) [] n i d l m before e = absurd (omega arith)
  of_first (b ∷ bs) (f ∷ fs) n zero d l m before e = rw (m, e, ne_eqb n 0 d)
  of_first (b ∷ bs) (f ∷ fs) n (suc i) d l m before e =
      rw (skip b f (before 0 (omega arith))) (of_first bs fs n i d (omega arith) m (λ j k. before (suc j) (omega arith)) e)

  pub all-good : (bs : List Bool) (fs : List Form) → items_refusal s t bs fs ≡ 0 → (i : ℕ) → i < length fs → get_or bs i false ≡ true → on fs i ≡ 0
  unfolding items_refusal
  all-good [] fs h i l m = absurd (false≢true m)
  all-good (b ∷ bs) [] h i l m = absurd (omega arith)
  all-good (b ∷ bs) (f ∷ fs) h zero l m = rw m at (none_of (pick b (item_refusal s (item_in t f)) 0) (items_refusal s t bs fs) h).0
  all-good (b ∷ bs) (f ∷ fs) h (suc i) l m = all-good bs fs (none_of (pick b (item_refusal s (item_in t f)) 0) (items_refusal s t bs fs) h).1 i (omega arith) m

  pub good-all : (bs : List Bool) (fs : List Form) → ((i : ℕ) → i < length fs → get_or bs i false ≡ true → on fs i ≡ 0) → items_refusal s t bs fs ≡ 0
  unfolding items_refusal
  good-all [] fs h = refl
  good-all (b ∷ bs) [] h = refl
  good-all (b ∷ bs) (f ∷ fs) h =
      rw (skip b f (h 0 (omega arith))) (good-all bs fs (λ i l. h (suc i) (omega arith)))

-- a field that is not spare is one of the category's
pub there : (fs : List Form) (i : ℕ) → is_unused (layout (get_or fs i Form.Spare)) ≡ false → i < length fs
there [] i h = absurd (true≢false h)
there (f ∷ fs) zero h = omega arith
there (f ∷ fs) (suc i) h = omega (arith, there fs i h)
