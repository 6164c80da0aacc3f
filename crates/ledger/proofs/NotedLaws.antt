-- The rows that entries leave, where those which the entries name are noted by TYPE. Assumes nothing.
use mathlib.Core.Bool.{Bool, true, false, true≢false, false≢true}
use mathlib.Core.List.{List, ◌∷◌}
use mathlib.Core.Option.{Option}
use mathlib.Core.Path.{◌≡◌, refl, ap, sym, ◌∙◌, subst}
use Prim.Native.Nat.{ℕ, ◌+◌, ◌<◌}
use native.Mathlib.Omega.{arith}
use lib.Dec.{eqb}
use lib.ListN.{length, get_or, set, replicate}
use lib.Seq.{get_or-set_same, get_or-set_other, set-get_or}
use borrow.Author.Tests.{eqb-true, eqb-false}
use Rattle.octets.specs.Choice.{pick}
use Rattle.octets.proofs.Cases.{test}
use Rattle.rows.specs.Rows.{Row, Entry, add_up, row_of, has}
use Rattle.rows.specs.Posting.{rows_for, add_entry, Sorted}
use Rattle.rows.proofs.Rows.{sorted_add, row-own, row_other, length_add, rows_step}
use Rattle.rows.proofs.Theorems.{adding_key}
use Rattle.ledger.proofs.TableLaws.{get_same}

-- The notes

-- where a TYPE has not been seen, its row is what it was; else it is as noted
pub record Seen (Q : ℕ → Option Row → Type 0) (rows now : List Row) (first : ℕ) (seen : List Bool) : Type 0 where
  pub other : (u : ℕ) → get_or seen u false ≡ false → row_of now (first + u) ≡ row_of rows (first + u)
  pub own : (u : ℕ) → get_or seen u false ≡ true → Q u (row_of now (first + u))

-- at first none has been seen
none_seen : {P : Type 0} (n u : ℕ) → get_or (replicate n false) u false ≡ true → P
none_seen n u h = absurd (false≢true (sym (get_same false n u) ∙ h))

pub seen_none : (Q : ℕ → Option Row → Type 0) (rows : List Row) (first n : ℕ) → Seen Q rows rows first (replicate n false)
seen_none Q rows first n = record { other = λ u h. refl; own = λ u h. none_seen n u h }

module _ (seen : List Bool) (t : ℕ) where
  -- a TYPE that has been seen is seen again
  pub seen_again : get_or seen t false ≡ true → seen ≡ set seen t true
  seen_again h = subst (λ b. seen ≡ set seen t b) h (sym (set-get_or seen t false))

  -- a TYPE is seen, and no other
  seen_same : t < length seen → (u : ℕ) → t ≡ u → get_or (set seen t true) u false ≡ true
  seen_same h u q = subst (λ v. get_or (set seen t true) v false ≡ true) q (get_or-set_same seen t true false h)

  seen_far : (u : ℕ) → (t ≡ u → ⊥) → get_or (set seen t true) u false ≡ get_or seen u false
  seen_far u n = get_or-set_other seen t u true false (λ q. n (sym q))

  -- what is said of each that has been seen
  seen_own : {Q R : ℕ → Type 0} → ((u : ℕ) → (t ≡ u → ⊥) → Q u → R u) → R t
      → ((u : ℕ) → get_or seen u false ≡ true → Q u) → (u : ℕ) → get_or (set seen t true) u false ≡ true → R u
  seen_own {Q} {R} keeps new own u g =
      test (eqb t u) (λ y. subst R (eqb-true t u y) new)
      (λ z. let n = eqb-false t u z in keeps u n (own u (sym (seen_far u n) ∙ g)))

-- a TYPE is seen, its row noted, and no other row changes
seen_set : {Q R : ℕ → Option Row → Type 0} {rows now next : List Row} {first : ℕ} {seen : List Bool} (t : ℕ) → t < length seen
    → ((u : ℕ) → (t ≡ u → ⊥) → row_of next (first + u) ≡ row_of now (first + u))
    → ((u : ℕ) → (t ≡ u → ⊥) → (r : Option Row) → Q u r → R u r)
    → R t (row_of next (first + t)) → Seen Q rows now first seen → Seen R rows next first (set seen t true)
seen_set {Q} {R} {rows} {now} {next} {first} {seen} t h stays keeps new s = record {
  other = λ u f. test (eqb t u) (λ y. absurd (true≢false (sym (seen_same seen t h u (eqb-true t u y)) ∙ f)))
      (λ z. let n = eqb-false t u z in stays u n ∙ s.other u (sym (seen_far seen t u n) ∙ f));
  own = seen_own seen t {Q = λ u. Q u (row_of now (first + u))} {R = λ u. R u (row_of next (first + u))}
      (λ u n g. keeps u n (row_of next (first + u)) (subst (Q u) (sym (stays u n)) g)) new s.own;
}

-- Rows that are counted: of a TYPE that has been seen there is a row

pub record Counted (rows : List Row) (first : ℕ) (all rest : List Entry) (seen : List Bool) (many : ℕ) : Type 0 where
  pub now : List Row
  pub rises : Sorted now
  pub same : rows_for now rest ≡ rows_for rows all
  pub counted : length now ≡ many
  pub noted : Seen (λ u r. has r ≡ true) rows now first seen

-- an entry more, of TYPE t
pub counted-more : {rows : List Row} {first : ℕ} {all es rest : List Entry} {seen after : List Bool} {many : ℕ} (m t : ℕ) (e : Entry)
    → e.key ≡ first + t → t < length seen → after ≡ set seen t true → es ≡ e ∷ rest → (c : Counted rows first all es seen many)
    → m ≡ many + pick (has (row_of c.now e.key)) 0 1
    → Counted rows first all rest after m
counted-more {rows} {first} {all} {es} {rest} m t e key h a w c more = record {
  now = add_entry add_up c.now e;
  rises = sorted_add add_up adding_key e c.now c.rises;
  same = rows_step add_up adding_key e c.now rest c.rises ∙ ap (rows_for c.now) (sym w) ∙ c.same;
  counted = omega (arith, length_add add_up adding_key e c.now c.rises);
  noted = subst (Seen _ rows (add_entry add_up c.now e) first) (sym a)
      (seen_set t h (λ u n. row_other add_up adding_key e c.now (first + u) (λ q. n (omega arith))) (λ u n r g. g)
      (subst (λ k. has (row_of (add_entry add_up c.now e) k) ≡ true) key (ap has (row-own add_up adding_key e c.now c.rises))) c.noted);
}
