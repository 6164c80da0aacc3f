-- Loading, storing and turning: 16 and 12 are given when document 01's table says, and only then (specs/GivenPages.antt). Assumes nothing.
use mathlib.Core.Bool.{true, false, false≢true}
use mathlib.Core.List.{List, []}
use mathlib.Core.Logic.{◌↔◌, ◌⊎◌, inl, inr}
use mathlib.Core.Path.{◌≡◌, refl, sym, ap, ◌∙◌}
use Prim.Native.Nat.{ℕ, ◌+◌, ◌*◌, ◌≤◌}
use native.Mathlib.Omega.{arith}
use borrow.Author.Tests.{leb-true, eqb-true}
use lib.Dec.{leb, eqb}
use lib.ListN.{length}
use Rattle.octets.specs.Numbers.{Octets}
use Rattle.octets.specs.Outcomes.{no, puts}
use Rattle.octets.specs.Refusals.{rules_broken}
use Rattle.octets.specs.Written.{Written}
use Rattle.octets.proofs.Cases.{test, choose}
use Rattle.octets.proofs.Outcomes.{no_same, puts-same, not_puts}
use Rattle.rows.specs.Rows.{no_time}
use Rattle.rows.specs.Posting.{Each}
use Rattle.rows.proofs.Cases.{either}
use Rattle.blocks.specs.Statistics.{latest_time}
use Rattle.ledger.specs.Steps.{Narrow}
use Rattle.ledger.proofs.RowPlaces.{each_map}
use Rattle.ledger.specs.Ledgers.{answer, rows_of, cells_of, keeps_rules}
use Rattle.pages.specs.Pages.{old, new, row_long, starts, page_of, store_of, count_in, rows_in, cells_in, head_keeps, load_of, turn_of}
use Rattle.pages.specs.declared.forms.Form.{Form}
use Rattle.pages.specs.declared.forms.Table.{Table}
use Rattle.pages.proofs.PageTheorems.{page-ruled}
use Rattle.ledger.specs.Answer.{Answer}
use Rattle.ledger.specs.declared.Ledger.{Ledger}
use Rattle.pages.proofs.PageLaws.{Stand, head-says, head_so}
use Rattle.demands.specs.Operations.{Loads, Stores, Turns}
use Rattle.demands.specs.Given.{own}
use Rattle.demands.specs.GivenPages.{OldHead, NewHead, Page, NoPage, StoreFault, TurnFault}
use Rattle.demands.proofs.GivenOutputs.{output_given, output_written}

-- A page's head, in words.
pub old_head-given : (s : List ℕ) → (head_keeps old s ≡ true) ↔ OldHead s
unfolding starts Stand row_long
old_head-given s =
    let z : 8 + 0 * count_in s ≡ 8 = omega arith in (
      λ h.
          let w = head-says old s h in
          let n = w.stands in
          record { few = w.few; keys = n.0 ∙ z; readings = n.1.0; size = n.1.1.0; long = w.long },
      λ w. head_so old s w.few (w.keys ∙ sym z, (w.readings, (w.size, tt))) w.long,
    )

pub new_head-given : (s : List ℕ) → (head_keeps new s ≡ true) ↔ NewHead s
unfolding starts Stand row_long
new_head-given s =
    let z : 10 + 0 * count_in s ≡ 10 = omega arith in (
      λ h.
          let w = head-says new s h in
          let n = w.stands in
          record { few = w.few; keys = n.0 ∙ z; readings = n.1.0; times = n.1.1.0; size = n.1.1.1.0; long = w.long },
      λ w. head_so new s w.few (w.keys ∙ sym z, (w.readings, (w.times, (w.size, tt)))) w.long,
    )

-- No octets have the head of both.
pub not_both : (s : List ℕ) → OldHead s → NewHead s → ⊥
not_both s o n = let e : ◌≡◌ {A = ℕ} 8 10 = sym o.keys ∙ n.keys in omega arith

not_new : (s : List ℕ) → head_keeps old s ≡ true → head_keeps new s ≡ false
not_new s o = test (head_keeps new s) (λ t. absurd (not_both s ((old_head-given s).0 o) ((new_head-given s).0 t))) (λ f. f)

not_old : (s : List ℕ) → head_keeps new s ≡ true → head_keeps old s ≡ false
not_old s n = test (head_keeps old s) (λ t. absurd (not_both s ((old_head-given s).0 t) ((new_head-given s).0 n))) (λ f. f)

-- A time on a page is at most 11,059,327, or all ones; octets with another one are no page.
pub page-times : (s : List ℕ) → Octets s → Page new s → Each (λ r. (r.time ≤ 11059327) ⊎ (r.time ≡ 0xFFFFFFFF)) (rows_in new s)
page-times s o p =
    each_map Narrow (λ r. (r.time ≤ 11059327) ⊎ (r.time ≡ 0xFFFFFFFF))
    (λ r n. either (leb r.time latest_time) (eqb r.time no_time) n.2 (λ t. inl (leb-true _ _ t)) (λ t. inr (eqb-true _ _ t)))
    (rows_in new s) (page-ruled Form.New s o (rw (p.0, p.1))).1

-- Loading

module _ (ts : List Table) (s : List ℕ) where
  -- octets are a page, or not
  pub page_or_not : {P : Type 0} → (Page ts s → P) → (NoPage ts s → P) → P
  page_or_not good bad =
      test (head_keeps ts s) (λ t. test (keeps_rules (cells_in ts s)) (λ u. good (t, u)) (λ f. bad (inr (t, f)))) (λ f. bad (inl f))

  pub load_page : Page ts s → load_of ts s ≡ answer 0 (cells_in ts s)
  unfolding load_of
  load_page p = rw (p.0, p.1)

  pub load_none : NoPage ts s → load_of ts s ≡ answer rules_broken (cells_of [])
  unfolding load_of
  load_none (inl f) = rw f
  load_none (inr w) = rw (w.0, w.1)

module _ (s : List ℕ) (r : Answer) (h : Loads s r) where
  -- "16: ledger or page breaks its rules": with a fresh ledger.
  pub load_given_16 : (r.refusal ≡ rules_broken) ↔ NoPage new s
  load_given_16 = (
    λ e. page_or_not new s (λ p. absurd (let z : ◌≡◌ {A = ℕ} 16 0 = sym e ∙ ap (λ (a : Answer). a.refusal) (h ∙ load_page new s p) in omega arith)) (λ w. w),
    λ w. ap (λ (a : Answer). a.refusal) (h ∙ load_none new s w),
  )

  pub load_fresh : NoPage new s → r ≡ answer rules_broken (cells_of [])
  load_fresh w = h ∙ load_none new s w

  -- "0: accepted": a page, and its ledger.
  pub load_given_0 : (r.refusal ≡ 0) ↔ Page new s
  load_given_0 = (
    λ e. page_or_not new s (λ p. p) (λ w. absurd (let z : ◌≡◌ {A = ℕ} 0 16 = sym e ∙ ap (λ (a : Answer). a.refusal) (h ∙ load_none new s w) in omega arith)),
    λ p. ap (λ (a : Answer). a.refusal) (h ∙ load_page new s p),
  )

  pub load_ledger : Page new s → r ≡ answer 0 (cells_in new s)
  load_ledger p = h ∙ load_page new s p

  -- "a page in the old form gets 16"
  pub load_old : head_keeps old s ≡ true → r.refusal ≡ rules_broken
  load_old o = load_given_16.1 (inl (not_new s o))

  -- no other number answers a load
  pub load_refusals : (r.refusal ≡ 0) ⊎ (r.refusal ≡ rules_broken)
  load_refusals = page_or_not new s (λ p. inl (load_given_0.1 p)) (λ w. inr (load_given_16.1 w))

-- Storing

module _ (l : Ledger) where
  store_no : (n : ℕ) → (store_of new l.cells ≡ no n) ↔ ((keeps_rules l.cells ≡ false) × (n ≡ rules_broken))
  unfolding store_of
  store_no n =
      choose (λ x. (x ≡ no n) ↔ ((keeps_rules l.cells ≡ false) × (n ≡ rules_broken))) (keeps_rules l.cells)
      (λ t. (λ e. absurd (not_puts (sym e)), λ w. absurd (false≢true (sym w.0 ∙ t))))
      (λ f. (λ e. (f, sym (no_same e)), λ w. ap no (sym w.1)))

  pub store_puts : (xs : List ℕ) → (store_of new l.cells ≡ puts xs) ↔ ((keeps_rules l.cells ≡ true) × (page_of new (rows_of l.cells) ≡ xs))
  unfolding store_of
  store_puts xs =
      choose (λ x. (x ≡ puts xs) ↔ ((keeps_rules l.cells ≡ true) × (page_of new (rows_of l.cells) ≡ xs))) (keeps_rules l.cells)
      (λ t. (λ e. (t, cc), λ w. ap puts w.1))
      (λ f. (λ e. absurd (not_puts e), λ w. absurd (false≢true (sym f ∙ w.0))))

  module _ (o out : List ℕ) (n : ℕ) (r : Written) (h : Stores l o out r) where
    -- 16, where the ledger breaks the rules; 12, where it keeps them and the output is shorter than the page.
    pub store_given : (r ≡ Written.Refused n) ↔ StoreFault l o n
    store_given = output_given (store_of new l.cells) _ _ (page_of new (rows_of l.cells)) store_no store_puts o n r h.1

    -- Else the page goes out, and its length is answered.
    pub store_written : (r ≡ Written.Octets n)
        ↔ ((keeps_rules l.cells ≡ true) × (length (page_of new (rows_of l.cells)) ≤ length o) × (n ≡ length (page_of new (rows_of l.cells))))
    store_written = output_written (store_of new l.cells) _ _ (page_of new (rows_of l.cells)) store_no store_puts o n r h.1

-- Turning

module _ (from to : List Table) (s : List ℕ) where
  turn-page : Page from s → turn_of from to s ≡ puts (page_of to (rows_in from s))
  unfolding turn_of
  turn-page p = rw (p.0, p.1)

  turn-none : NoPage from s → turn_of from to s ≡ no rules_broken
  unfolding turn_of
  turn-none (inl f) = rw f
  turn-none (inr w) = rw (w.0, w.1)

  turn-no : (n : ℕ) → (turn_of from to s ≡ no n) ↔ (NoPage from s × (n ≡ rules_broken))
  turn-no n = (
    λ e. page_or_not from s (λ p. absurd (not_puts (sym e ∙ turn-page p))) (λ w. (w, no_same (sym e ∙ turn-none w))),
    λ w. turn-none w.0 ∙ ap no (sym w.1),
  )

  turn-puts : (xs : List ℕ) → (turn_of from to s ≡ puts xs) ↔ (Page from s × (page_of to (rows_in from s) ≡ xs))
  turn-puts xs = (
    λ e. page_or_not from s (λ p. (p, puts-same (sym (turn-page p) ∙ e))) (λ w. absurd (not_puts (sym (turn-none w) ∙ e))),
    λ w. turn-page w.0 ∙ ap puts w.1,
  )

  module _ (o out : List ℕ) (n : ℕ) (r : Written) (h : Turns from to s o out r) where
    -- 16, where the page given is none; 12, where it is one and the output is shorter than the page that it is turned into.
    pub turn-given : (r ≡ Written.Refused n) ↔ TurnFault from to s o n
    turn-given = output_given (turn_of from to s) _ _ (page_of to (rows_in from s)) turn-no turn-puts o n r h.1

    -- Else that page goes out, and its length is answered.
    pub turn-written : (r ≡ Written.Octets n)
        ↔ (Page from s × (length (page_of to (rows_in from s)) ≤ length o) × (n ≡ length (page_of to (rows_in from s))))
    turn-written = output_written (turn_of from to s) _ _ (page_of to (rows_in from s)) turn-no turn-puts o n r h.1

-- A new page is not turned into a new one, nor an old one into an old one.
pub not_turned_new : (s o out : List ℕ) (r : Written) → Turns old new s o out r → head_keeps new s ≡ true → r ≡ Written.Refused rules_broken
not_turned_new s o out r h n = (turn-given old new s o out rules_broken r h).1 (own (inl (not_old s n), refl))

pub not_turned_old : (s o out : List ℕ) (r : Written) → Turns new old s o out r → head_keeps old s ≡ true → r ≡ Written.Refused rules_broken
not_turned_old s o out r h n = (turn-given new old s o out rules_broken r h).1 (own (inl (not_new s n), refl))
