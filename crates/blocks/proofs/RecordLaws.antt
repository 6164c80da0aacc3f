-- The specification, the items and the record: reading gives back what was written, and what was read is what writing gives.
-- Assumes nothing.
use mathlib.Core.Path.{◌≡◌, refl, sym, ap, ◌∙◌, subst}
use mathlib.Core.Bool.{Bool, true, false, false≢true}
use mathlib.Core.List.{List, [], ◌∷◌, ◌++◌, append_assoc}
use Prim.Native.Nat.{ℕ, zero, suc, ◌+◌, ◌-◌, ◌*◌, ◌/◌, ◌%◌, ◌≤◌}
use native.Mathlib.Omega.{arith}
use lib.Dec.{eqb}
use lib.ListN.{length, get_or, drop, replicate, length-replicate}
use lib.Seq.{get_or-append-add}
use borrow.Author.Tests.{eq-eqb, ne_eqb, eqb-true}
use Rattle.octets.specs.Choice.{pick, odd}
use Rattle.octets.specs.Numbers.{Octets}
use Rattle.octets.specs.Refusals.{presence_broken}
use Rattle.octets.proofs.Cases.{both}
use Rattle.layouts.specs.Formats.{Parsed, got, and_then, Format, Trace, fits_in, put}
use Rattle.layouts.specs.Categories.{Category}
use Rattle.layouts.proofs.Parsed.{and_yes, through, pick_no, pick_yes, got-refused, OfGot}
use Rattle.layouts.proofs.Suffixes.{item}
use Rattle.layouts.proofs.Formats.{Was, item-put, item-was}
use Rattle.blocks.specs.Specification.{zeros, put_marks}
use Rattle.blocks.specs.Records.{Rec, layout_of, specification_refusal, present, put_items}
use Rattle.blocks.proofs.GoodRecords.{items_fit, good}
use Rattle.blocks.proofs.Suffixes.{specification, items, record_of}

-- The specification

zeros-are : (gs : List ℕ) → zeros gs ≡ true → gs ≡ replicate (length gs) 0
unfolding zeros
zeros-are [] h = refl
zeros-are (g ∷ gs) h =
    let (a, b) = both (eqb g 0) (zeros gs) h in
    cc (eqb-true g 0 a, zeros-are gs b)

pub zeros-replicate : (n : ℕ) → zeros (replicate n 0) ≡ true
unfolding zeros
zeros-replicate zero = refl
zeros-replicate (suc n) = zeros-replicate n

module _ (g : ℕ) where
  even_mark : odd (g * 2) ≡ false
  even_mark = ne_eqb (g * 2 % 2) 1 (λ h. omega arith)

  odd-mark : odd (g * 2 + 1) ≡ true
  odd-mark = eq-eqb ((g * 2 + 1) % 2) 1 (omega arith)

  half_even : g * 2 / 2 ≡ g
  half_even = omega arith

  half-odd : (g * 2 + 1) / 2 ≡ g
  half-odd = omega arith

-- what is written is read back
pub specification-put : (n : ℕ) (gs t : List ℕ) → length gs ≡ suc n → specification n (put_marks gs ++ t) ≡ got gs t
unfolding specification put_marks zeros
specification-put n [] t h = absurd (omega arith)
specification-put zero (g ∷ []) t h = rw (even_mark g, half_even g)
specification-put zero (g ∷ g' ∷ gs) t h = absurd (omega arith)
specification-put (suc n) (g ∷ gs) t h = go (zeros gs) refl (specification-put n gs t (omega arith))
  where
    go : (b : Bool) → zeros gs ≡ b → specification n (put_marks gs ++ t) ≡ got gs t
        → specification (suc n) (pick b (g * 2 ∷ []) ((g * 2 + 1) ∷ put_marks gs) ++ t) ≡ got (g ∷ gs) t
    go true e ih =
        let l : length gs ≡ suc n = omega arith in
        let z : gs ≡ replicate (suc n) 0 = zeros-are gs e ∙ rw l in
        rw (even_mark g, half_even g) (ap (λ (x : List ℕ). got (g ∷ x) t) (sym z))
    go false e ih = rw (odd-mark g, half-odd g, ih)

-- octets o are a specification that marks gs, whatever stands behind them, no shorter than the one that is written
pub record Spec (n : ℕ) (s gs t : List ℕ) : Type 0 where
  pub o : List ℕ
  pub is : s ≡ o ++ t
  pub reads : (q : List ℕ) → specification n (o ++ q) ≡ got gs q
  pub long : length gs ≡ suc n
  pub short : length (put_marks gs) ≤ length o

one-longer : (g : ℕ) (gs : List ℕ) → length (put_marks (g ∷ gs)) ≤ suc (length (put_marks gs))
unfolding put_marks
one-longer g gs = go (zeros gs)
  where
    go : (b : Bool) → length (pick b (g * 2 ∷ []) ((g * 2 + 1) ∷ put_marks gs)) ≤ suc (length (put_marks gs))
    go true = omega arith
    go false = omega arith

alone : (g n : ℕ) → length (put_marks (g ∷ replicate n 0)) ≡ 1
unfolding put_marks
alone g n = rw (zeros-replicate n)

-- what was read is such octets
pub specification-was : (n : ℕ) (s gs t : List ℕ) → specification n s ≡ got gs t → Spec n s gs t
unfolding specification put_marks zeros
specification-was n [] gs t h = absurd (got-refused h)
specification-was zero (x ∷ s) gs t h =
    let (e, last) = pick_no (odd x) _ _ h in
    subst (OfGot (Spec 0 (x ∷ s))) last
    record { o = x ∷ []; is = refl; reads = λ q. rw e; long = refl; short = omega arith }
specification-was (suc n) (x ∷ s) gs t h = go (odd x) refl (specification-was n s) h
  where
    go : (b : Bool) → odd x ≡ b → ((gs r : List ℕ) → specification n s ≡ got gs r → Spec n s gs r)
        → pick b (and_then (specification n s) (λ gs r. got (x / 2 ∷ gs) r)) (got (x / 2 ∷ replicate (suc n) 0) s) ≡ got gs t
        → Spec (suc n) (x ∷ s) gs t
    go true e ih h' =
        let (gs', r, e', last) = through (specification n s) h' in
        let w = ih gs' r e' in
        subst (OfGot (Spec (suc n) (x ∷ s))) last record {
          o = x ∷ w.o;
          is = ap (λ (l : List ℕ). x ∷ l) w.is;
          reads = λ q. rw (e, w.reads q);
          long = ap suc w.long;
          short = omega (arith, one-longer (x / 2) gs', w.short);
        }
    go false e ih h' = subst (OfGot (Spec (suc n) (x ∷ s))) h' record {
      o = x ∷ [];
      is = refl;
      reads = λ q. rw e;
      long = ap (λ k. suc (suc k)) (length-replicate n 0);
      short = omega (arith, alone (x / 2) (suc n));
    }

-- Items

pub items-put : (fs : List Format) (trs : List Trace) (xs : List (List ℕ)) (t : List ℕ) → items_fit fs trs ≡ true
    → items fs (put_items fs trs xs ++ t) ≡ got trs t
unfolding items put_items items_fit
items-put [] [] xs t h = refl
items-put [] (tr ∷ trs) xs t h = absurd (false≢true h)
items-put (f ∷ fs) [] xs t h = absurd (false≢true h)
items-put (f ∷ fs) (tr ∷ trs) xs t h =
    let (a, b) = both (fits_in f tr) (items_fit fs trs) h in
    rw (append_assoc, item-put f tr (get_or xs 0 []) (put_items fs trs (drop 1 xs) ++ t) a, items-put fs trs (drop 1 xs) t b)

-- what is read is what writing gives, with the spare bits that were there
pub record Were (fs : List Format) (s : List ℕ) (trs : List Trace) (t : List ℕ) : Type 0 where
  pub bits : List (List ℕ)
  pub is : s ≡ put_items fs trs bits ++ t
  pub fit : items_fit fs trs ≡ true

pub Octets-tail : (o t s : List ℕ) → s ≡ o ++ t → Octets s → Octets t
Octets-tail o t s e h i = rw (get_or-append-add o t i 0) at (rw e at (h (length o + i)))

were_step : (f : Format) (fs : List Format) (s : List ℕ) (tr : Trace) (r : List ℕ) (trs : List Trace) (t : List ℕ)
    → Was f s tr r → fits_in f tr ≡ true → Were fs r trs t → Were (f ∷ fs) s (tr ∷ trs) t
unfolding put_items items_fit
were_step f fs s tr r trs t w fit ws = record {
  bits = w.bits ∷ ws.bits;
  is = rw (append_assoc, ← ws.is) w.is;
  fit = and_yes fit ws.fit;
}

pub items_were : (fs : List Format) (s : List ℕ) (trs : List Trace) (t : List ℕ) → Octets s → items fs s ≡ got trs t
    → Were fs s trs t
unfolding items put_items items_fit
items_were [] s trs t o h = subst (OfGot (Were [] s)) h record { bits = []; is = refl; fit = refl }
items_were (f ∷ fs) s trs t o h =
    let (tr, r, e, more) = through (item f s) h in
    let (trs', t', e', last) = through (items fs r) more in
    let (w, fit) = item-was f s tr r o e in
    let ws = items_were fs r trs' t' (Octets-tail (put f tr w.bits) r s w.is o) e' in
    subst (OfGot (Were (f ∷ fs) s)) last (were_step f fs s tr r trs' t' w fit ws)

-- Records

-- after any octets that read as its marks, and with any spare bits, a good record is read
pub record_any : (c : Category) (r : Rec) (o : List ℕ) → ((q : List ℕ) → specification (c.most - 1) (o ++ q) ≡ got r.marks q)
    → good c r ≡ true → (xs : List (List ℕ)) (t : List ℕ)
    → record_of c (o ++ (put_items (layout_of c r.marks) r.items xs ++ t)) ≡ got r t
unfolding record_of good
record_any c r o reads h xs t =
    let fs = layout_of c r.marks in
    let (n, h') = both (eqb (length r.marks) (suc (c.most - 1))) _ h in
    let (m, h'') = both (eqb (specification_refusal c r.marks) 0) _ h' in
    let (fit, there) = both (items_fit fs r.items) (present c r.marks r.items) h'' in
    rw (reads (put_items fs r.items xs ++ t), m, items-put fs r.items xs t fit, there)

-- what was read: a specification that marks the same, the items with some spare bits, and the record is good
pub record Held (c : Category) (s : List ℕ) (r : Rec) (t : List ℕ) : Type 0 where
  pub spec : List ℕ
  pub reads : (q : List ℕ) → specification (c.most - 1) (spec ++ q) ≡ got r.marks q
  pub short : length (put_marks r.marks) ≤ length spec
  pub bits : List (List ℕ)
  pub is : s ≡ spec ++ (put_items (layout_of c r.marks) r.items bits ++ t)
  pub fine : good c r ≡ true

held : (c : Category) (s gs q : List ℕ) (trs : List Trace) (t : List ℕ) → Spec (c.most - 1) s gs q
    → eqb (specification_refusal c gs) 0 ≡ true → Were (layout_of c gs) q trs t → present c gs trs ≡ true
    → Held c s (record { marks = gs; items = trs }) t
unfolding good
held c s gs q trs t sp m ws p = record {
  spec = sp.o;
  reads = sp.reads;
  short = sp.short;
  bits = ws.bits;
  is = rw (← ws.is) sp.is;
  fine = and_yes (eq-eqb (length gs) (suc (c.most - 1)) sp.long) (and_yes m (and_yes ws.fit p));
}

pub record_held : (c : Category) (s : List ℕ) (r : Rec) (t : List ℕ) → Octets s → record_of c s ≡ got r t → Held c s r t
unfolding record_of
record_held c s r t o h =
    let (gs, q, e, h1) = through (specification (c.most - 1) s) h in
    let (m, h2) = pick_yes (eqb (specification_refusal c gs) 0) _ _ h1 in
    let (trs, q', e', h3) = through (items (layout_of c gs) q) h2 in
    let this : Parsed (List ℕ) Rec = got record { marks = gs; items = trs } q' in
    let (p, last) = pick_yes (present c gs trs) presence_broken this h3 in
    let sp = specification-was (c.most - 1) s gs q e in
    let ws = items_were (layout_of c gs) q trs q' (Octets-tail sp.o q s sp.is o) e' in
    subst (OfGot (Held c s)) {x = this} last (held c s gs q trs q' sp m ws p)
