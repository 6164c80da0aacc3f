-- A record that has 65/040: where it stands, and that its toggle is bit 2 there. Assumes nothing.
use mathlib.Core.Path.{◌≡◌, refl, sym, ap, ◌∙◌, subst}
use mathlib.Core.Bool.{Bool, true, false, false≢true, not, not-not}
use mathlib.Core.List.{List, [], ◌∷◌}
use Prim.Native.Nat.{ℕ, ◌+◌, ◌-◌, ◌/◌, ◌%◌, ◌<◌, ◌≤◌}
use native.Mathlib.Omega.{arith}
use borrow.Author.Tests.{eqb-true, eqb-false}
use lib.Dec.{leb, ltb, eqb}
use lib.ListN.{length, get_or}
use Rattle.octets.specs.Choice.{pick, odd}
use Rattle.octets.specs.Numbers.{Octets}
use Rattle.layouts.specs.Groups.{values, Group}
use Rattle.layouts.specs.Formats.{got, and_then, done, ask, Trace}
use Rattle.layouts.specs.Offsets.{run_at, trace_at}
use Rattle.layouts.specs.Layouts.{format}
use Rattle.layouts.specs.Tables.{layout}
use Rattle.layouts.specs.Presence.{met, meets, needs_of}
use Rattle.layouts.specs.Categories.{Category, category, known}
use Rattle.layouts.specs.declared.form.Form.{Form}
use Rattle.layouts.specs.declared.presence.Need.TheVariants.{M, X}
use Rattle.layouts.proofs.Parsed.{pick_no, through}
use Rattle.layouts.proofs.Rules.{MetAt, met_at}
use Rattle.items.specs.Typed.{val}
use Rattle.items.proofs.Items.{number-one}
use Rattle.blocks.specs.Specification.{flags}
use Rattle.blocks.specs.Marks.{marks_of, marked}
use Rattle.blocks.specs.Headers.{header_of}
use Rattle.blocks.specs.Records.{Rec, layout_of, type_of, present}
use Rattle.blocks.specs.Offsets.{specification_at, items_at, record_at}
use Rattle.blocks.specs.Typed.{has, start_in, typed_rec}
use Rattle.blocks.specs.Steps.{items_from, step_of}
use Rattle.blocks.specs.Toggle.{specification_octets, sdps_start, toggle_bit}
use Rattle.blocks.specs.Head.{Head}
use Rattle.blocks.specs.declared.record.Record.{Record}
use Rattle.blocks.specs.declared.cursor.Cursor.{Cursor}
use Rattle.blocks.specs.Step.{Step}
use Rattle.blocks.proofs.MarksLaws.{Marked, specification-marked, flags_long}
use Rattle.blocks.proofs.WalkSteps.{by-known}
use Rattle.blocks.proofs.HeaderLaws.{header-good}
use Rattle.blocks.proofs.ReadSteps.{record_parts}
use Rattle.blocks.proofs.StepLaws.{Taking, step-took}
use Rattle.blocks.proofs.ItemStarts.{first-start}
use Rattle.blocks.proofs.TypedLaws.{Stands, stands, mark-is, found, taken, typed-found}

-- an item of one group ends behind it
pub fixed-end : (s : List ℕ) (len : ℕ) (g : Group) (at q : ℕ) (tr : Trace) → run_at s len (ask g (λ v. done)) at ≡ got tr q → q ≡ at + g.wide
unfolding run_at
fixed-end s len g at q tr h =
    let (e, h') = pick_no (ltb (len - at) g.wide) _ _ h in
    cc

-- a specification of two octets at most ends by FX of its first
pub two-end : (s : List ℕ) (len at : ℕ) (gs : List ℕ) (p : ℕ) → specification_at s len 1 at ≡ got gs p → p ≡ at + specification_octets s at
unfolding specification_at
two-end s len at gs p h =
    let (e, h') = pick_no (leb len at) _ _ h in
    go (odd (get_or s at 0)) refl h'
  where
    go : (b : Bool) → odd (get_or s at 0) ≡ b
        → pick b (and_then (specification_at s len 0 (at + 1)) (λ gs q. got (get_or s at 0 / 2 ∷ gs) q)) (got (get_or s at 0 / 2 ∷ 0 ∷ []) (at + 1)) ≡ got gs p
        → p ≡ at + specification_octets s at
    go true e k =
        let (hs, q, k', last) = through (specification_at s len 0 (at + 1)) k in
        let (a, k'') = pick_no (leb len (at + 1)) _ _ k' in
        let (b, k''') = pick_no (odd (get_or s (at + 1) 0)) _ _ k'' in
        let one : at + 1 + 1 ≡ q = cc in
        let same : q ≡ p = cc in
        omega (arith, eqb-true (get_or s at 0 % 2) 1 e)
    go false e k =
        let same : at + 1 ≡ p = cc in
        omega (arith, eqb-false (get_or s at 0 % 2) 1 e)

-- in a record of category 65 that has field 6 (040) there are fields 1 to 4 (010, 000, 015, 030), and field 5 (020) is not
fields-before : (t : ℕ) (bs : List Bool) → meets (needs_of 65) t bs ≡ true → get_or bs 5 false ≡ true
    → (get_or bs 0 false ≡ true) × (get_or bs 1 false ≡ true) × (get_or bs 2 false ≡ true) × (get_or bs 3 false ≡ true) × (get_or bs 4 false ≡ false)
fields-before t bs h six = go (eqb t 1) (eqb t 2) (eqb t 3) refl (λ f. met_at t bs (needs_of 65) f h) (met_at t bs (needs_of 65) 6 h)
  where
    -- 040 is there in type 1 alone
    go : (x y z : Bool) → eqb t 1 ≡ x → ((f : ℕ) → MetAt t bs (needs_of 65) f) → met (pick x M (pick y X (pick z X X))) (get_or bs 5 false) ≡ true
        → (get_or bs 0 false ≡ true) × (get_or bs 1 false ≡ true) × (get_or bs 2 false ≡ true) × (get_or bs 3 false ≡ true) × (get_or bs 4 false ≡ false)
    go true y z e is n =
        let typed : (f : ℕ) → MetAt 1 bs (needs_of 65) f = rw (eqb-true t 1 e) at is in
        (typed 1, typed 2, typed 3, typed 4, sym (not-not (get_or bs 4 false)) ∙ ap not (typed 5))
    go false true z e is n = absurd (false≢true (rw six at n))
    go false false true e is n = absurd (false≢true (rw six at n))
    go false false false e is n = absurd (false≢true (rw six at n))

-- the toggle of 65/040 at an offset
sdps-toggle : (s : List ℕ) (x : ℕ) → val (trace_at (format (layout Form.Sdps)) s x) 0 4 ≡ get_or s x 0 / 2 % 2
unfolding trace_at format values
sdps-toggle s x = rw (number-one s x)

abbrev c : Category
c = category 65

-- The items of a record of category 65 behind its specification
module _ (s : List ℕ) (len at : ℕ) (o : Octets s) (fit : len ≤ length s) (r : Rec) (q p : ℕ)
    (e : specification_at s len (c.most - 1) at ≡ got r.marks p) (e' : items_at s len (layout_of c r.marks) p ≡ got r.items q) where
  w : Marked s len (c.most - 1) at r.marks p
  w = specification-marked s len (c.most - 1) at r.marks p o e

  few : length r.marks ≤ 4
  few = omega (arith, w.long)

  long : length (flags r.marks) ≡ length c.fields
  long = omega (arith, w.long, flags_long r.marks)

  -- field 6 in the number of the marks
  mark-six : marked (marks_of (flags r.marks)) 6 ≡ get_or (flags r.marks) 5 false
  mark-six = mark-is s len c r.marks p r.items q o fit w.within few long e' 5

  -- the items of fields 1 to 5 have seven octets, where field 6 is there
  seven-before : present c r.marks r.items ≡ true → get_or (flags r.marks) 5 false ≡ true → start_in s len (layout_of c r.marks) p 5 ≡ p + 7
  unfolding present format
  seven-before y six =
      let There : ℕ → Bool → Type 0 = Stands s len c r.marks p r.items q o fit w.within few long e' in
      let there : (n : ℕ) (b : Bool) → get_or (flags r.marks) n false ≡ b → There n b
      = λ n b k. subst (There n) k (stands s len c r.marks p r.items q o fit w.within few long e' n) in
      let (one, two, three, four, five) = fields-before (type_of c r.items) (flags r.marks) y six in
      omega (
        arith,
        first-start s len (layout_of c r.marks) p,
        fixed-end s len _ _ _ _ (there 0 true one),
        fixed-end s len _ _ _ _ (there 1 true two),
        fixed-end s len _ _ _ _ (there 2 true three),
        fixed-end s len _ _ _ _ (there 3 true four),
        (there 4 false five).1,
      )

-- A record of category 65 that was read, and has field 6
module _ (s : List ℕ) (len at : ℕ) (o : Octets s) (fit : len ≤ length s) (r : Rec) (q : ℕ) (h : record_at s len c at ≡ got r q)
    (six : get_or (flags r.marks) 5 false ≡ true) where
  -- 65/040 stands where the document's table has it
  pub sdps-start : start_in s len (layout_of c r.marks) (items_from s len c at) 5 ≡ sdps_start s at
  sdps-start =
      let (p, e, e', z, y) = record_parts s len c at q r h in
      rw e (seven-before s len at o fit r q p e e' y six ∙ ap (λ (n : ℕ). n + 7) (two-end s len at r.marks p e))

  -- and its toggle is bit 2 of the octet there
  toggle-there : (typed_rec s len c r (items_from s len c at)).sdps.sttn ≡ toggle_bit s at
  toggle-there =
      let (p, e, e', z, y) = record_parts s len c at q r h in
      let w = taken s len 65 at o fit refl r q h in
      let here : start_in s len (layout_of c r.marks) w.behind 5 ≡ sdps_start s at = rw w.spec at sdps-start in
      let is : found s len 65 at o fit refl r w.behind Form.Sdps ≡ sdps_start s at = rw (mark-six s len at o fit r q p e e', six) here in
      rw w.spec
      (ap (λ (t : Record). t.sdps.sttn) (sym (typed-found s len 65 at o fit refl r q w)) ∙ sdps-toggle s _ ∙ rw is)

-- what a step that hands out a record with 65/040 says: only category 65 has the item, and it is field 6
pub record SdpsTook (s : List ℕ) (start : ℕ) (t : Record) (next : ℕ) : Type 0 where
  pub len : ℕ
  pub head : header_of s ≡ Head.Good 65 len
  pub low : 3 ≤ start
  pub more : start < len
  pub fits : len ≤ length s
  pub r : Rec
  pub is : record_at s len (category 65) start ≡ got r next
  pub same : t ≡ typed_rec s len (category 65) r (items_from s len (category 65) start)
  pub six : get_or (flags r.marks) 5 false ≡ true

module _ (s : List ℕ) (o : Octets s) (start : ℕ) (t : Record) (next : Cursor) (h : step_of s start ≡ Step.Taken t next)
    (m : has t Form.Sdps ≡ true) where
  abbrev Told : ℕ → Type 0
  Told n = (len : ℕ) → header_of s ≡ Head.Good n len → 3 ≤ start → start < len → Taking s len n start t next.at → SdpsTook s start t next.at

  told : (n : ℕ) → known n ≡ true → Told n
  unfolding typed_rec
  told =
      by-known Told (λ len e a b w. absurd (false≢true (rw w.same at m)))
      (λ len e a b w.
      let fit = (header-good s 65 len e).fits in
      let (p, spec, items, z, y) = record_parts s len c start next.at w.r w.is in
      record {
        len = len;
        head = e;
        low = a;
        more = b;
        fits = fit;
        r = w.r;
        is = w.is;
        same = w.same;
        six = sym (mark-six s len start o fit w.r next.at p spec items) ∙ (rw w.same at m);
      })
      (λ len e a b w. absurd (false≢true (rw w.same at m)))

  pub sdps-took : SdpsTook s start t next.at
  sdps-took =
      let w = step-took s start t next h in
      told w.cat (header-good s w.cat w.len w.head).known w.len w.head w.low w.more w.taking

  -- Its toggle is bit 2 of the item's octet.
  pub step-toggle : t.sdps.sttn ≡ toggle_bit s start
  step-toggle =
      let w = sdps-took in
      rw w.same (toggle-there s w.len start o w.fits w.r next.at w.is w.six)
