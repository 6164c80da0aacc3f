-- The octet of 65/040 with other bits 2 and 1: the record has another toggle, and is the same otherwise. Assumes nothing.
use mathlib.Core.Path.{◌≡◌, refl, sym, ap, ◌∙◌, subst}
use mathlib.Core.Bool.{true, false}
use mathlib.Core.List.{List, [], ◌∷◌, ◌++◌}
use Prim.Native.Nat.{ℕ, zero, suc, ◌+◌, ◌-◌, ◌/◌, ◌%◌, ◌<◌, ◌≤◌}
use native.Mathlib.Omega.{arith}
use borrow.Author.Tests.{eqb-true, eqb-false}
use lib.Dec.{ltb, eqb}
use lib.ListN.{length, get_or, set, length-set, length-append}
use lib.Seq.{get_or-set_same, get_or-set_other}
use Rattle.octets.specs.Numbers.{Octets, number}
use Rattle.octets.proofs.Cases.{test}
use Rattle.layouts.specs.Groups.{values}
use Rattle.layouts.specs.Formats.{got, Format, done, ask, Trace, fits_in}
use Rattle.layouts.specs.Offsets.{run_at, item_at}
use Rattle.layouts.specs.Layouts.{format}
use Rattle.layouts.specs.Tables.{sdps}
use Rattle.layouts.specs.Categories.{Category, category}
use Rattle.layouts.specs.declared.form.Form.{Form}
use Rattle.layouts.proofs.Parsed.{pick_no, pick_yes, through}
use Rattle.layouts.proofs.Alike.{item_alike_at}
use Rattle.layouts.proofs.Windows.{run-within}
use Rattle.items.proofs.Items.{number-one}
use Rattle.items.proofs.Entries.{fits-ranged}
use Rattle.blocks.specs.Specification.{flags}
use Rattle.blocks.specs.Headers.{header_of}
use Rattle.blocks.specs.Records.{Rec, layout_of, type_of, present}
use Rattle.blocks.specs.Offsets.{specification_at, items_at, record_at}
use Rattle.blocks.specs.Typed.{has, start_in, typed_rec}
use Rattle.blocks.specs.Walks.{read_of}
use Rattle.blocks.specs.Steps.{items_from, step_of}
use Rattle.blocks.specs.Toggle.{sdps_start, sdps_octet, other_sdps, with_toggle}
use Rattle.blocks.specs.Alike.{RecordAlikeAt}
use Rattle.blocks.specs.Boundaries.{Visited}
use Rattle.blocks.specs.Head.{Head}
use Rattle.blocks.specs.declared.record.Record.{Record}
use Rattle.blocks.specs.Reading.{Reading}
use Rattle.blocks.specs.declared.cursor.Cursor.{Cursor}
use Rattle.blocks.specs.Step.{Step}
use Rattle.blocks.proofs.AlikeLaws.{items_alike_at}
use Rattle.blocks.proofs.MarksLaws.{specification-marked}
use Rattle.blocks.proofs.WalkSteps.{item-run, items-within}
use Rattle.blocks.proofs.HeaderLaws.{Headed, header-good}
use Rattle.blocks.proofs.ReadSteps.{record_parts, record_within}
use Rattle.blocks.proofs.ItemStarts.{formats-at, start-alike}
use Rattle.blocks.proofs.StepLaws.{step-took}
use Rattle.blocks.proofs.BoundaryLaws.{read-filled, step-read, visited, step-forward, visited-forward, visited-join, visited_split, visited-read}
use Rattle.blocks.proofs.SameAnswers.{same-header, step-alike}
use Rattle.blocks.proofs.InsideLaws.{run_inside, items-inside, specification-inside, record_inside}
use Rattle.blocks.proofs.SdpsLaws.{fixed-end, two-end, sdps-start, SdpsTook, sdps-took}

-- 65/040 as a format; every octet fits it
abbrev sdps_format : Format
sdps_format = ask sdps (λ v. done)

sdps-fits : (n : ℕ) → fits_in sdps_format (values sdps.parts n ∷ []) ≡ true
unfolding fits_in
sdps-fits n = rw (fits-ranged sdps.parts n)

-- and by bits 8/3 all its values but the toggle are told
sdps-high : (a b : ℕ) → a / 4 ≡ b / 4 → values sdps.parts a ≡ b / 64 % 4 ∷ b / 32 % 2 ∷ b / 16 % 2 ∷ b / 4 % 4 ∷ a / 2 % 2 ∷ []
unfolding values
sdps-high a b h =
    let nogo : a / 64 % 4 ≡ b / 64 % 4 = omega arith in
    let ovl : a / 32 % 2 ≡ b / 32 % 2 = omega arith in
    let tsv : a / 16 % 2 ≡ b / 16 % 2 = omega arith in
    let pss : a / 4 % 4 ≡ b / 4 % 4 = omega arith in
    rw (nogo, ovl, tsv, pss)

-- no item that was read starts before the first
start-low : (s : List ℕ) (len k : ℕ) (fs : List Format) (at q : ℕ) (trs : List Trace) → at ≤ len → items_at s len fs at ≡ got trs q
    → at ≤ start_in s len fs at k
unfolding start_in items_at
start-low s len zero fs at q trs l h = omega arith
start-low s len (suc k) [] at q trs l h = omega arith
start-low s len (suc k) (f ∷ fs) at q trs l h =
    let (tr, p, e, h') = through (item_at s len f at) h in
    let (trs', q', e', last) = through (items_at s len fs p) h' in
    let first = item-run s len f at p tr e in
    let w = run-within s len f at tr p l first in
    rw first (omega (arith, w.0, start-low s len k fs p q' trs' w.1 e'))

-- Two slices that differ in one octet at most
module _ (s x : List ℕ) (len i : ℕ) (others : (j : ℕ) → (j ≡ i → ⊥) → get_or s j 0 ≡ get_or x j 0) where
  -- an item of both ends at the same offset: those behind it start at the same ones
  same-starts : (f : Format) (fs : List Format) (at p : ℕ) (a b : Trace) → run_at s len f at ≡ got a p → run_at x len f at ≡ got b p
      → ((n : ℕ) → start_in s len fs p n ≡ start_in x len fs p n) → (n : ℕ) → start_in s len (f ∷ fs) at n ≡ start_in x len (f ∷ fs) at n
  unfolding start_in
  same-starts f fs at p a b h k rest zero = refl
  same-starts f fs at p a b h k rest (suc n) = rw (h, k) (rest n)

  -- the values of 65/040 that stand there in the second
  abbrev changed : Trace
  changed = values sdps.parts (number 1 x i) ∷ []

  -- what was read of the first, with 65/040 as item k there, is read of the second with its values there; all items start where they did
  record Changed (k : ℕ) (fs : List Format) (at q : ℕ) (trs : List Trace) : Type 0 where
    pub items : items_at x len fs at ≡ got (set trs k changed) q
    pub starts : (n : ℕ) → start_in s len fs at n ≡ start_in x len fs at n
    pub was : get_or trs k [] ≡ values sdps.parts (number 1 s i) ∷ []
    pub inside : k < length trs
    pub before : i < q

  -- itself
  sdps-here : (p : ℕ) (tr : Trace) → item_at s len sdps_format i ≡ got tr p
      → (item_at x len sdps_format i ≡ got changed p) × (tr ≡ values sdps.parts (number 1 s i) ∷ [])
  unfolding item_at run_at
  sdps-here p tr h =
      let (tr', p', e, last) = through (run_at s len sdps_format i) h in
      let (room, e') = pick_no (ltb (len - i) 1) _ _ e in
      let (fit, same) = pick_yes (fits_in sdps_format tr') _ _ last in
      (rw (room, sdps-fits (number 1 x i)) cc, cc)

  -- and others behind it
  first-changed : (fs : List Format) (q : ℕ) (trs : List Trace) → i ≤ len → items_at s len (sdps_format ∷ fs) i ≡ got trs q
      → Changed 0 (sdps_format ∷ fs) i q trs
  unfolding items_at
  first-changed fs q trs l h =
      let (tr, p, e, h') = through (item_at s len sdps_format i) h in
      let (trs', q', e', last) = through (items_at s len fs p) h' in
      let (there, was) = sdps-here p tr e in
      let one = item-run s len sdps_format i p tr e in
      let two = item-run x len sdps_format i p changed there in
      let w = run-within s len sdps_format i tr p l one in
      let behind : p ≡ i + 1 = fixed-end s len sdps i p tr one in
      let rest = items-inside s x len fs p q' trs' w.1 e' (λ j a b. others j (λ z. omega arith)) in
      let read : items_at x len fs p ≡ got trs' q' = sym (items_alike_at s x len fs p rest) ∙ e' in
      let all : tr ∷ trs' ≡ trs = cc in
      let end : q' ≡ q = cc in
      subst (Changed 0 (sdps_format ∷ fs) i q) all
      (record {
        items = rw (there, read, end);
        starts = same-starts sdps_format fs i p tr changed one two (start-alike len s x fs p q' trs' rest e');
        was = was;
        inside = omega arith;
        before = omega (arith, (items-within s len fs p q' trs' w.1 e').0);
      })

  -- and others before it
  changed-items : (k : ℕ) (fs : List Format) (at q : ℕ) (trs : List Trace) → at ≤ len → items_at s len fs at ≡ got trs q
      → get_or fs k done ≡ sdps_format → start_in s len fs at k ≡ i → Changed k fs at q trs
  unfolding items_at start_in
  changed-items k [] at q trs l h f is = absurd (let z : ◌≡◌ {A = ℕ} 0 1 = cc in omega arith)
  changed-items zero (f ∷ fs) at q trs l h is here =
      subst (λ (g : Format). items_at s len (g ∷ fs) at ≡ got trs q → Changed 0 (g ∷ fs) at q trs) (sym is)
      (subst (λ (n : ℕ). n ≤ len → items_at s len (sdps_format ∷ fs) n ≡ got trs q → Changed 0 (sdps_format ∷ fs) n q trs) (sym here)
      (first-changed fs q trs) l) h
  changed-items (suc k) (f ∷ fs) at q trs l h is here =
      let (tr, p, e, h') = through (item_at s len f at) h in
      let (trs', q', e', last) = through (items_at s len fs p) h' in
      let one = item-run s len f at p tr e in
      let w = run-within s len f at tr p l one in
      let later : start_in s len fs p k ≡ i = rw one at here in
      let low = start-low s len k fs p q' trs' w.1 e' in
      let alike = run_inside s x len f at p tr l one (λ j a b. others j (λ z. omega arith)) in
      let there : item_at x len f at ≡ got tr p = sym (item_alike_at s x len f at alike) ∙ e in
      let two = item-run x len f at p tr there in
      let rest = changed-items k fs p q' trs' w.1 e' is later in
      let all : tr ∷ trs' ≡ trs = cc in
      let end : q' ≡ q = cc in
      subst (Changed (suc k) (f ∷ fs) at q) all
      (record {
        items = rw (there, rest.items, end);
        starts = same-starts f fs at p tr tr one two rest.starts;
        was = rest.was;
        inside = omega (arith, rest.inside);
        before = omega (arith, rest.before);
      })

-- the type is not in 65/040
type-same : (trs : List Trace) (v : Trace) → type_of (category 65) (set trs 5 v) ≡ type_of (category 65) trs
type-same [] v = refl
type-same (a ∷ []) v = refl
type-same (a ∷ b ∷ []) v = refl
type-same (a ∷ b ∷ c ∷ []) v = refl
type-same (a ∷ b ∷ c ∷ d ∷ []) v = refl
type-same (a ∷ b ∷ c ∷ d ∷ e ∷ []) v = refl
type-same (a ∷ b ∷ c ∷ d ∷ e ∷ f ∷ trs) v = refl

-- A record of category 65 that has field 6, and octets that differ in that of 65/040 at most, and there not in bits 8/3
module _ (s x : List ℕ) (len at : ℕ) (o : Octets s) (fit : len ≤ length s) (r : Rec) (q : ℕ) (h : record_at s len (category 65) at ≡ got r q)
    (six : get_or (flags r.marks) 5 false ≡ true) (others : (j : ℕ) → (j ≡ sdps_start s at → ⊥) → get_or s j 0 ≡ get_or x j 0)
    (high : get_or x (sdps_start s at) 0 / 4 ≡ sdps_octet s at / 4) where
  abbrev c : Category
  c = category 65

  abbrev i : ℕ
  i = sdps_start s at

  -- the items of the second
  abbrev its : Rec
  its = record { marks = r.marks; items = set r.items 5 (changed s x len i others) }

  sixth : get_or (layout_of c r.marks) 5 done ≡ sdps_format
  unfolding layout_of format
  sixth = formats-at (flags r.marks) c.fields 5 (λ z. omega arith) ∙ rw six

  its-items : (p : ℕ) → specification_at s len (c.most - 1) at ≡ got r.marks p → items_at s len (layout_of c r.marks) p ≡ got r.items q
      → Changed s x len i others 5 (layout_of c r.marks) p q r.items
  its-items p e e' =
      let w = specification-marked s len (c.most - 1) at r.marks p o e in
      let here : start_in s len (layout_of c r.marks) p 5 ≡ i = rw e at (sdps-start s len at o fit r q h six) in
      changed-items s x len i others 5 (layout_of c r.marks) p q r.items w.within e' sixth here

  same-specification : (p : ℕ) → specification_at s len (c.most - 1) at ≡ got r.marks p → specification_at x len (c.most - 1) at ≡ got r.marks p
  same-specification p e =
      let end = two-end s len at r.marks p e in
      sym (specification-inside s x len o (c.most - 1) at p r.marks e (λ j a b. others j (λ z. omega arith))) ∙ e

  -- the second is read too, to the same end
  changed_record : record_at x len c at ≡ got its q
  unfolding record_at present
  changed_record =
      let (p, e, e', z, y) = record_parts s len c at q r h in
      let w = its-items p e e' in
      rw (same-specification p e, z, w.items, type-same r.items (changed s x len i others), y)

  -- its typed record has the toggle that stands there, and is the first's otherwise
  changed-typed : typed_rec x len c its (items_from x len c at) ≡ with_toggle (get_or x i 0 / 2 % 2) (typed_rec s len c r (items_from s len c at))
  unfolding typed_rec
  changed-typed =
      let (p, e, e', z, y) = record_parts s len c at q r h in
      let w = its-items p e e' in
      let v = changed s x len i others in
      let other : (n : ℕ) → (n ≡ 5 → ⊥) → get_or (set r.items 5 v) n [] ≡ get_or r.items n [] = λ n d. get_or-set_other r.items 5 n v [] d in
      rw (
        same-specification p e,
        e,
        get_or-set_same r.items 5 v [] w.inside,
        w.was,
        other 0 (λ z. omega arith),
        other 1 (λ z. omega arith),
        other 2 (λ z. omega arith),
        other 3 (λ z. omega arith),
        other 4 (λ z. omega arith),
        other 6 (λ z. omega arith),
        other 12 (λ z. omega arith),
        other 13 (λ z. omega arith),
        ← w.starts 12,
        ← w.starts 13,
        number-one x i,
        number-one s i,
        sdps-high (get_or x i 0) (get_or s i 0) high,
        sdps-high (get_or s i 0) (get_or s i 0) refl,
      )

  -- 65/040 lies in the record
  before-end : i < q
  before-end =
      let (p, e, e', z, y) = record_parts s len c at q r h in
      (its-items p e e').before

-- A step from an offset hands out a record with 65/040; its octet becomes another with the same bits 8/3.
module _ (s : List ℕ) (o : Octets s) (start : ℕ) (t : Record) (next : Cursor) (h : step_of s start ≡ Step.Taken t next)
    (m : has t Form.Sdps ≡ true) (b : ℕ)
    (high : b / 4 ≡ sdps_octet s start / 4) where
  abbrev there : ℕ
  there = sdps_start s start

  abbrev x : List ℕ
  x = other_sdps s start b

  abbrev w : SdpsTook s start t next.at
  w = sdps-took s o start t next h m

  others_same : (j : ℕ) → (j ≡ there → ⊥) → get_or s j 0 ≡ get_or x j 0
  others_same j d = sym (get_or-set_other s there j b 0 d)

  in_record : there < next.at
  in_record = before-end s s w.len start o w.fits w.r next.at w.is w.six (λ j d. refl) refl

  within : next.at ≤ w.len
  within = (record_within s w.len (category 65) o start next.at w.r w.is).1

  is-there : get_or x there 0 ≡ b
  is-there = get_or-set_same s there b 0 (omega (arith, in_record, within, w.fits))

  long : length x ≡ length s
  long = length-set s there b

  -- it is an octet too
  pub changed-octets : Octets x
  changed-octets j = test (eqb j there) (λ e. rw (eqb-true j there e, is-there) (omega (arith, o there))) (λ e. rw (← others_same j (eqb-false j there e)) (o j))

  -- the header is before it
  first : (j : ℕ) → j < 3 → get_or s j 0 ≡ get_or x j 0
  first j l = others_same j (λ z. omega (arith, w.low))

  module _ (cat len : ℕ) (e : header_of s ≡ Head.Good cat len) where
    good-head : Headed s cat len
    good-head = header-good s cat len e

    three : 3 ≤ length s
    three = omega (arith, good-head.least, good-head.fits)

    len-fits : number 2 s 1 ≤ length s
    len-fits = omega (arith, good-head.is-len, good-head.fits)

    changed-head : header_of x ≡ Head.Good cat len
    changed-head = sym (same-header s x first three (rw long three) len-fits (rw long len-fits)) ∙ e

  -- The step hands out the record with the toggle of the new octet.
  pub changed-step : step_of x start ≡ Step.Taken (with_toggle (b / 2 % 2) t) next
  changed-step =
      let high' : get_or x there 0 / 4 ≡ get_or s there 0 / 4 = rw is-there high in
      let is = changed_record s x w.len start o w.fits w.r next.at w.is w.six others_same high' in
      let typed = changed-typed s x w.len start o w.fits w.r next.at w.is w.six others_same high' in
      let was = typed_rec s w.len (category 65) w.r (items_from s w.len (category 65) start) in
      step-read x 65 w.len (changed-head 65 w.len w.head) start next.at _ w.low w.more is
      ∙ ap (λ (u : Record). Step.Taken u next)
      (typed ∙ ap (λ (n : ℕ). with_toggle (n / 2 % 2) was) is-there ∙ ap (with_toggle (b / 2 % 2)) (sym w.same))

  -- A step whose record does not reach over that octet is the same.
  other_step : (at : ℕ) (u : Record) (d : Cursor) → step_of s at ≡ Step.Taken u d → ((j : ℕ) → at ≤ j → j < d.at → j ≡ there → ⊥)
      → step_of x at ≡ Step.Taken u d
  other_step at u d e apart =
      let v = step-took s at u d e in
      let alike : (cat len : ℕ) → header_of s ≡ Head.Good cat len → RecordAlikeAt s x len (category cat) at
      = λ cat len g.
      let good : Head.Good v.cat v.len ≡ Head.Good cat len = sym v.head ∙ g in
      let same-cat : v.cat ≡ cat = cc in
      let same_len : v.len ≡ len = cc in
      record_inside s x len o (category cat) at d.at v.taking.r (rw (same-cat, same_len) at v.taking.is) (λ j a c. others_same j (apart j a c)) in
      let few = three 65 w.len w.head in
      let room = len-fits 65 w.len w.head in
      sym (step-alike s x first few (rw long few) room (rw long room) at alike) ∙ e

  -- So steps between offsets that it does not lie between hand out the same records.
  visited-apart : (at end : ℕ) (ts : List Record) → ((j : ℕ) → at ≤ j → j < end → j ≡ there → ⊥) → Visited s at ts end → Visited x at ts end
  visited-apart at end [] apart v = v
  visited-apart at end (u ∷ ts) apart (q, e, v) =
      let forward = step-forward s o at q u e in
      let on = visited-forward s o q end ts v in
      (q, other_step at u (record { at = q }) e (λ j a b. apart j a (omega arith)), visited-apart q end ts (λ j a b. apart j (omega arith) b) v)

  -- The block as it was and as it is: accepted both, as many records, the same but for the one's toggle.
  pub record Both (len n : ℕ) (ts : List Record) : Type 0 where
    pub us : List Record
    pub was : Visited s 3 (ts ++ (t ∷ us)) len
    pub before : Visited x 3 ts start
    pub is : Visited x 3 (ts ++ (with_toggle (b / 2 % 2) t ∷ us)) len
    pub many : length (ts ++ (t ∷ us)) ≡ n
    pub accepted : read_of x ≡ Reading.Accepted len n

  -- steps from the record to LEN begin with it
  record_first : (len : ℕ) → start < len → (rest : List Record) → Visited s start rest len
      → (us : List Record) × (rest ≡ t ∷ us) × Visited s next.at us len
  record_first len l [] v = absurd (omega arith)
  record_first len l (u ∷ us) (q, e, v) =
      let same : u ≡ t = cc in
      let end : record { at = q } ≡ next = cc in
      (us, ap (λ (y : Record). y ∷ us) same, subst (λ (c : Cursor). Visited s c.at us len) end v)

  pub changed_block : (len n : ℕ) → read_of s ≡ Reading.Accepted len n → (ts : List Record) → Visited s 3 ts start → Both len n ts
  changed_block len n a ts v =
      let (cat, rs, head, j, count, b-is) = read-filled s len n o a in
      let good : Head.Good 65 w.len ≡ Head.Good cat len = sym w.head ∙ head in
      let same : w.len ≡ len = cc in
      let (cat', vs, all, many, block) = visited s len n o a in
      let more : start < len = omega (arith, w.more) in
      let (rest, split, from) = visited_split s o 3 start len ts vs v all (omega arith) in
      let (us, is, behind) = record_first len more rest from in
      let two : vs ≡ ts ++ (t ∷ us) = split ∙ ap (λ (l : List Record). ts ++ l) is in
      let before = visited-apart 3 start ts (λ j a b z. omega arith) v in
      let after : List Record = with_toggle (b / 2 % 2) t ∷ us in
      let now : Visited x 3 (ts ++ after) len
      = visited-join x changed-octets 3 start len ts after before
      (next.at, changed-step, visited-apart next.at len us (λ j a b z. omega (arith, in_record)) behind) in
      let as_many : length (ts ++ (t ∷ us)) ≡ n = ap length (sym two) ∙ many in
      let none_more : length (ts ++ after) ≡ n = length-append ts after ∙ sym (length-append ts (t ∷ us)) ∙ as_many in
      record {
        us = us;
        was = subst (λ (l : List Record). Visited s 3 l len) two all;
        before = before;
        is = now;
        many = as_many;
        accepted = visited-read x changed-octets cat len (changed-head cat len head) (ts ++ after) now ∙ ap (Reading.Accepted len) none_more;
      }
