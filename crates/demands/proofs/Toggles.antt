-- Demand 2 for the track re-numbering toggle of 65/040 (02 §2): it is bit 2 of the item's octet; blocks that differ there have different records; and
-- each keeps its toggle when it is rewritten. Assumes nothing.
use mathlib.Core.Path.{◌≡◌, refl, sym, ap, ◌∙◌}
use mathlib.Core.Bool.{true, false}
use mathlib.Core.List.{List, [], ◌∷◌, ◌++◌}
use Prim.Native.Nat.{ℕ, ◌/◌, ◌%◌, ◌<◌}
use native.Mathlib.Omega.{arith}
use lib.Dec.{eqb}
use lib.ListN.{length, take}
use Rattle.octets.specs.Numbers.{Octets}
use Rattle.octets.specs.Outcomes.{puts}
use Rattle.octets.specs.Written.{Written}
use Rattle.demands.proofs.GivenOutputs.{went_out}
use Rattle.layouts.specs.declared.form.Form.{Form}
use Rattle.items.specs.declared.typed.Item.{Item}
use Rattle.items.specs.declared.typed.Sdps.{Sdps}
use Rattle.blocks.specs.Forms.{form_number}
use Rattle.blocks.specs.Blocks.{block_of, put_block}
use Rattle.blocks.specs.Steps.{step_of}
use Rattle.blocks.specs.Boundaries.{Visited}
use Rattle.blocks.specs.Toggle.{sdps_octet, toggle_bit, other_sdps, with_toggle}
use Rattle.blocks.specs.Typed.{has}
use Rattle.blocks.specs.declared.record.Record.{Record}
use Rattle.blocks.specs.Reading.{Reading}
use Rattle.blocks.specs.declared.cursor.Cursor.{Cursor}
use Rattle.blocks.specs.Step.{Step}
use Rattle.blocks.proofs.StepLaws.{step-took}
use Rattle.blocks.proofs.BoundaryLaws.{read-filled}
use Rattle.blocks.proofs.SdpsLaws.{step-toggle}
use Rattle.blocks.proofs.ToggleLaws.{Both, changed_block, changed-octets, changed-step}
use Rattle.writing.specs.Written.{rewrite_of}
use Rattle.writing.specs.Same.{Same}
use Rattle.writing.proofs.RewriteTheorems.{rewrite_read, rewrite_accepted}
use Rattle.writing.proofs.ReadBackTheorems.{One}
use Rattle.writing.proofs.SameRecords.{same_record}
use Rattle.demands.specs.Operations.{Reads, Steps, Rewrites}
use Rattle.demands.specs.Rewritten.{Hands, Twins, InTurnBy, InTurn}
use Rattle.demands.specs.Toggles.{SameToggle}
use Rattle.demands.proofs.Rewritten.{no_place, item-same, handed, in_turn-told, same_blocks, rewritten-octets, rewritten_steps}

-- The toggle that a step hands out is bit 2 of the octet of 65/040 in the record.
pub toggle-read : (s : List ℕ) → Octets s → (start : ℕ) (t : Record) (c : Cursor) → Steps s start (Step.Taken t c) → has t Form.Sdps ≡ true
    → t.sdps.sttn ≡ toggle_bit s start
toggle-read s o start t c h m = step-toggle s o start t c (sym h.0) m

-- So two records that differ in bit 2 of 65/040 are different, wherever they stand.
pub toggles_differ : (s x : List ℕ) → Octets s → Octets x → (start start' : ℕ) (t u : Record) (c d : Cursor)
    → Steps s start (Step.Taken t c) → Steps x start' (Step.Taken u d) → has t Form.Sdps ≡ true → has u Form.Sdps ≡ true
    → (toggle_bit s start ≡ toggle_bit x start' → ⊥) → t ≡ u → ⊥
toggles_differ s x o o' start start' t u c d h k m m' differ same =
    differ (sym (toggle-read s o start t c h m) ∙ ap (λ (y : Record). y.sdps.sttn) same ∙ toggle-read x o' start' u d k m')

-- 65/040 comes before entries and content
before_places : form_number Form.Sdps < 13
before_places = omega arith

inner : (a b : Sdps) → Item.Sdps a ≡ Item.Sdps b → a ≡ b
inner a b e = cc

-- records that are the same either way have the same 65/040
module _ (s : List ℕ) (t : Record) (x : List ℕ) (u : Record) (one : Same s t x u) (other : Same x u s t) where
  has_same : (f : Form) → has u f ≡ has t f
  has_same f = rw (one.marks, one.category)

  same-sdps : u.sdps ≡ t.sdps
  same-sdps = inner _ _ (item-same s x t u one other Form.Sdps before_places (λ at. refl))

-- A record without 65/040 has the toggle 0.
pub toggle-absent : (s : List ℕ) → Octets s → (start : ℕ) (t : Record) (c : Cursor) → Steps s start (Step.Taken t c) → has t Form.Sdps ≡ false
    → t.sdps.sttn ≡ 0
toggle-absent s o start t c h m =
    let w = step-took s start t c (sym h.0) in
    let one : One s w.cat w.len start c.at w.taking.r = record { head = w.head; low = w.low; more = w.more; is = w.taking.is } in
    let (u, v, is-u, is-v, same, back, entries) = same_record s s o o w.cat w.len start c.at w.len start c.at w.taking.r one one in
    let first : Step.Taken u c ≡ Step.Taken t c = sym is-u ∙ sym h.0 in
    let second : Step.Taken v c ≡ Step.Taken t c = sym is-v ∙ sym h.0 in
    let u-is : u ≡ t = cc in
    let v-is : v ≡ t = cc in
    ap (λ (y : Record). y.sdps.sttn) (sym v-is)
    ∙ ap (λ (y : Sdps). y.sttn) (inner _ _ (same.absent Form.Sdps (no_place Form.Sdps before_places (eqb u.category 242)) (ap (λ (y : Record). has y Form.Sdps) u-is ∙ m)))

-- a step goes to one next start
next-same : (s : List ℕ) (at : ℕ) (t u : Record) (q p : ℕ) → Hands s at t q → step_of s at ≡ Step.Taken u (record { at = p }) → q ≡ p
next-same s at t u q p h e =
    let same : Step.Taken t (record { at = q }) ≡ Step.Taken u (record { at = p }) = sym (handed s at t q h) ∙ e in
    ap (λ (c : Cursor). c.at) cc

-- two slices whose records are the same in turn have the same toggles in turn
module _ (s x : List ℕ) (o : Octets s) (o' : Octets x) where
  twins_toggle : (at next at' next' : ℕ) → Twins s x at next at' next' → SameToggle s x at next at' next'
  twins_toggle at next at' next' w =
      let kept : w.other.sdps.sttn ≡ w.one.sdps.sttn
      = ap (λ (y : Sdps). y.sttn) (same-sdps s w.one x w.other w.same w.back) in
      record {
        one = w.one;
        other = w.other;
        first = w.first;
        second = w.second;
        toggle = kept;
        bit = λ m.
            let m' : has w.other Form.Sdps ≡ true = has_same s w.one x w.other w.same w.back Form.Sdps ∙ m in
            sym (step-toggle x o' at' w.other (record { at = next' }) (handed x at' w.other next' w.second) m')
            ∙ kept ∙ step-toggle s o at w.one (record { at = next }) (handed s at w.one next w.first) m;
      }

  -- the records behind those that steps to a start of each hand out
  twins_at : (mid mid' : ℕ) (t : Record) (us ts : List Record) (at at' end end' : ℕ) → InTurn s x (length (ts ++ (t ∷ us))) at at' end end'
      → Visited s at ts mid → Visited x at' ts mid' → (next : ℕ) × (next' : ℕ) × Twins s x mid next mid' next'
  twins_at mid mid' t us [] at at' end end' (q, q', w, more) v v' = (q, q', rw (← v, ← v') w)
  twins_at mid mid' t us (u ∷ ts) at at' end end' (q, q', w, more) (p, e, v) (p', e', v') =
      let a = next-same s at w.one u q p w.first e in
      let b = next-same x at' w.other u q' p' w.second e' in
      twins_at mid mid' t us ts q q' end end' more (rw (← a) at v) (rw (← b) at v')

-- Rewriting keeps every toggle: steps over the rewriting hand out, one by one, records with the toggles of the block's records.
pub toggles_kept : (s : List ℕ) → Octets s → (l : List ℕ) → Octets l → (out : List ℕ) (n : ℕ) → Rewrites s l out (Written.Octets n)
    → (len k : ℕ) → Reads s (Reading.Accepted len k) → InTurnBy (SameToggle s out) k 3 3 len n
toggles_kept s o l o' out n h len k a =
    in_turn-told (Twins s out) (SameToggle s out) (twins_toggle s out o (rewritten-octets s o l o' out n h)) k 3 3 len n
    (rewritten_steps s o l o' out n h len k a)

-- Two blocks that differ in bits 2 and 1 of 65/040 alone: the records ts of a block s, then t, which has 65/040, and others; and the block in which
-- the octet of t's 65/040 is b, with the same bits 8/3.
module _ (s : List ℕ) (o : Octets s) (len n : ℕ) (a : Reads s (Reading.Accepted len n)) (ts : List Record) (start : ℕ) (v : Visited s 3 ts start)
    (t : Record) (next : Cursor) (h : Steps s start (Step.Taken t next)) (m : has t Form.Sdps ≡ true) (b : ℕ)
    (high : b / 4 ≡ sdps_octet s start / 4) where
  abbrev x : List ℕ
  x = other_sdps s start b

  abbrev both : Both s o start t next (sym h.0) m b high len n ts
  both = changed_block s o start t next (sym h.0) m b high len n (sym a.0) ts v

  octets_too : Octets x
  octets_too = changed-octets s o start t next (sym h.0) m b high

  -- It is accepted too, and has as many records.
  pub accepted_too : (r : Reading) → Reads (other_sdps s start b) r → r ≡ Reading.Accepted len n
  accepted_too r k = k.0 ∙ both.accepted

  -- Its records are those of the block; only t has another toggle, bit 2 of b. Bit 1 changes nothing.
  pub toggle-alone : (us : List Record) × Visited s 3 (ts ++ (t ∷ us)) len × Visited (other_sdps s start b) 3 (ts ++ (with_toggle (b / 2 % 2) t ∷ us)) len
  toggle-alone = (both.us, both.was, both.is)

  -- octets that are rewritten as the same have the same records
  same-rewritten : rewrite_of s ≡ rewrite_of x → block_of s ≡ block_of x
  same-rewritten same =
      let (cat, rs, head, j, count, is) = read-filled s len n o (sym a.0) in
      let put = rewrite_read s cat rs is in
      sym (rewrite_accepted s (put_block cat rs) o put []) ∙ rewrite_accepted x (put_block cat rs) octets_too (sym same ∙ put) []

  other-rewriting : (b / 2 % 2 ≡ t.sdps.sttn → ⊥) → rewrite_of s ≡ rewrite_of x → ⊥
  other-rewriting differ same =
      let turn : InTurn s x n 3 3 len len = same_blocks s x o octets_too len n len n (sym a.0) both.accepted (same-rewritten same) in
      let turns : InTurn s x (length (ts ++ (t ∷ both.us))) 3 3 len len = rw both.many turn in
      let (q, q', w) = twins_at s x o octets_too start start t both.us ts 3 3 len len turns v both.before in
      let one : Step.Taken w.one (record { at = q }) ≡ Step.Taken t next = sym (handed s start w.one q w.first) ∙ sym h.0 in
      let other : Step.Taken w.other (record { at = q' }) ≡ Step.Taken (with_toggle (b / 2 % 2) t) next
      = sym (handed x start w.other q' w.second) ∙ changed-step s o start t next (sym h.0) m b high in
      let is-t : w.one ≡ t = cc in
      let is_x : w.other ≡ with_toggle (b / 2 % 2) t = cc in
      let toggle : Record → ℕ = λ y. y.sdps.sttn in
      differ (ap toggle (sym is_x) ∙ ap (λ (y : Sdps). y.sttn) (same-sdps s w.one x w.other w.same w.back) ∙ ap toggle is-t)

  -- Where the toggle is another, the rewriting is: what is put out for the one and for the other differs.
  pub rewritings_differ : (b / 2 % 2 ≡ t.sdps.sttn → ⊥) → (l l' out out' : List ℕ) (k k' : ℕ) → Rewrites s l out (Written.Octets k)
      → Rewrites (other_sdps s start b) l' out' (Written.Octets k') → take k out ≡ take k' out' → ⊥
  rewritings_differ differ l l' out out' k k' w w' same =
      other-rewriting differ
      (went_out (rewrite_of s) l out k w.0 w.1 ∙ ap puts same ∙ sym (went_out (rewrite_of x) l' out' k' w'.0 w'.1))
