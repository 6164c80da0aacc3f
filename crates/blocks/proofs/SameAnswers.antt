-- Octets after LEN change no answer, and neither do spare bits: of reading, of a step, of an entry, refusals too. Assumes nothing.
use mathlib.Core.Path.{◌≡◌, refl, sym, ap, ◌∙◌, subst}
use mathlib.Core.Bool.{Bool, true, false}
use mathlib.Core.List.{List}
use Prim.Native.Nat.{ℕ, zero, suc, ◌-◌, ◌<◌, ◌≤◌}
use native.Mathlib.Omega.{arith}
use borrow.Author.Tests.{le-ltb, leb-false}
use lib.Dec.{leb}
use lib.ListN.{length, get_or}
use Rattle.octets.specs.Numbers.{Octets, number}
use Rattle.layouts.specs.Formats.{Parsed, refused, got}
use Rattle.layouts.specs.Categories.{Category, category}
use Rattle.layouts.specs.Alike.{SameBefore}
use Rattle.blocks.specs.Headers.{header_of}
use Rattle.blocks.specs.Records.{Rec, layout_of}
use Rattle.blocks.specs.Blocks.{with, first_at, records_at, block_from, block_of}
use Rattle.blocks.specs.Offsets.{record_at}
use Rattle.blocks.specs.Walks.{read_of}
use Rattle.blocks.specs.Typed.{start_in, typed_rec}
use Rattle.blocks.specs.Steps.{items_from, taken_by, take_by, step_from, step_by, step_of, entry_values, entry_group_of, entry_from, found_of, entry_by, entry_of}
use Rattle.blocks.specs.Alike.{IfGot, AllAlikeAt, RecordAlikeAt, RecordsAlikeAt}
use Rattle.blocks.specs.Head.{Head}
use Rattle.blocks.specs.Head as head
use Rattle.blocks.specs.declared.record.Record.{Record}
use Rattle.blocks.specs.Step.{Step}
use Rattle.blocks.specs.Step as step
use Rattle.blocks.specs.Found.{Found}
use Rattle.blocks.proofs.HeaderLaws.{header-good}
use Rattle.blocks.proofs.BeforeLaws.{specification-before, record_before, records-before}
use Rattle.blocks.proofs.AlikeLaws.{record_alike_at}
use Rattle.blocks.proofs.ReadSteps.{record_parts}
use Rattle.blocks.proofs.ItemStarts.{start-before, start-alike}
use Rattle.blocks.proofs.TypedLaws.{entry-values}
use Rattle.blocks.proofs.StepLaws.{Took, step-took, of_step, by-step}

-- Octets with the same header and the same record at a start get the same step and the same entries

module _ (s t : List ℕ) (start : ℕ) where
  pub record SameRecord : Type 0 where
    pub head : header_of s ≡ header_of t
    pub is : (cat len : ℕ) → header_of s ≡ Head.Good cat len → record_at s len (category cat) start ≡ record_at t len (category cat) start
    pub typed : (cat len : ℕ) → header_of s ≡ Head.Good cat len → (r : Rec) (q : ℕ) → record_at s len (category cat) start ≡ got r q
        → typed_rec s len (category cat) r (items_from s len (category cat) start) ≡ typed_rec t len (category cat) r (items_from t len (category cat) start)

  -- a record of a block
  same_taken : (len : ℕ) (c : Category) (a : Parsed ℕ Rec)
      → ((r : Rec) (q : ℕ) → a ≡ got r q → typed_rec s len c r (items_from s len c start) ≡ typed_rec t len c r (items_from t len c start))
      → taken_by Step.Refused (λ r q. Step.Taken r (record { at = q })) s len c start a
      ≡ taken_by Step.Refused (λ r q. Step.Taken r (record { at = q })) t len c start a
  same_taken len c (refused n) h = refl
  same_taken len c (got r q) h = rw (h r q refl)

  module _ (same : SameRecord) where
    pub same_step : step_of s start ≡ step_of t start
    unfolding step_of step_by take_by
    same_step = go (header_of s) refl ∙ ap (step_from Step.Refused (λ r q. Step.Taken r (record { at = q })) t start) same.head
      where
        go : (h : Head) → header_of s ≡ h
            → step_from Step.Refused (λ r q. Step.Taken r (record { at = q })) s start h
            ≡ step_from Step.Refused (λ r q. Step.Taken r (record { at = q })) t start h
        go (head.Refused n) e = refl
        go (head.Good cat len) e =
            rw (← same.is cat len e, same_taken len (category cat) (record_at s len (category cat) start) (same.typed cat len e))

    module _ (o : Octets s) (o' : Octets t) (k : ℕ) where
      -- an entry is what the record's values have
      entries-same : (x : Record) (q : ℕ) → Took s start x q → k < x.entries.count
          → entry_values s (entry_group_of x.category) x.entries.at k ≡ entry_values t (entry_group_of x.category) x.entries.at k
      entries-same x q w l =
          let g = header-good s w.cat w.len w.head in
          let g' = header-good t w.cat w.len (sym same.head ∙ w.head) in
          let a = entry-values s w.len w.cat start o g.fits g.known w.taking.r q w.taking.is x w.taking.same k l in
          let b = entry-values t w.len w.cat start o' g'.fits g'.known w.taking.r q
          (sym (same.is w.cat w.len w.head) ∙ w.taking.is)
          x (w.taking.same ∙ same.typed w.cat w.len w.head w.taking.r q w.taking.is) k l in
          a ∙ sym b

      abbrev found : List ℕ → Record → Found
      found u x = entry_from Found.Refused found_of u x.category x.entries.at x.entries.count k

      found-same : (x : Record) (q : ℕ) → Took s start x q → found s x ≡ found t x
      found-same x q w = go (leb x.entries.count k) refl
        where
          go : (b : Bool) → leb x.entries.count k ≡ b → found s x ≡ found t x
          go true e = rw e
          go false e = rw (e, entries-same x q w (leb-false x.entries.count k e))

      pub same-entry : entry_of s start k ≡ entry_of t start k
      unfolding entry_of entry_by
      same-entry =
          sym (by-step Found.Refused (λ x q. found s x) s start)
          ∙ go (step_of s start) refl
          ∙ ap (of_step Found.Refused (λ x q. found t x)) same_step
          ∙ by-step Found.Refused (λ x q. found t x) t start
        where
          go : (r : Step) → step_of s start ≡ r → of_step Found.Refused (λ x q. found s x) r ≡ of_step Found.Refused (λ x q. found t x) r
          go (step.Refused n at) e = refl
          go (step.Taken x c) e = found-same x c.at (step-took s start x c e)

-- a typed record of the same values, whose items start at the same offsets
same_typed : (s t : List ℕ) (len : ℕ) (c : Category) (r : Rec) (p : ℕ)
    → ((n : ℕ) → start_in s len (layout_of c r.marks) p n ≡ start_in t len (layout_of c r.marks) p n) → typed_rec s len c r p ≡ typed_rec t len c r p
unfolding typed_rec
same_typed s t len c r p h = simp h

-- Both have a header and LEN octets, and the header is the same
module _ (s t : List ℕ) (first : (i : ℕ) → i < 3 → get_or s i 0 ≡ get_or t i 0)
    (long : 3 ≤ length s) (long' : 3 ≤ length t) (fits : number 2 s 1 ≤ length s) (fits' : number 2 s 1 ≤ length t) where
  same_len : number 2 s 1 ≡ number 2 t 1
  unfolding number
  same_len = rw (first 1 (omega arith), first 2 (omega arith))

  pub same-header : header_of s ≡ header_of t
  unfolding header_of
  same-header =
      rw (
        le-ltb (length s) 3 long,
        le-ltb (length t) 3 long',
        ← first 0 (omega arith),
        ← same_len,
        le-ltb (length s) (number 2 s 1) fits,
        le-ltb (length t) (number 2 s 1) fits',
      )

  -- what a good header says of LEN
  good-len : (cat len : ℕ) → header_of s ≡ Head.Good cat len → len ≡ number 2 s 1
  good-len cat len e = (header-good s cat len e).is-len

  -- where the records are the same, the block is, and what is read
  block_same : ((cat len : ℕ) → header_of s ≡ Head.Good cat len → records_at s len (category cat) len 3 ≡ records_at t len (category cat) len 3)
      → block_of s ≡ block_of t
  unfolding block_of
  block_same h = go (header_of s) refl ∙ ap (block_from t) same-header
    where
      go : (x : Head) → header_of s ≡ x → block_from s x ≡ block_from t x
      go (head.Refused n) e = refl
      go (head.Good cat len) e = h cat len e

  read_same : block_of s ≡ block_of t → read_of s ≡ read_of t
  unfolding read_of
  read_same e = rw (same_len, e)

  -- Octets after LEN are not read.
  module _ (before : SameBefore (number 2 s 1) s t) where
    before-len : (cat len : ℕ) → header_of s ≡ Head.Good cat len → SameBefore len s t
    before-len cat len e = rw (good-len cat len e) before

    pub block-after_len : block_of s ≡ block_of t
    block-after_len = block_same (λ cat len e. records-before len s t (before-len cat len e) (category cat) len 3)

    pub read-after_len : read_of s ≡ read_of t
    read-after_len = read_same block-after_len

    after-len : (start : ℕ) → SameRecord s t start
    after-len start = record {
      head = same-header;
      is = λ cat len e. record_before len s t (before-len cat len e) (category cat) start;
      typed = λ cat len e r q h.
          rw (specification-before len s t (before-len cat len e) ((category cat).most - 1) start)
          (same_typed s t len (category cat) r _ (start-before len s t (before-len cat len e) (layout_of (category cat) r.marks) _));
    }

    pub step-after_len : (start : ℕ) → step_of s start ≡ step_of t start
    step-after_len start = same_step s t start (after-len start)

    pub entry-after_len : Octets s → Octets t → (start k : ℕ) → entry_of s start k ≡ entry_of t start k
    entry-after_len o o' start = same-entry s t start (after-len start) o o'

  -- Spare bits change no answer.
  records-alike : (len : ℕ) (c : Category) (n at : ℕ) → RecordsAlikeAt s t len c n at → records_at s len c n at ≡ records_at t len c n at
  unfolding records_at
  records-alike len c zero at h = refl
  records-alike len c (suc n) at h =
      rw (← record_alike_at s t len c at h.0, go (record_at s len c at) (records-alike len c n) h.1)
    where
      go : (a : Parsed ℕ Rec) → ((q : ℕ) → RecordsAlikeAt s t len c n q → records_at s len c n q ≡ records_at t len c n q)
          → IfGot a (λ r q. RecordsAlikeAt s t len c n q)
          → first_at at a (λ q. records_at s len c n q) ≡ first_at at a (λ q. records_at t len c n q)
      go (refused m) ih k = refl
      go (got r q) ih k = ap (with r) (ih q k)

  module _ (h : (cat len : ℕ) → header_of s ≡ Head.Good cat len → RecordsAlikeAt s t len (category cat) len 3) where
    pub block-alike : block_of s ≡ block_of t
    block-alike = block_same (λ cat len e. records-alike len (category cat) len 3 (h cat len e))

    pub read_alike : read_of s ≡ read_of t
    read_alike = read_same block-alike

  module _ (start : ℕ) (h : (cat len : ℕ) → header_of s ≡ Head.Good cat len → RecordAlikeAt s t len (category cat) start) where
    alike : SameRecord s t start
    alike = record {
      head = same-header;
      is = λ cat len e. record_alike_at s t len (category cat) start (h cat len e);
      typed = λ cat len e r q is.
          let c = category cat in
          let (p, spec, items, z, y) = record_parts s len c start q r is in
          let rest : AllAlikeAt s t len (layout_of c r.marks) p
          = subst (λ (m : Parsed ℕ (List ℕ)). IfGot m (λ gs p. AllAlikeAt s t len (layout_of c gs) p)) spec (h cat len e).1 in
          rw (← (h cat len e).0, spec) (same_typed s t len c r p (start-alike len s t (layout_of c r.marks) p q r.items rest items));
    }

    pub step-alike : step_of s start ≡ step_of t start
    step-alike = same_step s t start alike

    pub entry-alike : Octets s → Octets t → (k : ℕ) → entry_of s start k ≡ entry_of t start k
    entry-alike o o' = same-entry s t start alike o o'
