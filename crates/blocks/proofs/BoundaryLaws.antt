-- The records found fill LEN exactly, each from where the one before it ended, by reading and by stepping. Assumes nothing.
use mathlib.Core.Path.{◌≡◌, refl, sym, ap, ◌∙◌, subst}
use mathlib.Core.Logic.{inl, inr}
use mathlib.Core.Bool.{Bool, true, false}
use mathlib.Core.List.{List, [], ◌∷◌, ◌++◌, map}
use Prim.Native.Nat.{ℕ, zero, suc, ◌-◌, ◌≤◌, ◌<◌}
use native.Mathlib.Omega.{arith}
use borrow.Author.Tests.{leb-true, leb-false, lt-leb, le-leb, le-ltb}
use lib.Dec.{leb}
use lib.ListN.{length, length-map}
use Rattle.octets.specs.Numbers.{Octets}
use Rattle.octets.specs.Refusals.{no_such}
use Rattle.layouts.specs.Formats.{Parsed, refused, got}
use Rattle.layouts.specs.Categories.{Category, category}
use Rattle.blocks.specs.Headers.{header_of}
use Rattle.blocks.specs.Records.{Rec}
use Rattle.blocks.specs.Blocks.{Block, wrong, all, with, block_of, first_at, records_at}
use Rattle.blocks.specs.Offsets.{record_at}
use Rattle.blocks.specs.Walks.{answer_of, read_of}
use Rattle.blocks.specs.Typed.{typed_rec}
use Rattle.blocks.specs.Steps.{items_from, take_by, step_by, step_of}
use Rattle.blocks.specs.Meaning.{rec_of}
use Rattle.blocks.specs.Boundaries.{Joined, Full, Stopped, Visited}
use Rattle.blocks.specs.Head.{Head}
use Rattle.blocks.specs.Head as head
use Rattle.blocks.specs.declared.record.Record.{Record}
use Rattle.blocks.specs.declared.cursor.Cursor.{Cursor}
use Rattle.blocks.specs.Step.{Step}
use Rattle.blocks.specs.Reading.{Reading}
use Rattle.blocks.proofs.HeaderLaws.{header-good}
use Rattle.blocks.proofs.BlockLaws.{category-cat}
use Rattle.blocks.proofs.ReadSteps.{record_within, records-end, records-one}
use Rattle.blocks.proofs.MeaningLaws.{means-read}
use Rattle.blocks.proofs.StepLaws.{step-took}

module _ (s : List ℕ) (len : ℕ) (c : Category) where
  -- what reading from an offset finds: records that go to LEN; or records up to the first faulty one
  abbrev Found : ℕ → Block → Type 0
  Found at (all cat rs) = (cat ≡ c.cat) × Joined s len c at rs len
  Found at (wrong n end) = (rs : List Rec) × Joined s len c at rs end × (record_at s len c end ≡ refused n) × (end < len)

  -- a record in front
  found-with : (at q : ℕ) (r : Rec) → record_at s len c at ≡ got r q → at < q → q ≤ len → (b : Block) → Found q b → Found at (with r b)
  found-with at q r e l m (all cat rs) w = (w.0, (q, e, l, m, w.1))
  found-with at q r e l m (wrong n end) w = (r ∷ w.0, (q, e, l, m, w.1), w.2, w.3)

  module _ (o : Octets s) where
    found_first : (at : ℕ) → at < len → (f : ℕ → Block) → ((q : ℕ) → at < q → q ≤ len → Found q (f q))
        → (m : Parsed ℕ Rec) → record_at s len c at ≡ m → Found at (first_at at m f)
    found_first at l f k (refused n) e = ([], refl, e, l)
    found_first at l f k (got r q) e =
        let (a, b) = record_within s len c o at q r e in
        found-with at q r e a b (f q) (k q a b)

    found_none : (m at : ℕ) → at ≤ len → len ≤ at → Found at (records_at s len c m at)
    found_none m at l h = subst (Found at) (sym (records-end s len c m at h)) (refl, omega arith)

    -- each record has an octet, so as many steps as octets are left to LEN are enough
    found : (m at : ℕ) → at ≤ len → len - at ≤ m → Found at (records_at s len c m at)
    found zero at l k = found_none 0 at l (omega arith)
    found (suc m) at l k = go (leb len at) refl (λ q a b. found m q b (omega arith))
      where
        go : (b : Bool) → leb len at ≡ b → ((q : ℕ) → at < q → q ≤ len → Found q (records_at s len c m q))
            → Found at (records_at s len c (suc m) at)
        go true e ih = found_none (suc m) at l (leb-true len at e)
        go false e ih =
            let more = leb-false len at e in
            subst (Found at) (sym (records-one s len c (suc m) m at refl more))
            (found_first at more (λ q. records_at s len c m q) ih (record_at s len c at) refl)

  -- records that go to LEN are those that reading finds
  joined-records : (m at : ℕ) (rs : List Rec) → len - at ≤ m → Joined s len c at rs len → records_at s len c m at ≡ all c.cat rs
  joined-records m at [] k j = records-end s len c m at (omega arith)
  joined-records m at (r ∷ rs) k (q, e, l, h, j) =
      records-one s len c m (m - 1) at (omega arith) (omega arith)
      ∙ rw (e, joined-records (m - 1) q rs (omega arith) j)

-- a good header: reading, and the block's records, are those from offset 3 on
module _ (s : List ℕ) (cat len : ℕ) (h : header_of s ≡ Head.Good cat len) where
  abbrev pub body : Block
  body = records_at s len (category cat) len 3

  pub block-good : block_of s ≡ body
  unfolding block_of
  block-good = rw h

  pub read-good : read_of s ≡ answer_of len body
  unfolding read_of
  read-good = rw (block-good, ← (header-good s cat len h).is-len)

  body-found : Octets s → Found s len (category cat) 3 body
  body-found o = let w = header-good s cat len h in found s len (category cat) o len 3 (omega arith) (omega arith)

pub read-refused : (s : List ℕ) (n : ℕ) → header_of s ≡ Head.Refused n → read_of s ≡ Reading.Refused n 0
unfolding read_of block_of
read-refused s n h = rw h

pub not_accepted : {n at len count : ℕ} → Reading.Refused n at ≡ Reading.Accepted len count → ⊥
not_accepted h = let z : ◌≡◌ {A = ℕ} 0 1 = cc in omega arith

full-all : (s : List ℕ) (cat len' len n : ℕ) → header_of s ≡ Head.Good cat len'
    → (b : Block) → block_of s ≡ b → Found s len' (category cat) 3 b → answer_of len' b ≡ Reading.Accepted len n → Full s len n
full-all s cat len' len n h (wrong m at) e w a = absurd (not_accepted a)
full-all s cat len' len n h (all cat' rs) e w a =
    let same_len : len' ≡ len = cc in
    let same-cat : cat' ≡ cat = w.0 ∙ category-cat cat in
    let count : length rs ≡ n = cc in
    subst (λ l. Full s l n) same_len (cat, rs, h, w.1, count, rw same-cat at e)

-- An accepted block: its records fill LEN exactly, and there are as many as the answer says.
pub read-filled : (s : List ℕ) (len n : ℕ) → Octets s → read_of s ≡ Reading.Accepted len n → Full s len n
read-filled s len n o a = go (header_of s) refl
  where
    go : (h : Head) → header_of s ≡ h → Full s len n
    go (head.Refused m) h = absurd (not_accepted (sym (read-refused s m h) ∙ a))
    go (head.Good cat len') h =
        full-all s cat len' len n h (body s cat len' h) (block-good s cat len' h) (body-found s cat len' h o)
        (sym (read-good s cat len' h) ∙ a)

-- The converse: records that fill LEN exactly are accepted.
pub filled-read : (s : List ℕ) (cat len : ℕ) (rs : List Rec) → header_of s ≡ Head.Good cat len → Joined s len (category cat) 3 rs len
    → read_of s ≡ Reading.Accepted len (length rs)
filled-read s cat len rs h j = read-good s cat len h ∙ rw (joined-records s len (category cat) len 3 rs (omega arith) j)

stopped-wrong : (s : List ℕ) (cat len n at : ℕ) → header_of s ≡ Head.Good cat len → (b : Block) → Found s len (category cat) 3 b
    → answer_of len b ≡ Reading.Refused n at → Stopped s n at
stopped-wrong s cat len n at h (all cat' rs) w a = absurd (not_accepted (sym a))
stopped-wrong s cat len n at h (wrong m end) w a =
    let same : m ≡ n = cc in
    let here : end ≡ at = cc in
    rw (← same, ← here) (inr (cat, len, w.0, h, w.1, w.2, w.3))

-- A refused block: at the offset of its first faulty record, and all records before it are good.
pub read-stopped : (s : List ℕ) (n at : ℕ) → Octets s → read_of s ≡ Reading.Refused n at → Stopped s n at
read-stopped s n at o a = go (header_of s) refl
  where
    go : (h : Head) → header_of s ≡ h → Stopped s n at
    go (head.Refused m) h =
        let e = sym (read-refused s m h) ∙ a in
        let same : m ≡ n = cc in
        inl (rw same at h, cc)
    go (head.Good cat len) h =
        stopped-wrong s cat len n at h (body s cat len h) (body-found s cat len h o) (sym (read-good s cat len h) ∙ a)

-- Stepping

module _ (s : List ℕ) (cat len : ℕ) (h : header_of s ≡ Head.Good cat len) where
  -- a step from where a record was read takes that record, typed, and goes to where it ended
  pub step-read : (at q : ℕ) (r : Rec) → 3 ≤ at → at < len → record_at s len (category cat) at ≡ got r q
      → step_of s at ≡ Step.Taken (typed_rec s len (category cat) r (items_from s len (category cat) at)) (record { at = q })
  unfolding step_of step_by take_by
  step-read at q r a b e = rw (h, le-ltb at 3 a, lt-leb len at b, e)

  -- so steps visit the records that reading finds
  joined-visited : Octets s → (at end : ℕ) (rs : List Rec) → 3 ≤ at → Joined s len (category cat) at rs end
      → (ts : List Record) × Visited s at ts end × (map (rec_of s) ts ≡ rs)
  joined-visited o at end [] l j = ([], j, refl)
  joined-visited o at end (r ∷ rs) l (q, e, a, b, j) =
      let t = typed_rec s len (category cat) r (items_from s len (category cat) at) in
      let (ts, v, m) = joined-visited o q end rs (omega arith) j in
      let means = means-read s len cat at o (header-good s cat len h).known r q e in
      (t ∷ ts, (q, step-read at q r l (omega arith) e, v), rw (means, m))

  -- From LEN on no step takes a record.
  pub step_end : (at : ℕ) → len ≤ at → step_of s at ≡ Step.Refused no_such 0
  unfolding step_of step_by
  step_end at l =
      let w = header-good s cat len h in
      rw (h, le-ltb at 3 (omega arith), le-leb len at l)

-- Stepping from offset 3 visits an accepted block's records, all of them and in order, up to LEN.
pub visited : (s : List ℕ) (len n : ℕ) → Octets s → read_of s ≡ Reading.Accepted len n
    → (cat : ℕ) × (ts : List Record) × Visited s 3 ts len × (length ts ≡ n) × (block_of s ≡ all cat (map (rec_of s) ts))
visited s len n o a =
    let (cat, rs, h, j, count, is) = read-filled s len n o a in
    let (ts, v, m) = joined-visited s cat len h o 3 len rs (omega arith) j in
    (cat, ts, v, sym (length-map ts (rec_of s)) ∙ ap length m ∙ count, rw m is)

module _ (s : List ℕ) (o : Octets s) where
  -- a step that takes a record goes forward
  pub step-forward : (at q : ℕ) (t : Record) → step_of s at ≡ Step.Taken t (record { at = q }) → at < q
  step-forward at q t e =
      let w = step-took s at t (record { at = q }) e in
      (record_within s w.len (category w.cat) o at q w.taking.r w.taking.is).0

  pub visited-forward : (at end : ℕ) (ts : List Record) → Visited s at ts end → at ≤ end
  visited-forward at end [] j = omega arith
  visited-forward at end (t ∷ ts) (q, e, v) = omega (arith, step-forward at q t e, visited-forward q end ts v)

  -- From one offset to another steps visit one list of records only.
  pub visited-only : (at end : ℕ) (ts us : List Record) → Visited s at ts end → Visited s at us end → ts ≡ us
  visited-only at end [] [] v w = refl
  visited-only at end [] (u ∷ us) v (q, e, w) = absurd (omega (arith, step-forward at q u e, visited-forward q end us w))
  visited-only at end (t ∷ ts) [] (q, e, v) w = absurd (omega (arith, step-forward at q t e, visited-forward q end ts v))
  visited-only at end (t ∷ ts) (u ∷ us) (q, e, v) (p, d, w) =
      let same : t ≡ u = cc in
      let next : q ≡ p = ap (λ (c : Cursor). c.at) (cc) in
      rw same (ap (λ (l : List Record). u ∷ l) (visited-only q end ts us v (rw (← next) at w)))

  -- Steps from one offset to another and on are steps to the last; and those to the last go on from one that they reach.
  pub visited-join : (at mid end : ℕ) (ts us : List Record) → Visited s at ts mid → Visited s mid us end → Visited s at (ts ++ us) end
  visited-join at mid end [] us v w = rw v w
  visited-join at mid end (t ∷ ts) us (q, e, v) w = (q, e, visited-join q mid end ts us v w)

  pub visited_split : (at mid end : ℕ) (ts vs : List Record) → Visited s at ts mid → Visited s at vs end → mid ≤ end
      → (us : List Record) × (vs ≡ ts ++ us) × Visited s mid us end
  visited_split at mid end [] vs v w l = (vs, refl, rw (← v) w)
  visited_split at mid end (t ∷ ts) [] (q, e, v) w l = absurd (omega (arith, step-forward at q t e, visited-forward q mid ts v))
  visited_split at mid end (t ∷ ts) (u ∷ vs) (q, e, v) (p, d, w) l =
      let same : t ≡ u = cc in
      let next : q ≡ p = ap (λ (c : Cursor). c.at) (cc) in
      let (us, is, rest) = visited_split q mid end ts vs v (rw (← next) at w) l in
      (us, ap (λ (y : Record). y ∷ vs) (sym same) ∙ ap (λ (l : List Record). t ∷ l) is, rest)

  -- Steps from 3 to LEN have found an accepted block, and as many records as it has.
  visited-joined : (cat len : ℕ) → header_of s ≡ Head.Good cat len → (at end : ℕ) (ts : List Record) → Visited s at ts end
      → (rs : List Rec) × Joined s len (category cat) at rs end × (length rs ≡ length ts)
  visited-joined cat len h at end [] v = ([], v, refl)
  visited-joined cat len h at end (t ∷ ts) (q, e, v) =
      let w = step-took s at t (record { at = q }) e in
      let good : Head.Good w.cat w.len ≡ Head.Good cat len = sym w.head ∙ h in
      let same-cat : w.cat ≡ cat = cc in
      let same_len : w.len ≡ len = cc in
      let is : record_at s len (category cat) at ≡ got w.taking.r q = rw (same-cat, same_len) at w.taking.is in
      let (rs, j, count) = visited-joined cat len h q end ts v in
      let (a, b) = record_within s len (category cat) o at q w.taking.r is in
      (w.taking.r ∷ rs, (q, is, a, b, j), ap suc count)

  pub visited-read : (cat len : ℕ) → header_of s ≡ Head.Good cat len → (ts : List Record) → Visited s 3 ts len
      → read_of s ≡ Reading.Accepted len (length ts)
  visited-read cat len h ts v =
      let (rs, j, count) = visited-joined cat len h 3 len ts v in
      filled-read s cat len rs h j ∙ ap (Reading.Accepted len) count
