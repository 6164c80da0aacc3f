-- Steps and entries: what the definitions say of the case that a branch of the code is in. Assumes nothing.
use mathlib.Core.Path.{◌≡◌, refl, sym, ◌∙◌}
use mathlib.Core.Bool.{Bool, true, false, ◌||◌}
use mathlib.Core.List.{List}
use Prim.Native.Nat.{ℕ, ◌+◌, ◌*◌, ◌<◌, ◌≤◌}
use native.Mathlib.Omega.{arith}
use borrow.Author.Tests.{lt-ltb, le-ltb, lt-leb, le-leb, eq-eqb, ne_eqb, ltb-false, leb-false}
use lib.Dec.{leb, ltb}
use lib.ListN.{length}
use Rattle.octets.specs.Choice.{pick}
use Rattle.octets.specs.Numbers.{Octets, number}
use Rattle.octets.specs.Refusals.{no_such}
use Rattle.layouts.specs.Groups.{values}
use Rattle.layouts.specs.Formats.{Parsed, refused, got}
use Rattle.layouts.specs.Tables.{counter, version}
use Rattle.layouts.specs.Categories.{category}
use Rattle.items.specs.Typed.{counter_of, version_of}
use Rattle.blocks.specs.Headers.{header_of}
use Rattle.blocks.specs.Records.{Rec}
use Rattle.blocks.specs.Offsets.{record_at}
use Rattle.blocks.specs.Walks.{onward, run_of}
use Rattle.blocks.specs.Typed.{typed_rec}
use Rattle.blocks.specs.Steps.{items_from, taken_by, take_by, step_from, step_by, take_of, step_of, entry_group_of, entry_from, entry_by, found_of, entry_in, entry_of}
use Rattle.blocks.specs.Head.{Head}
use Rattle.blocks.specs.Head as head
use Rattle.blocks.specs.declared.record.Record.{Record}
use Rattle.blocks.specs.Walked.{Walked}
use Rattle.blocks.specs.declared.cursor.Cursor.{Cursor}
use Rattle.blocks.specs.Step.{Step}
use Rattle.blocks.specs.Step as step
use Rattle.blocks.specs.Found.{Found}
use Rattle.blocks.proofs.HeaderLaws.{header-good}
use Rattle.blocks.proofs.WalkSteps.{run-one, run_none}
use Rattle.blocks.proofs.ListedLaws.{step-made}
use Rattle.blocks.proofs.TypedLaws.{entries-within}

-- A record of a block
walked_on : {q c n at : ℕ} → Walked.To q c ≡ Walked.Refused n at → ⊥
walked_on h = let z : ◌≡◌ {A = ℕ} 0 1 = cc in omega arith

module _ (s : List ℕ) (len cat at : ℕ) (more : at < len) where
  abbrev one : Parsed ℕ Rec → Walked
  one a = onward s len (category cat) at a (λ q. run_of s len (category cat) 0 q (0 + 1))

  is_one : (w : Walked) → w ≡ run_of s len (category cat) 1 at 0 → w ≡ one (record_at s len (category cat) at)
  is_one w e = e ∙ sym (run-one s len (category cat) at 1 0 0 refl more)

  pub take-refused : (n start : ℕ) → Walked.Refused n start ≡ run_of s len (category cat) 1 at 0
      → Step.Refused n start ≡ take_of s len cat at
  unfolding take_of take_by
  take-refused n start e = go (record_at s len (category cat) at) (is_one _ e)
    where
      go : (a : Parsed ℕ Rec) → Walked.Refused n start ≡ one a
          → Step.Refused n start ≡ taken_by Step.Refused (λ t q. Step.Taken t (record { at = q })) s len (category cat) at a
      go (refused m) h = let a : n ≡ m = cc in let b : start ≡ at = cc in rw (a, b)
      go (got r q) h = absurd (walked_on (run_none s len (category cat) q 0 1 refl ∙ sym h))

  pub take-taken : (q c : ℕ) → Walked.To q c ≡ run_of s len (category cat) 1 at 0
      → (t : Record) → ((r : Rec) (p : ℕ) → record_at s len (category cat) at ≡ got r p → t ≡ typed_rec s len (category cat) r (items_from s len (category cat) at))
      → Step.Taken t (record { at = q }) ≡ take_of s len cat at
  unfolding take_of take_by
  take-taken q c e t h = go (record_at s len (category cat) at) refl (is_one _ e)
    where
      go : (a : Parsed ℕ Rec) → record_at s len (category cat) at ≡ a → Walked.To q c ≡ one a
          → Step.Taken t (record { at = q }) ≡ taken_by Step.Refused (λ t q. Step.Taken t (record { at = q })) s len (category cat) at a
      go (refused m) f g = absurd (walked_on g)
      go (got r p) f g =
          let same : Walked.To q c ≡ Walked.To p 1 = g ∙ sym (run_none s len (category cat) p 0 1 refl) in
          let a : q ≡ p = cc in
          rw (a, h r p f)

-- A step
module _ (s : List ℕ) (start : ℕ) where
  pub step-refused : (n : ℕ) → Head.Refused n ≡ header_of s → Step.Refused n 0 ≡ step_of s start
  unfolding step_of step_by
  step-refused n h = rw (← h)

  module _ (cat len : ℕ) (good : Head.Good cat len ≡ header_of s) where
    pub step-low : start < 3 → Step.Refused no_such 0 ≡ step_of s start
    unfolding step_of step_by
    step-low e = rw (← good, lt-ltb start 3 e)

    pub step_past : 3 ≤ start → len ≤ start → Step.Refused no_such 0 ≡ step_of s start
    unfolding step_of step_by
    step_past l e = rw (← good, le-ltb start 3 l, le-leb len start e)

    pub step-inside : 3 ≤ start → start < len → (r : Step) → r ≡ take_of s len cat start → r ≡ step_of s start
    unfolding step_of step_by take_of
    step-inside l e r h = h ∙ rw (← good, le-ltb start 3 l, lt-leb len start e)

pub not_taken : {n at : ℕ} {t : Record} {c : Cursor} → Step.Refused n at ≡ Step.Taken t c → ⊥
not_taken h = let z : ◌≡◌ {A = ℕ} 0 1 = cc in omega arith

-- what a step inside a block says
module _ (s : List ℕ) (len cat at : ℕ) where
  -- of the record that was taken
  pub record Taking (t : Record) (next : ℕ) : Type 0 where
    pub r : Rec
    pub is : record_at s len (category cat) at ≡ got r next
    pub same : t ≡ typed_rec s len (category cat) r (items_from s len (category cat) at)

  abbrev by : Parsed ℕ Rec → Step
  by = taken_by Step.Refused (λ t q. Step.Taken t (record { at = q })) s len (category cat) at

  pub take-took : (t : Record) (c : Cursor) → take_of s len cat at ≡ Step.Taken t c → Taking t c.at
  unfolding take_of take_by
  take-took t c = go (record_at s len (category cat) at) refl
    where
      go : (a : Parsed ℕ Rec) → record_at s len (category cat) at ≡ a → by a ≡ Step.Taken t c → Taking t c.at
      go (refused n) e h = absurd (not_taken h)
      go (got r q) e h = record { r = r; is = e ∙ cc; same = cc }

  pub take-stopped : (n p : ℕ) → take_of s len cat at ≡ Step.Refused n p → record_at s len (category cat) at ≡ refused n
  unfolding take_of take_by
  take-stopped n p = go (record_at s len (category cat) at) refl
    where
      go : (a : Parsed ℕ Rec) → record_at s len (category cat) at ≡ a → by a ≡ Step.Refused n p → record_at s len (category cat) at ≡ refused n
      go (refused m) e h = e ∙ cc
      go (got r q) e h = absurd (not_taken (sym h))

-- what a step that was taken says
pub record Took (s : List ℕ) (start : ℕ) (t : Record) (next : ℕ) : Type 0 where
  pub cat : ℕ
  pub len : ℕ
  pub head : header_of s ≡ Head.Good cat len
  pub low : 3 ≤ start
  pub more : start < len
  pub taking : Taking s len cat start t next

pub step-took : (s : List ℕ) (start : ℕ) (t : Record) (c : Cursor) → step_of s start ≡ Step.Taken t c → Took s start t c.at
unfolding step_of step_by take_of
step-took s start t c = by-head (header_of s) refl
  where
    by-start : (cat len : ℕ) → header_of s ≡ Head.Good cat len → (a b : Bool) → ltb start 3 ≡ a → leb len start ≡ b
        → pick (a || b) (Step.Refused no_such 0) (take_of s len cat start) ≡ Step.Taken t c → Took s start t c.at
    by-start cat len e true b f g h = absurd (not_taken h)
    by-start cat len e false true f g h = absurd (not_taken h)
    by-start cat len e false false f g h = record {
      cat = cat;
      len = len;
      head = e;
      low = ltb-false start 3 f;
      more = leb-false len start g;
      taking = take-took s len cat start t c h;
    }

    by-head : (h : Head) → header_of s ≡ h → step_from Step.Refused (λ t q. Step.Taken t (record { at = q })) s start h ≡ Step.Taken t c
        → Took s start t c.at
    by-head (head.Refused n) e h = absurd (not_taken h)
    by-head (head.Good cat len) e h = by-start cat len e (ltb start 3) (leb len start) refl refl h

-- An entry
abbrev pub of_step : {A : Type 0} → (ℕ → ℕ → A) → (Record → ℕ → A) → Step → A
of_step r k (step.Refused n at) = r n at
of_step r k (step.Taken t c) = k t c.at

pub by-step : {A : Type 0} (r : ℕ → ℕ → A) (k : Record → ℕ → A) (s : List ℕ) (start : ℕ) → of_step r k (step_of s start) ≡ step_by r k s start
unfolding step_of
by-step r k = step-made (of_step r k) (λ n at. refl) (λ t q. refl)

module _ (s : List ℕ) (start k : ℕ) where
  pub entry-refused : (n at : ℕ) → Step.Refused n at ≡ step_of s start → Found.Refused n at ≡ entry_of s start k
  unfolding entry_of entry_by
  entry-refused n at h = rw (← h) at (by-step Found.Refused (λ t q. entry_from Found.Refused found_of s t.category t.entries.at t.entries.count k) s start)

  pub entry-taken : (t : Record) (c : Cursor) → Step.Taken t c ≡ step_of s start
      → (r : Found) → r ≡ entry_in s t.category t.entries.at t.entries.count k → r ≡ entry_of s start k
  unfolding entry_of entry_by entry_in
  entry-taken t c h r e =
      e ∙ rw (← h) at (by-step Found.Refused (λ t q. entry_from Found.Refused found_of s t.category t.entries.at t.entries.count k) s start)

-- 17, or the entry of the record's category
module _ (s : List ℕ) (cat at count k : ℕ) where
  pub entry-none : count ≤ k → Found.Refused no_such 0 ≡ entry_in s cat at count k
  unfolding entry_in
  entry-none h = rw (le-leb count k h)

  pub entry-version : k < count → cat ≡ 242 → (n : ℕ) → n ≡ at + k * version.wide
      → Found.Version (version_of (values version.parts (number version.wide s n))) ≡ entry_in s cat at count k
  unfolding entry_in
  entry-version h e n is = rw (lt-leb count k h, eq-eqb cat 242 e, is)

  pub entry-counter : k < count → (cat ≡ 242 → ⊥) → (n : ℕ) → n ≡ at + k * counter.wide
      → Found.Counter (counter_of (values counter.parts (number counter.wide s n))) ≡ entry_in s cat at count k
  unfolding entry_in
  entry-counter h e n is = rw (lt-leb count k h, ne_eqb cat 242 e, is)

-- the entries of a record that was taken lie in the octets
pub entries-room : (s : List ℕ) (start : ℕ) (t : Record) (c : Cursor) → Octets s → Step.Taken t c ≡ step_of s start
    → t.entries.at + t.entries.count * (entry_group_of t.category).wide ≤ length s
entries-room s start t c o h =
    let w = step-took s start t c (sym h) in
    let g = header-good s w.cat w.len w.head in
    let l = entries-within s w.len w.cat start o g.fits g.known w.taking.r c.at w.taking.is t w.taking.same in
    (let f = g.fits in omega arith)
