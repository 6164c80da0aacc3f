-- Demand 2 for rewriting, at the steps: over the rewriting of a block, and over a block in which a second specification octet of zero was
-- dropped, steps hand out the same records as over the block, one by one, with their entries and content. Assumes nothing.
use mathlib.Core.Path.{◌≡◌, refl, sym, ap, ◌∙◌, subst}
use mathlib.Core.Bool.{Bool, true, false}
use mathlib.Core.List.{List, [], ◌∷◌, ◌++◌}
use Prim.Native.Nat.{ℕ, zero, suc, ◌+◌, ◌%◌, ◌≤◌, ◌<◌}
use native.Mathlib.Omega.{arith}
use borrow.Author.Tests.{eqb-false}
use lib.Dec.{eqb}
use lib.ListN.{length, drop, length-append}
use Rattle.octets.specs.Choice.{pick, odd}
use Rattle.octets.specs.Numbers.{Octets, number, octets}
use Rattle.octets.specs.Written.{Written}
use Rattle.octets.proofs.Cases.{test}
use Rattle.octets.proofs.Outcomes.{Laid, written-laid}
use Rattle.octets.proofs.Parts.{Octets-drop}
use Rattle.layouts.specs.Categories.{category, known}
use Rattle.layouts.specs.declared.form.Form.{Form}
use Rattle.items.specs.Typed.{settled}
use Rattle.blocks.specs.Forms.{form_number}
use Rattle.blocks.specs.Headers.{header_of}
use Rattle.blocks.specs.Records.{Rec}
use Rattle.blocks.specs.Blocks.{all, records_at, block_of, headed}
use Rattle.blocks.specs.Walks.{answer_of, read_of}
use Rattle.blocks.specs.Typed.{has}
use Rattle.blocks.specs.Steps.{step_of}
use Rattle.blocks.specs.Meaning.{item_in}
use Rattle.blocks.specs.Boundaries.{Joined}
use Rattle.blocks.specs.Head.{Head}
use Rattle.blocks.specs.declared.record.Record.{Record}
use Rattle.blocks.specs.Reading.{Reading}
use Rattle.blocks.specs.Step.{Step}
use Rattle.blocks.proofs.WalkSteps.{by-known}
use Rattle.blocks.proofs.BlockLaws.{headed-len}
use Rattle.blocks.proofs.JoinLaws.{second-records}
use Rattle.blocks.proofs.ListedLaws.{read-block, read-listed, step-listed}
use Rattle.blocks.proofs.BoundaryLaws.{read-filled}
use Rattle.writing.specs.Written.{rewrite_of}
use Rattle.writing.specs.Same.{Same}
use Rattle.writing.proofs.OctetsWritten as written
use Rattle.writing.proofs.OctetsWritten.{joined, octets-are}
use Rattle.writing.proofs.OctetsRewritten.{rewrite_octets}
use Rattle.writing.proofs.ReadBackTheorems.{One}
use Rattle.writing.proofs.SameRecords.{same_record}
use Rattle.demands.specs.Operations.{Reads, Rewrites}
use Rattle.demands.specs.Rewritten.{Hands, Twins, InTurnBy, InTurn}
use Rattle.demands.proofs.Demand2.{same-records, as_many}

-- a form of items before those of entries and content
pub no_place : (f : Form) → form_number f < 13 → (b : Bool) → f ≡ pick b Form.Statistics Form.Versions → ⊥
no_place f l true e = omega (arith, ap form_number e)
no_place f l false e = omega (arith, ap form_number e)

-- two records that are the same have the same item of such a form, marked or not
pub item-same : (s x : List ℕ) (t u : Record) → Same s t x u → Same x u s t → (f : Form) → form_number f < 13
    → ((at : ℕ) → settled at (item_in t f) ≡ item_in t f) → item_in u f ≡ item_in t f
item-same s x t u same back f l plain =
    test (has t f) (λ h. (same.present f h).1 ∙ plain (same.present f h).0)
    (λ h. same.absent f (no_place f l (eqb t.category 242)) h
    ∙ sym (back.absent f (no_place f l (eqb u.category 242)) (rw (same.category, same.marks) h)))

-- a step that hands out a record is that answer
pub handed : (s : List ℕ) (at : ℕ) (t : Record) (next : ℕ) → Hands s at t next → step_of s at ≡ Step.Taken t (record { at = next })
handed s at t next h = h (step_of s at) (refl, step-listed s at)

-- what holds of records in turn, another thing does that it tells
pub in_turn-told : (Holds Told : ℕ → ℕ → ℕ → ℕ → Type 0) → ((at next at' next' : ℕ) → Holds at next at' next' → Told at next at' next')
    → (n at at' end end' : ℕ) → InTurnBy Holds n at at' end end' → InTurnBy Told n at at' end end'
in_turn-told Holds Told tells zero at at' end end' w = w
in_turn-told Holds Told tells (suc n) at at' end end' (q, q', w, more) = (q, q', tells at q at' q' w, in_turn-told Holds Told tells n q q' end end' more)

module _ (s x : List ℕ) (o : Octets s) (o' : Octets x) where
  -- records that both have, from an offset in each
  in_turn : (cat len len' : ℕ) → header_of s ≡ Head.Good cat len → header_of x ≡ Head.Good cat len'
      → (rs : List Rec) (at at' end end' : ℕ) → 3 ≤ at → 3 ≤ at' → Joined s len (category cat) at rs end → Joined x len' (category cat) at' rs end'
      → InTurn s x (length rs) at at' end end'
  in_turn cat len len' h h' [] at at' end end' l l' j j' = (j, j')
  in_turn cat len len' h h' (r ∷ rs) at at' end end' l l' (q, e, a, b, j) (q', e', a', b', j') =
      let one : One s cat len at q r = record { head = h; low = l; more = omega arith; is = e } in
      let other : One x cat len' at' q' r = record { head = h'; low = l'; more = omega arith; is = e' } in
      let (t, u, is-t, is-u, same, back, entries) = same_record s x o o' cat len at q len' at' q' r one other in
      let twins : Twins s x at q at' q' = record {
        one = t;
        other = u;
        first = λ r k. k.0 ∙ is-t;
        second = λ r k. k.0 ∙ is-u;
        same = same;
        back = back;
        entries = λ k r p a b. a.0 ∙ entries k ∙ sym b.0;
      } in
      (q, q', twins, in_turn cat len len' h h' rs q q' end end' (omega arith) (omega arith) j j')

  -- Two accepted blocks with the same records: steps from the first hand them out in turn, as many as reading counts.
  pub same_blocks : (len n len' n' : ℕ) → read_of s ≡ Reading.Accepted len n → read_of x ≡ Reading.Accepted len' n' → block_of s ≡ block_of x
      → InTurn s x n 3 3 len len'
  same_blocks len n len' n' a b e =
      let (cat, rs, h, j, count, is) = read-filled s len n o a in
      let (cat', rs', h', j', count', is') = read-filled x len' n' o' b in
      let both : all cat rs ≡ all cat' rs' = sym is ∙ e ∙ is' in
      let same-cat : cat' ≡ cat = cc in
      let same-rs : rs' ≡ rs = cc in
      subst (λ (m : ℕ). InTurn s x m 3 3 len len') count
      (in_turn cat len len' h (rw same-cat at h') rs 3 3 len len' (omega arith) (omega arith) j
      (subst (λ (l : List Rec). Joined x len' (category cat) 3 l len') same-rs (rw same-cat at j')))

-- A block s was rewritten into the output, n octets of it
module _ (s : List ℕ) (o : Octets s) (l : List ℕ) (o' : Octets l) (out : List ℕ) (n : ℕ) (h : Rewrites s l out (Written.Octets n)) where
  abbrev w : Laid (rewrite_of s) l out n
  w = written-laid (rewrite_of s) l out n h.0 h.1

  pub rewritten-octets : Octets out
  rewritten-octets = rw w.same (joined w.xs (drop n l) (rewrite_octets s w.xs o w.is) (Octets-drop n l o'))

  -- Steps over the rewriting hand out, one by one, the block's records, as many as it has, with their entries and content.
  pub rewritten_steps : (len k : ℕ) → Reads s (Reading.Accepted len k) → InTurn s out k 3 3 len n
  rewritten_steps len k a =
      same_blocks s out o rewritten-octets len k n k (sym a.0) (as_many s o l out n h len k a (read_of out) (refl, read-listed out))
      (sym (same-records s o l out n h))

-- A block in which one record, behind whole records a, has a second specification octet of zero, and the block without it
module _ (cat : ℕ) (k : known cat ≡ true) (two : 2 ≤ (category cat).most) (a b : List ℕ) (x : ℕ) (o : Octets a) (o' : Octets (x ∷ b))
    (even : odd x ≡ false) (n : ℕ) (rs ts : List Rec) (e : records_at a (length a) (category cat) n 0 ≡ all cat rs)
    (f : records_at (x ∷ b) (length (x ∷ b)) (category cat) n 0 ≡ all cat ts) (fit : 3 + length (a ++ ((x + 1) ∷ 0 ∷ b)) < 65536) (t : List ℕ) (ot : Octets t) where
  abbrev pub longer : List ℕ
  longer = headed cat (a ++ ((x + 1) ∷ 0 ∷ b)) ++ t

  abbrev pub plain : List ℕ
  plain = headed cat (a ++ (x ∷ b)) ++ t

  headed-octets : (body : List ℕ) → Octets body → Octets (headed cat body ++ t)
  headed-octets body p =
      let size = octets 2 (3 + length body) in
      let low : cat < 256 = by-known (λ (m : ℕ). m < 256) (omega arith) (omega arith) (omega arith) cat k in
      joined (headed cat body) t (written.one cat (size ++ body) low (joined size body (octets-are 2 (3 + length body)) p)) ot

  pub longer-octets : Octets longer
  longer-octets =
      let low : x + 1 < 256 = omega (arith, o' 0, eqb-false (x % 2) 1 even) in
      headed-octets (a ++ ((x + 1) ∷ 0 ∷ b)) (joined a _ o (written.one (x + 1) (0 ∷ b) low (written.one 0 b (omega arith) (λ i. o' (suc i)))))

  pub plain-octets : Octets plain
  plain-octets = headed-octets (a ++ (x ∷ b)) (joined a (x ∷ b) o o')

  -- as many records, up to LEN
  abbrev both : (block_of longer ≡ all cat (rs ++ ts)) × (block_of plain ≡ all cat (rs ++ ts))
  both = second-records cat k two a b x o o' even n rs ts e f fit t

  read_up : (body : List ℕ) → 3 + length body < 65536 → block_of (headed cat body ++ t) ≡ all cat (rs ++ ts)
      → read_of (headed cat body ++ t) ≡ Reading.Accepted (3 + length body) (length (rs ++ ts))
  read_up body l g =
      read-block (headed cat body ++ t) ∙ ap (answer_of (number 2 (headed cat body ++ t) 1)) g
      ∙ ap (λ (m : ℕ). Reading.Accepted m (length (rs ++ ts))) (headed-len cat body t l)

  -- Steps over the two hand out the same records, one by one.
  pub second_steps : InTurn (headed cat (a ++ ((x + 1) ∷ 0 ∷ b)) ++ t) (headed cat (a ++ (x ∷ b)) ++ t) (length (rs ++ ts)) 3 3 (3 + length (a ++ ((x + 1) ∷ 0 ∷ b))) (3 + length (a ++ (x ∷ b)))
  second_steps =
      let l : length (a ++ ((x + 1) ∷ 0 ∷ b)) ≡ suc (length (a ++ (x ∷ b))) = rw (length-append, length-append) (omega arith) in
      same_blocks longer plain longer-octets plain-octets _ _ _ _ (read_up (a ++ ((x + 1) ∷ 0 ∷ b)) fit both.0)
      (read_up (a ++ (x ∷ b)) (omega arith) both.1) (both.0 ∙ sym both.1)
