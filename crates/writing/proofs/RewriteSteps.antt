-- A block rewritten: what the definitions say of the case that a branch of the code is in. Assumes nothing.
use mathlib.Core.Path.{◌≡◌, refl, sym, ap, ◌∙◌}
use mathlib.Core.Bool.{true}
use mathlib.Core.List.{List, [], ◌++◌}
use Prim.Native.Nat.{ℕ, ◌+◌, ◌≤◌, ◌<◌}
use native.Mathlib.Nat.{zero-add}
use native.Mathlib.Omega.{arith}
use lib.ListN.{length, length-append}
use Rattle.octets.specs.Numbers.{Octets, number, octets, laid}
use Rattle.octets.specs.Refusals.{output_too_short}
use Rattle.octets.proofs.Laying.{laid_none, laid-laid, length-laid}
use Rattle.layouts.specs.Categories.{known, category}
use Rattle.items.specs.Size.{Size}
use Rattle.blocks.specs.Blocks.{Block, wrong, all, block_of, put_recs, put_block}
use Rattle.blocks.specs.Steps.{take_of}
use Rattle.blocks.specs.Walks.{answer_of, read_of}
use Rattle.blocks.specs.declared.record.Record.{Record}
use Rattle.blocks.specs.declared.cursor.Cursor.{Cursor}
use Rattle.blocks.specs.Step.{Step}
use Rattle.blocks.specs.Reading.{Reading}
use Rattle.blocks.proofs.ReadSteps.{record_within}
use Rattle.blocks.proofs.ListedLaws.{read-block}
use Rattle.blocks.proofs.BoundaryLaws.{not_accepted}
use Rattle.blocks.proofs.StepLaws.{take-took, take-stopped}
use Rattle.writing.specs.Judged.{record_refusal, record_octets, record_size}
use Rattle.octets.specs.Outcomes.{no, puts, within}
use Rattle.writing.specs.Written.{rewrite_from, rewrite_of, header_octets, good_at, normal_at}
use Rattle.octets.specs.Written.{Written}
use Rattle.octets.proofs.Outcomes.{Says, says-short, says-puts}
use Rattle.writing.proofs.Reread.{read-judged, read-octets}
use Rattle.writing.proofs.GoodLaws.{good-end, good-refused, good-step, good-short, Accepted}
use Rattle.writing.proofs.RecordWritten.{refused-size, write_good}
use Rattle.writing.proofs.BlockSteps.{block-long, body-room, body-laid}

-- The octets of the records from an offset on, in normal form
module _ (s : List ℕ) (len cat : ℕ) where
  abbrev pub rest : ℕ → List ℕ
  rest = normal_at s len cat

  rest_end : (at : ℕ) → len ≤ at → rest at ≡ []
  unfolding put_recs
  rest_end at h = rw (good-end s len (category cat) len at h)

  rest-stopped : (at n p : ℕ) → take_of s len cat at ≡ Step.Refused n p → rest at ≡ []
  unfolding put_recs
  rest-stopped at n p h = rw (good-refused s len (category cat) len at n (take-stopped s len cat at n p h))

  -- a record that is taken
  pub record Next (at : ℕ) (t : Record) (next : ℕ) : Type 0 where
    pub forward : at < next
    pub fine : record_refusal s t ≡ 0
    pub is : rest at ≡ record_octets s t ++ rest next

  pub rest-next : Octets s → len ≤ length s → known cat ≡ true → (at : ℕ) → at < len
      → (t : Record) (c : Cursor) → take_of s len cat at ≡ Step.Taken t c → Next at t c.at
  unfolding put_recs
  rest-next o fit k at more t c h =
      let w = take-took s len cat at t c h in
      let e = w.is in
      record {
        forward = (record_within s len (category cat) o at c.at w.r e).0;
        fine = read-judged s len cat at o fit k w.r c.at e t w.same;
        is =
            rw (good-step s len (category cat) o len at w.r c.at more (omega arith) e)
            (ap (λ (x : List ℕ). x ++ rest c.at) (sym (read-octets s len cat at o fit k w.r c.at e t w.same)));
      }

  -- Counting: the octets so far, and those of the records from an offset on
  pub record Counted (total at : ℕ) : Type 0 where
    pub behind : 3 ≤ at
    pub all : total + length (rest at) ≡ length (rest 3)

  pub counted_none : Counted 0 3
  counted_none = record { behind = omega arith; all = zero-add _ }

  counted-last : (total at : ℕ) → Counted total at → rest at ≡ [] → total ≡ length (rest 3)
  counted-last total at w e = let z : length (rest at) ≡ 0 = rw e in omega (arith, w.all)

  pub counted-end : (total at : ℕ) → Counted total at → len ≤ at → total ≡ length (rest 3)
  counted-end total at w h = counted-last total at w (rest_end at h)

  pub counted-stopped : (total at : ℕ) → Counted total at → (n p : ℕ) → take_of s len cat at ≡ Step.Refused n p → total ≡ length (rest 3)
  counted-stopped total at w n p h = counted-last total at w (rest-stopped at n p h)

  -- Writing: the octets from an offset on are still to be laid
  pub record Put (out₀ out : List ℕ) (p at : ℕ) : Type 0 where
    pub long : length out ≡ length out₀
    pub all : p + length (rest at) ≡ 3 + length (rest 3)
    pub is : laid out p (rest at) ≡ laid out₀ 3 (rest 3)

  pub put-none : (out : List ℕ) → Put out out 3 3
  put-none out = record { long = refl; all = refl; is = refl }

  put_last : (out₀ out : List ℕ) (p at : ℕ) → Put out₀ out p at → rest at ≡ [] → out ≡ laid out₀ 3 (rest 3)
  unfolding octets
  put_last out₀ out p at w e = sym (laid_none out p 0) ∙ ap (laid out p) (sym e) ∙ w.is

  pub put-end : (out₀ out : List ℕ) (p at : ℕ) → Put out₀ out p at → len ≤ at → out ≡ laid out₀ 3 (rest 3)
  put-end out₀ out p at w h = put_last out₀ out p at w (rest_end at h)

  pub put-stopped : (out₀ out : List ℕ) (p at : ℕ) → Put out₀ out p at → (n q : ℕ) → take_of s len cat at ≡ Step.Refused n q
      → out ≡ laid out₀ 3 (rest 3)
  put-stopped out₀ out p at w n q h = put_last out₀ out p at w (rest-stopped at n q h)

  module _ (o : Octets s) (fit : len ≤ length s) (k : known cat ≡ true) (at : ℕ) (more : at < len)
      (t : Record) (c : Cursor) (taken : take_of s len cat at ≡ Step.Taken t c) where
    abbrev next : Next at t c.at
    next = rest-next o fit k at more t c taken

    next-long : length (rest at) ≡ length (record_octets s t) + length (rest c.at)
    next-long = rw (next.is, length-append)

    pub counted-refused : (n : ℕ) → Size.Refused n ≡ record_size s t → ⊥
    unfolding record_size
    counted-refused n h = let (e, f) = refused-size (record_refusal s t) _ n h in f (sym e ∙ next.fine)

    pub next-forward : at < c.at
    next-forward = next.forward

    module _ (total n : ℕ) (w : Counted total at) (h : Size.Octets n ≡ record_size s t) where
      pub counted-low : total + n ≤ length (rest 3)
      counted-low = omega (arith, next-long, (write_good s t n h).long)

      pub counted-more : Counted (total + n) c.at
      counted-more = record { behind = omega (arith, w.behind, next.forward); all = omega (arith, next-long, (write_good s t n h).long) }

    module _ (out₀ out : List ℕ) (p : ℕ) (w : Put out₀ out p at) (room : 3 + length (rest 3) ≤ length out₀) where
      pub put-room : p + length (record_octets s t) ≤ length out
      put-room = omega (arith, w.all, w.long, next-long)

      pub put-more : (out' : List ℕ) (p' : ℕ) → out' ≡ laid out p (record_octets s t) → p' ≡ p + length (record_octets s t) → Put out₀ out' p' c.at
      put-more out' p' e f =
          let fits = put-room in
          record {
            long = rw e (length-laid out p (record_octets s t) fits ∙ w.long);
            all = omega (arith, w.all, next-long);
            is = rw (e, f) (laid-laid out p (record_octets s t) (rest c.at) fits ∙ ap (laid out p) (sym next.is) ∙ w.is);
          }

-- The whole block

pub rewrite_refused : (s : List ℕ) (n at : ℕ) → read_of s ≡ Reading.Refused n at → rewrite_of s ≡ no n
unfolding rewrite_of
rewrite_refused s n at h = go (block_of s) (sym (read-block s) ∙ h)
  where
    go : (b : Block) → answer_of (number 2 s 1) b ≡ Reading.Refused n at → rewrite_from b ≡ no n
    go (wrong m p) h = ap no (cc)
    go (all cat rs) h = absurd (not_accepted (sym h))

-- of an accepted block, the octets that are counted and laid
module _ (s : List ℕ) (cat len : ℕ) (o : Octets s) (w : Accepted s cat len) (n : ℕ) (is : n ≡ length (rest s len cat 3)) where
  abbrev whole : List ℕ
  whole = put_block cat (good_at s len (category cat) len 3)

  rewrite_is : rewrite_of s ≡ puts whole
  unfolding rewrite_of
  rewrite_is = ap rewrite_from w.is

  whole_long : length whole ≡ n + 3
  whole_long = rw is (block-long cat (good_at s len (category cat) len 3))

  -- rewriting never lengthens
  pub rewrite_low : n + 3 ≤ len
  rewrite_low = omega (arith, is, good-short s len (category cat) o w.fits len 3 (omega (arith, w.least)))

  pub rewrite_short : (l : List ℕ) → length l < n + 3
      → Says l l (Written.Refused output_too_short) (within (length l) (rewrite_of s))
  rewrite_short l h = says-short l (rewrite_of s) whole rewrite_is (omega (arith, whole_long))

  -- the header, and then the records
  module _ (l l₁ : List ℕ) (h : n + 3 ≤ length l) (e : l₁ ≡ laid l 0 (header_octets cat (n + 3))) where
    pub rewrite_room : 3 + length (rest s len cat 3) ≤ length l₁
    rewrite_room = body-room cat (good_at s len (category cat) len 3) n is l l₁ h e

    module _ (l₂ : List ℕ) (f : l₂ ≡ laid l₁ 3 (rest s len cat 3)) where
      pub rewrite_whole : Says l l₂ (Written.Octets (n + 3)) (within (length l) (rewrite_of s))
      rewrite_whole =
          says-puts l (rewrite_of s) whole (n + 3) rewrite_is whole_long h l₂ (body-laid cat (good_at s len (category cat) len 3) n is l l₁ h e l₂ f)
