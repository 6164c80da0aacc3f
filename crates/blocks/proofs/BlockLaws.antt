-- The theorems on blocks: what was written is read back, the normal form has the same records, and rewriting it changes nothing.
-- Assumes nothing.
use mathlib.Core.Path.{◌≡◌, refl, sym, ap, ◌∙◌, subst}
use mathlib.Core.Bool.{Bool, true, false}
use mathlib.Core.List.{List, [], ◌∷◌, ◌++◌, append_assoc}
use Prim.Native.Nat.{ℕ, zero, suc, ◌+◌, ◌*◌, ◌≤◌, ◌<◌}
use native.Mathlib.Omega.{arith}
use lib.Dec.{eqb}
use lib.ListN.{length, get_or, take, length-append}
use lib.Seq.{take_at, drop_at}
use borrow.Author.Tests.{eqb-true}
use Rattle.octets.specs.Choice.{pick}
use Rattle.octets.specs.Numbers.{Octets, number, octets}
use Rattle.octets.proofs.Numbers.{number_lt, number-octets, length-octets}
use Rattle.octets.proofs.Cases.{both}
use Rattle.octets.proofs.Parts.{Octets-drop, Octets-take}
use Rattle.layouts.specs.Formats.{Parsed, refused, got}
use Rattle.layouts.specs.Categories.{Category, cat23, cat65, cat242, known, category}
use Rattle.layouts.proofs.Parsed.{and_yes}
use Rattle.layouts.proofs.Windows.{window, window-long}
use Rattle.blocks.specs.Specification.{zeros, put_marks}
use Rattle.blocks.specs.Records.{Rec, put_rec}
use Rattle.blocks.specs.Headers.{header_of}
use Rattle.blocks.specs.Blocks.{Block, wrong, all, with, block_from, block_of, put_recs, headed, put_block}
use Rattle.blocks.specs.Head.{Head}
use Rattle.blocks.proofs.HeaderLaws.{header_cases, header-fits}
use Rattle.blocks.proofs.GoodRecords.{good, all_good}
use Rattle.blocks.proofs.Suffixes.{record_of, first, records, records-step, records-none}
use Rattle.blocks.proofs.WindowLaws.{records-at}
use Rattle.blocks.proofs.RecordLaws.{record_held}
use Rattle.blocks.proofs.RecordTheorems.{good-long, read_back, normal_short, rest-octets}

-- Records one after the other

marks-some : (gs : List ℕ) → 0 < length gs → 0 < length (put_marks gs)
unfolding put_marks
marks-some [] h = h
marks-some (g ∷ gs) h = go (zeros gs)
  where
    go : (b : Bool) → 0 < length (pick b (g * 2 ∷ []) ((g * 2 + 1) ∷ put_marks gs))
    go true = omega arith
    go false = omega arith

-- a written record has octets
pub record_some : (c : Category) (r : Rec) → good c r ≡ true → 0 < length (put_rec c r)
unfolding put_rec
record_some c r h = rw length-append (omega (arith, marks-some r.marks (omega (arith, good-long c r h))))

module _ (len : ℕ) (c : Category) where
  pub records-put : (n : ℕ) (rs : List Rec) → all_good c rs ≡ true → length (put_recs c rs) ≤ n
      → records n len c (put_recs c rs) ≡ all c.cat rs
  unfolding put_recs all_good
  records-put n [] h l = records-none len c n
  records-put zero (r ∷ rs) h l =
      let (a, b) = both (good c r) (all_good c rs) h in
      absurd (omega (arith, record_some c r a, simp length-append at l))
  records-put (suc n) (r ∷ rs) h l =
      let (a, b) = both (good c r) (all_good c rs) h in
      let l' : length (put_rec c r) + length (put_recs c rs) ≤ suc n = rw length-append at l in
      let some : 0 < length (put_rec c r ++ put_recs c rs) = rw length-append (omega (arith, record_some c r a)) in
      records-step len c n (put_rec c r ++ put_recs c rs) some
      ∙ rw (read_back c r a (put_recs c rs), records-put n rs b (omega (arith, record_some c r a)))

-- of a block: where all its records were read
abbrev pub OfAll : (ℕ → List Rec → Type 0) → Block → Type 0
OfAll P (wrong n at) = Unit {0}
OfAll P (all cat rs) = P cat rs

-- what the records that fill octets s are
pub record Filled (c : Category) (s : List ℕ) (cat : ℕ) (rs : List Rec) : Type 0 where
  pub same : cat ≡ c.cat
  pub fine : all_good c rs ≡ true
  pub short : length (put_recs c rs) ≤ length s
  pub some : 0 < length s → 0 < length (put_recs c rs)

pub records-filled : (n len : ℕ) (c : Category) (s : List ℕ) → Octets s → OfAll (Filled c s) (records n len c s)
unfolding records put_recs all_good
records-filled zero len c [] o = record { same = refl; fine = refl; short = omega arith; some = λ h. h }
records-filled zero len c (x ∷ s) o = tt
records-filled (suc n) len c [] o = record { same = refl; fine = refl; short = omega arith; some = λ h. h }
records-filled (suc n) len c (x ∷ s) o = go (record_of c (x ∷ s)) refl (λ t. records n len c t) (records-filled n len c)
  where
    more : (r : Rec) (t : List ℕ) → record_of c (x ∷ s) ≡ got r t → (b : Block) → OfAll (Filled c t) b
        → OfAll (Filled c (x ∷ s)) (with r b)
    more r t e (wrong m at) w = tt
    more r t e (all cat rs) w =
        let h = (record_held c (x ∷ s) r t o e).fine in
        let l = normal_short c (x ∷ s) r t o e in
        record {
          same = w.same;
          fine = and_yes h w.fine;
          short = rw length-append (omega (arith, l, w.short));
          some = λ k. rw length-append (omega (arith, record_some c r h));
        }

    go : (a : Parsed (List ℕ) Rec) → record_of c (x ∷ s) ≡ a → (f : List ℕ → Block)
        → ((t : List ℕ) → Octets t → OfAll (Filled c t) (f t)) → OfAll (Filled c (x ∷ s)) (first len (length (x ∷ s)) a f)
    go (refused m) e f ih = tt
    go (got r t) e f ih = more r t e (f t) (ih t (rest-octets c (x ∷ s) r t o e))

-- Blocks

pub category-cat : (cat : ℕ) → (category cat).cat ≡ cat
category-cat cat = go (eqb cat 23) (eqb cat 65) (eqb cat 242) (eqb-true cat 23) (eqb-true cat 65) (eqb-true cat 242)
  where
    go : (a b d : Bool) → (a ≡ true → cat ≡ 23) → (b ≡ true → cat ≡ 65) → (d ≡ true → cat ≡ 242)
        → (pick a cat23 (pick b cat65 (pick d cat242 (record { cat = cat; most = 0; fields = [] })))).cat ≡ cat
    go true b d f g h = sym (f refl)
    go false true d f g h = sym (g refl)
    go false false true f g h = sym (h refl)
    go false false false f g h = refl

-- A block of any octets behind a header that has their number: LEN, and what is read.
module _ (cat : ℕ) (body t : List ℕ) (fit : 3 + length body < 65536) where
  abbrev size : ℕ
  size = 3 + length body

  abbrev head : List ℕ
  head = cat ∷ octets 2 size

  three : length head ≡ 3
  three = ap suc (length-octets 2 size)

  pub headed-len : number 2 (headed cat body ++ t) 1 ≡ size
  headed-len = rw (append_assoc head body t) (number-octets 2 size (cat ∷ []) (body ++ t) fit)

  pub headed-read : known cat ≡ true → 0 < length body → block_of (headed cat body ++ t) ≡ records size size (category cat) body
  unfolding block_of
  headed-read k some =
      let s = (head ++ body) ++ t in
      let long : length (head ++ body) ≡ size = rw (length-append, three) in
      let is_body : window s size 3 ≡ body = rw (take_at (head ++ body) t size long, drop_at head body 3 three) in
      let enough : size ≤ length s = rw (length-append, long) (omega arith) in
      let head-good : Head.Good cat size ≡ header_of s = header-fits s (omega arith) k size (sym headed-len) (omega arith) enough in
      rw (← head-good) (sym (records-at s size enough (category cat) size 3) ∙ rw is_body)

-- A block in normal form is read back, whatever stands behind it.
module _ (cat : ℕ) (rs : List Rec) (t : List ℕ) where
  pub put-len : 3 + length (put_recs (category cat) rs) < 65536 → number 2 (put_block cat rs ++ t) 1 ≡ 3 + length (put_recs (category cat) rs)
  unfolding put_block
  put-len = headed-len cat (put_recs (category cat) rs) t

  pub block-put : known cat ≡ true → all_good (category cat) rs ≡ true → 0 < length (put_recs (category cat) rs)
      → 3 + length (put_recs (category cat) rs) < 65536 → block_of (put_block cat rs ++ t) ≡ all cat rs
  unfolding put_block
  block-put k g some fit =
      let body = put_recs (category cat) rs in
      headed-read cat body t fit k some
      ∙ rw (records-put (3 + length body) (category cat) (3 + length body) rs g (omega arith), category-cat cat)

weaker : {P Q : ℕ → List Rec → Type 0} → ((cat : ℕ) (rs : List Rec) → P cat rs → Q cat rs)
    → (b : Block) → OfAll P b → OfAll Q b
weaker f (wrong n at) h = tt
weaker f (all cat rs) h = f cat rs h

-- what an accepted block is
pub record Sound (s : List ℕ) (cat : ℕ) (rs : List Rec) : Type 0 where
  pub known : known cat ≡ true
  pub fine : all_good (category cat) rs ≡ true
  pub some : 0 < length (put_recs (category cat) rs)
  pub short : 3 + length (put_recs (category cat) rs) ≤ number 2 s 1

pub block-sound : (s : List ℕ) → Octets s → OfAll (Sound s) (block_of s)
unfolding block_of
block-sound s o =
    let cat = get_or s 0 0 in
    let len = number 2 s 1 in
    let c = category cat in
    header_cases s (λ h. OfAll (Sound s) (block_from s h)) (λ a. tt) (λ a b. tt) (λ a b d. tt) (λ a b d. tt) λ h.
    let long = window-long s len h.fits 3 in
    subst (OfAll (Sound s)) (records-at s len h.fits c len 3)
    (weaker
    (λ cat' rs w. subst (λ x. Sound s x rs) (sym (w.same ∙ category-cat cat)) record {
      known = h.known;
      fine = w.fine;
      some = w.some (omega (arith, h.least));
      short = omega (arith, w.short, h.least);
    })
    (records len len c (window s len 3))
    (records-filled len len c (window s len 3) (Octets-drop 3 (take len s) (Octets-take len s o))))

-- A block in normal form: accepted, the same category and the same records, whatever stands behind it.
pub block_normal : (s : List ℕ) (cat : ℕ) (rs : List Rec) → Octets s → block_of s ≡ all cat rs
    → (t : List ℕ) → block_of (put_block cat rs ++ t) ≡ all cat rs
block_normal s cat rs o h =
    let w = subst (OfAll (Sound s)) h (block-sound s o) in
    λ t. block-put cat rs t w.known w.fine w.some (omega (arith, w.short, number_lt 2 s 1 o))
