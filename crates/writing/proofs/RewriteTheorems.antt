-- The theorems on rewriting: what it puts out is accepted with the same records, rewriting it again changes nothing, blocks with the same
-- records have the same rewriting, and it is never longer than what was read. Assumes nothing.
use mathlib.Core.Path.{◌≡◌, refl, sym, ap, ◌∙◌, subst}
use mathlib.Core.List.{List, ◌++◌, map}
use Prim.Native.Nat.{ℕ, ◌+◌, ◌≤◌, ◌<◌}
use native.Mathlib.Omega.{arith}
use lib.ListN.{length, get_or}
use Rattle.octets.specs.Numbers.{Octets, number}
use Rattle.octets.proofs.Numbers.{number_lt}
use Rattle.layouts.specs.Categories.{category}
use Rattle.blocks.specs.Records.{Rec}
use Rattle.blocks.specs.Blocks.{Block, wrong, all, block_of, put_recs, put_block}
use Rattle.blocks.specs.Walks.{answer_of, read_of}
use Rattle.blocks.specs.Meaning.{rec_of}
use Rattle.blocks.specs.Boundaries.{Visited}
use Rattle.blocks.specs.declared.record.Record.{Record}
use Rattle.blocks.specs.Reading.{Reading}
use Rattle.blocks.proofs.HeaderLaws.{header-good}
use Rattle.blocks.proofs.BlockLaws.{OfAll, Sound, block-sound, block_normal, put-len}
use Rattle.blocks.proofs.ListedLaws.{read-block}
use Rattle.blocks.proofs.BoundaryLaws.{read-filled, visited, visited-only}
use Rattle.octets.specs.Outcomes.{no, puts}
use Rattle.writing.specs.Written.{rewrite_from, rewrite_of}
use Rattle.writing.proofs.BlockSteps.{block-long}

-- what was rewritten: the records of an accepted block, in normal form
pub record Rewritten (s xs : List ℕ) : Type 0 where
  pub cat : ℕ
  pub rs : List Rec
  pub read : block_of s ≡ all cat rs
  pub is : xs ≡ put_block cat rs

pub not_puts : {n : ℕ} {xs : List ℕ} → no n ≡ puts xs → ⊥
not_puts h = let z : ◌≡◌ {A = ℕ} 0 1 = cc in omega arith

pub rewritten : (s xs : List ℕ) → rewrite_of s ≡ puts xs → Rewritten s xs
unfolding rewrite_of
rewritten s xs = go (block_of s) refl
  where
    go : (b : Block) → block_of s ≡ b → rewrite_from b ≡ puts xs → Rewritten s xs
    go (wrong n at) e h = absurd (not_puts h)
    go (all cat rs) e h = record { cat = cat; rs = rs; read = e; is = cc }

-- the rewriting of an accepted block
pub rewrite_read : (s : List ℕ) (cat : ℕ) (rs : List Rec) → block_of s ≡ all cat rs → rewrite_of s ≡ puts (put_block cat rs)
unfolding rewrite_of
rewrite_read s cat rs e = rw e

-- Blocks with the same records have the same rewriting: it is the one normal form of its records.
pub rewrite_same : (s t : List ℕ) → block_of s ≡ block_of t → rewrite_of s ≡ rewrite_of t
unfolding rewrite_of
rewrite_same s t e = ap rewrite_from e

module _ (s xs : List ℕ) (o : Octets s) (h : rewrite_of s ≡ puts xs) where
  abbrev w : Rewritten s xs
  w = rewritten s xs h

  sound : Sound s w.cat w.rs
  sound = subst (OfAll (Sound s)) w.read (block-sound s o)

  -- What rewriting puts out is accepted, and has the same records, whatever stands behind it.
  pub rewrite_accepted : (t : List ℕ) → block_of (xs ++ t) ≡ block_of s
  rewrite_accepted t = rw w.is (block_normal s w.cat w.rs o w.read t ∙ sym w.read)

  -- Rewriting it again changes nothing.
  pub rewrite_again : (t : List ℕ) → rewrite_of (xs ++ t) ≡ puts xs
  rewrite_again t = rewrite_same (xs ++ t) s (rewrite_accepted t) ∙ h

  -- It is never longer than the block that was read.
  pub rewrite_short : length xs ≤ number 2 s 1
  rewrite_short = rw (w.is, block-long w.cat w.rs) (omega (arith, sound.short))

  -- It is answered with its own length, and as many records as the block that was read.
  pub rewrite_reading : (t : List ℕ) (len n : ℕ) → read_of s ≡ Reading.Accepted len n → read_of (xs ++ t) ≡ Reading.Accepted (length xs) n
  rewrite_reading t len n e =
      let size : 3 + length (put_recs (category w.cat) w.rs) < 65536 = omega (arith, sound.short, number_lt 2 s 1 o) in
      let long : length xs ≡ length (put_recs (category w.cat) w.rs) + 3 = ap length w.is ∙ block-long w.cat w.rs in
      let is-len : number 2 (xs ++ t) 1 ≡ length xs
      = ap (λ (x : List ℕ). number 2 (x ++ t) 1) w.is ∙ put-len w.cat w.rs t size ∙ omega arith in
      let counted : Reading.Accepted (number 2 s 1) (length w.rs) ≡ Reading.Accepted len n
      = sym (read-block s ∙ ap (answer_of (number 2 s 1)) w.read) ∙ e in
      let count : length w.rs ≡ n = cc in
      read-block (xs ++ t) ∙ ap (λ (b : Block). answer_of (number 2 (xs ++ t) 1) b) (rewrite_accepted t ∙ w.read)
      ∙ ap (λ (m : ℕ). Reading.Accepted m (length w.rs)) is-len ∙ ap (Reading.Accepted (length xs)) count

-- the category of an accepted block is its first octet
read-cat : (s : List ℕ) (len n cat : ℕ) (rs : List Rec) → Octets s → read_of s ≡ Reading.Accepted len n → block_of s ≡ all cat rs → cat ≡ get_or s 0 0
read-cat s len n cat rs o h e =
    let w = read-filled s len n o h in
    let same : cat ≡ w.0 = let both : all cat rs ≡ all w.0 w.1 = sym e ∙ w.5 in cc in
    same ∙ (header-good s w.0 len w.2).is-cat

-- Two accepted blocks of one category whose typed records mean the same, places aside, have the same rewriting.
pub rewrite_typed : (s t : List ℕ) → Octets s → Octets t → (l n l' n' : ℕ) → read_of s ≡ Reading.Accepted l n → read_of t ≡ Reading.Accepted l' n'
    → get_or s 0 0 ≡ get_or t 0 0 → (ts us : List Record) → Visited s 3 ts l → Visited t 3 us l' → map (rec_of s) ts ≡ map (rec_of t) us
    → rewrite_of s ≡ rewrite_of t
rewrite_typed s t o o' l n l' n' h h' e ts us v v' m =
    let (cat, rs, w, long, is) = visited s l n o h in
    let (cat', rs', w', long', is') = visited t l' n' o' h' in
    let same = visited-only s o 3 l rs ts w v in
    let same' = visited-only t o' 3 l' rs' us w' v' in
    let c : cat ≡ cat' = read-cat s l n cat _ o h is ∙ e ∙ sym (read-cat t l' n' cat' _ o' h' is') in
    rewrite_same s t (is ∙ rw (same, m, c) (rw (← same') (sym is')))
