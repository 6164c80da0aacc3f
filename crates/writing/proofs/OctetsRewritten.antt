-- What rewriting puts out are octets. Assumes nothing.
use mathlib.Core.Path.{◌≡◌, ap, sym, ◌∙◌, subst}
use mathlib.Core.List.{List, [], ◌∷◌, map}
use Prim.Native.Nat.{ℕ, ◌<◌}
use native.Mathlib.Omega.{arith}
use lib.ListN.{length}
use Rattle.octets.specs.Numbers.{Octets, number}
use Rattle.octets.specs.Outcomes.{puts}
use Rattle.layouts.specs.Categories.{category}
use Rattle.blocks.specs.Blocks.{all}
use Rattle.blocks.specs.Walks.{answer_of}
use Rattle.blocks.specs.Meaning.{rec_of}
use Rattle.blocks.specs.declared.record.Record.{Record}
use Rattle.blocks.proofs.WalkSteps.{by-known}
use Rattle.blocks.proofs.BlockLaws.{OfAll, Sound, block-sound}
use Rattle.blocks.proofs.ListedLaws.{read-block}
use Rattle.blocks.proofs.BoundaryLaws.{visited}
use Rattle.writing.specs.Written.{rewrite_of}
use Rattle.writing.proofs.OctetsWritten.{AllSevens, sevens-are, block-are}
use Rattle.writing.proofs.RewriteTheorems.{rewritten}

-- the marks of a record that a typed record means are seven to a number
means-sevens : (s : List ℕ) (ts : List Record) → AllSevens (map (rec_of s) ts)
unfolding rec_of
means-sevens s [] = tt
means-sevens s (t ∷ ts) = (sevens-are (category t.category).most t.marks, means-sevens s ts)

pub rewrite_octets : (s xs : List ℕ) → Octets s → rewrite_of s ≡ puts xs → Octets xs
rewrite_octets s xs o h =
    let w = rewritten s xs h in
    let (cat, ts, v, count, is) = visited s (number 2 s 1) (length w.rs) o (read-block s ∙ ap (answer_of (number 2 s 1)) w.read) in
    let both : all cat (map (rec_of s) ts) ≡ all w.cat w.rs = sym is ∙ w.read in
    let same : map (rec_of s) ts ≡ w.rs = cc in
    let known = (subst (OfAll (Sound s)) w.read (block-sound s o)).known in
    let low : w.cat < 256 = by-known (λ (n : ℕ). n < 256) (omega arith) (omega arith) (omega arith) w.cat known in
    rw w.is (block-are w.cat w.rs low (subst AllSevens same (means-sevens s ts)))
