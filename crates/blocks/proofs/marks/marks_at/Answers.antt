-- `marks_at` lays the marks of each octet before those behind it, from the last octet to the first. Assumes nothing.
use mathlib.Core.Path.{◌≡◌, refl, ap, ◌∙◌}
use mathlib.Core.List.{List, [], ◌∷◌, reverse, reverse-cons}
use Prim.Native.Nat.{ℕ, zero, suc, ◌+◌, ◌-◌, ◌*◌, ◌/◌, ◌%◌, ◌^◌, ◌≤◌, ◌<◌}
use native.Mathlib.Nat.{pow-suc, pow-le-pow_right, zero-lt-suc, lt_of_lt_of_le}
use native.Mathlib.Numerals.{add-one}
use native.Mathlib.Omega.{arith}
use lib.ListN.{length, get_or, take, drop}
use borrow.Author.Rules.{rules}
use Rattle.std.specs.List.{fold}
use Rattle.std.proofs.Math.Seq.{drop-cons}
use Rattle.std.proofs.lemmas.List.Sums.{fold_push}
use Rattle.std.proofs.lemmas.Iterator.Adapters.{YieldsList-from_rev_slice}
use Rattle.std.proofs.lemmas.Iterator.Consumers.{fold_from_yields_List}
use Rattle.blocks.specs.Specification.{flags}
use Rattle.blocks.specs.Marks.{marks_of, groups_of}
use Rattle.blocks.proofs.MarksLaws.{marks-one, marks_cons}
use Rattle.blocks.proofs.marks.marks_at.Goals as goal

-- the marks m, and an octet's before them
abbrev lay : ℕ → ℕ → ℕ
lay m x = m * 2 ^ 7 % 2 ^ 32 + marks_of (flags (x / 2 ∷ []))

-- the marks of n octets
few : (n : ℕ) (s : List ℕ) (at : ℕ) → marks_of (flags (groups_of n s at)) < 128 ^ n
unfolding groups_of marks_of flags
few zero s at = omega arith
few (suc n) s at =
    let g = get_or s at 0 / 2 in
    rw (marks_cons g (groups_of n s (at + 1)), marks-one g, pow-suc) (omega (arith, few n s (at + 1)))

laid : (n : ℕ) (s : List ℕ) (at : ℕ) → n ≤ 4 → at + n ≤ length s → fold lay 0 (reverse (take n (drop at s))) ≡ marks_of (flags (groups_of n s at))
unfolding groups_of marks_of flags
laid zero s at h w = refl
laid (suc n) s at h w =
    let x = get_or s at 0 in
    let g = groups_of n s (at + 1) in
    let three : n ≤ 3 = omega arith in
    let small : marks_of (flags g) < 128 ^ 3 = lt_of_lt_of_le (few n s (at + 1)) (pow-le-pow_right (zero-lt-suc 127) three) in
    let all : marks_of (flags g) * 2 ^ 7 % 2 ^ 32 ≡ marks_of (flags g) * 128 = omega arith in
    ap (λ (xs : List ℕ). fold lay 0 (reverse (take (suc n) xs))) (rw (← add-one at) at (drop-cons s at 0 (omega arith)))
    ∙ rw (reverse-cons, fold_push, laid n s (at + 1) (omega arith) (omega arith), marks_cons (x / 2) g, all)

pub returns : goal.returns
returns c =
    let a = c.args in
    let n = a.to - a.from in
    let all = YieldsList-from_rev_slice {s = c.rev.result} (take n (drop a.from a.s.now)) (rw (c.rev.ensures.source, c.iter.ensures.rest)) in
    fold_from_yields_List _ lay 0 c.fold.result c.fold.ensures.ran all (λ m x b q k. search rules)
    ∙ laid n a.s.now a.from (omega arith) (omega arith)
