-- `find`: the keys of the places taken apart are those of the rows, and rise. Assumes nothing.
use mathlib.Core.List.{List, []}
use mathlib.Core.Path.{◌≡◌, ap, sym, ◌∙◌}
use Prim.Native.Nat.{ℕ, zero, suc, ◌*◌, ◌≤◌, ◌<◌}
use native.Mathlib.Omega.{arith}
use lib.Dec.{eqb}
use lib.ListN.{length, get_or, take, drop, length-take, length-drop}
use lib.Seq.{get_or-take, get_or-drop}
use borrow.Author.Rules.{rules}
use borrow.Author.Tests.{eqb-true, eqb-false}
use Rattle.std.specs.Simd.{first_chunks}
use Rattle.std.specs.Prelude.{Result, Ok, Err, IfOk, IfErr}
use Rattle.std.specs.List.Sorted.{IsSearchInRange, IsBinarySearchResult, IsNonDecreasingBy}
use Rattle.std.specs.Ordering.{nat_cmp, ordering_index}
use Rattle.std.proofs.lemmas.Bool.Decides.{nat_tests}
use Rattle.std.proofs.lemmas.Cmp.{ranked}
use Rattle.std.proofs.lemmas.List.Sorted.{answers_always}
use Rattle.octets.proofs.Cases.{test}
use Rattle.ledger.specs.Ledgers.{row_in, count_of}
use Rattle.ledger.specs.Steps.{Kept, RowAt, GapAt}
use Rattle.ledger.proofs.CellLaws.{kept-rising}
use Rattle.ledger.proofs.kept.KeptLedger.find.Goals as goal

-- the first of the numbers of a place
abbrev first : List ℕ → ℕ
first place = get_or place 0 0

first-chunk : (k : ℕ) (xs : List ℕ) (j : ℕ) (d : List ℕ) → j < k → first (get_or (first_chunks 4 k xs) j d) ≡ get_or xs (4 * j) 0
first-chunk zero xs j d h = absurd (omega arith)
first-chunk (suc k) xs zero d h = get_or-take 4 xs 0 0 (omega arith)
first-chunk (suc k) xs (suc j) d h =
    first-chunk k (drop 4 xs) j d (omega arith) ∙ get_or-drop 4 xs (4 * j) 0 ∙ ap (λ q. get_or xs q 0) (omega arith)

module _ (cells : List ℕ) (kept : Kept cells) (n : ℕ) (many : n ≡ 256) (chunks : List (List ℕ))
    (are : chunks ≡ first_chunks 4 n (take 1024 (drop 1 cells))) (m : ℕ) (is : m ≡ count_of cells) where
  abbrev places : List (List ℕ)
  places = take m chunks

  few : length places ≤ m
  few = omega (arith, length-take m chunks)

  -- it is the row's key
  own-key : (j : ℕ) (d : List ℕ) → j < m → first (get_or places j d) ≡ (row_in cells j).key
  own-key j d h =
      ap first (get_or-take m chunks j d h ∙ ap (λ x. get_or x j d) are)
      ∙ first-chunk n (take 1024 (drop 1 cells)) j d (omega (arith, kept.few))
      ∙ get_or-take 1024 (drop 1 cells) (4 * j) 0 (omega (arith, kept.few)) ∙ get_or-drop 1 cells (4 * j) 0
      ∙ ap (λ q. get_or cells q 0) (omega arith)

  -- they rise, and so do their comparisons with a key
  rise : (i j : ℕ) (d : List ℕ) → i ≤ j → j < length places → first (get_or places i d) ≤ first (get_or places j d)
  rise i j d l h = test (eqb i j) (λ t. omega (arith, ap (λ q. first (get_or places q d)) (eqb-true i j t)))
      (λ f. omega (
        arith,
        few,
        own-key i d (omega (arith, few)),
        own-key j d (omega (arith, few)),
        kept-rising cells kept i j (omega (arith, eqb-false i j f)) (omega (arith, few)),
      ))

  comparisons-rise : (key : ℕ) → IsNonDecreasingBy (λ y. ordering_index (nat_cmp (first y) key)) places
  comparisons-rise key i j d l h = let up = rise i j d l h in grind (arith, nat_tests)

  -- so a search ends at the key's row, or at the place where one would stand
  searched : (key : ℕ) (r : Result ℕ ℕ) → IsSearchInRange r (length places) → m ≤ length chunks
      → IsBinarySearchResult (λ y. nat_cmp (first y) key) places r
      → record { row : IfOk r (RowAt cells key); gap : IfErr r (GapAt cells key) }
  searched key (Ok i) bound long equal = record {
    row = record { inside = omega (arith, few); same = sym (own-key i [] (omega (arith, few))) ∙ ranked _ key _ (sym (equal [])) };
    gap = tt;
  }
  searched key (Err i) bound long parted =
      let all = length-take m chunks in
      let by = parted (comparisons-rise key) in record {
        row = tt;
        gap = record {
          within = omega (arith, few);
          below = λ j l. let low = ranked _ key _ (sym (by.0 j [] (omega arith) l)) in omega (arith, own-key j [] (omega (arith, few)));
          above = λ j l h. let high = ranked _ key _ (sym (by.1 j [] l (omega arith))) in omega (arith, own-key j [] (omega arith));
        };
      }

pub returns : goal.returns
returns c =
    let kept = c.args.self.now.kept in
    let cells = c.args.self.now.cells in
    let facts = c.binary_search_by_key.ensures in
    let long : length (take 1024 (drop 1 cells)) ≡ 1024 = omega (arith, length-take 1024 (drop 1 cells), length-drop 1 cells) in
    searched cells kept _ (omega arith) _ c.as_chunks.ensures.front _ c.count_of.ensures c.args.key _ facts.bound
    (omega (arith, kept.few, c.as_chunks.ensures.front_len, c.count_of.ensures))
    (facts.position first (answers_always _ _ _ (λ f a r g called. search rules)))
