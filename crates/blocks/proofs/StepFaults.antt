-- What a step and an entry answer, case by case: the header's refusal, 17, the record's refusal, or what is taken. Assumes nothing.
use mathlib.Core.Path.{◌≡◌, refl, sym, subst}
use mathlib.Core.Bool.{Bool, true, false}
use mathlib.Core.List.{List}
use mathlib.Core.Logic.{◌⊎◌, inl, inr}
use Prim.Native.Nat.{ℕ, ◌≤◌, ◌<◌}
use borrow.Author.Tests.{ltb-true, ltb-false, leb-true, leb-false, lt-leb, le-ltb}
use lib.Dec.{leb, ltb}
use Rattle.octets.specs.Refusals.{no_such}
use Rattle.octets.proofs.Cases.{test, choose}
use Rattle.layouts.specs.Formats.{Parsed, refused, got}
use Rattle.layouts.specs.Categories.{category}
use Rattle.blocks.specs.Headers.{header_of}
use Rattle.blocks.specs.Records.{Rec}
use Rattle.blocks.specs.Offsets.{record_at}
use Rattle.blocks.specs.Steps.{take_by, step_by, step_of, entry_group_of, entry_values, found_of, entry_in, entry_of}
use Rattle.blocks.specs.Head.{Head}
use Rattle.blocks.specs.Head as head
use Rattle.blocks.specs.declared.record.Record.{Record}
use Rattle.blocks.specs.declared.cursor.Cursor.{Cursor}
use Rattle.blocks.specs.Step.{Step}
use Rattle.blocks.specs.Step as step
use Rattle.blocks.specs.Found.{Found}
use Rattle.blocks.proofs.StepLaws.{step-refused, step-low, step_past, entry-refused, entry-taken, entry-none}
use Rattle.blocks.proofs.BoundaryLaws.{step-read}

module _ (s : List ℕ) (start : ℕ) where
  -- a start that is no record's: below 3, or at or past LEN
  abbrev pub Outside : ℕ → Type 0
  Outside len = (start < 3) ⊎ (len ≤ start)

  module _ (cat len : ℕ) (good : header_of s ≡ Head.Good cat len) where
    pub step-outside : Outside len → step_of s start ≡ Step.Refused no_such 0
    step-outside (inl l) = sym (step-low s start cat len (sym good) l)
    step-outside (inr l) =
        test (ltb start 3)
        (λ e. sym (step-low s start cat len (sym good) (ltb-true start 3 e)))
        (λ e. sym (step_past s start cat len (sym good) (ltb-false start 3 e) l))

    pub step_faulty : (n : ℕ) → 3 ≤ start → start < len → record_at s len (category cat) start ≡ refused n → step_of s start ≡ Step.Refused n start
    unfolding step_of step_by take_by
    step_faulty n a b e = rw (good, le-ltb start 3 a, lt-leb len start b, e)

  pub step_cases : (P : Step → Type 0) → ((n : ℕ) → header_of s ≡ Head.Refused n → P (Step.Refused n 0))
      → ((cat len : ℕ) → header_of s ≡ Head.Good cat len → Outside len → P (Step.Refused no_such 0))
      → ((cat len : ℕ) → header_of s ≡ Head.Good cat len → 3 ≤ start → start < len
      → (n : ℕ) → record_at s len (category cat) start ≡ refused n → P (Step.Refused n start))
      → ((cat len : ℕ) → header_of s ≡ Head.Good cat len → 3 ≤ start → start < len
      → (r : Rec) (q : ℕ) → record_at s len (category cat) start ≡ got r q → (t : Record) → P (Step.Taken t (record { at = q })))
      → P (step_of s start)
  step_cases P refuses outside faulty takes = by-head (header_of s) refl
    where
      by_record : (cat len : ℕ) → header_of s ≡ Head.Good cat len → 3 ≤ start → start < len
          → (m : Parsed ℕ Rec) → record_at s len (category cat) start ≡ m → P (step_of s start)
      by_record cat len h a b (refused n) e = subst P (sym (step_faulty cat len h n a b e)) (faulty cat len h a b n e)
      by_record cat len h a b (got r q) e = subst P (sym (step-read s cat len h start q r a b e)) (takes cat len h a b r q e _)

      by-start : (cat len : ℕ) → header_of s ≡ Head.Good cat len → (a b : Bool) → ltb start 3 ≡ a → leb len start ≡ b → P (step_of s start)
      by-start cat len h true b e f =
          let w : Outside len = inl (ltb-true start 3 e) in
          subst P (sym (step-outside cat len h w)) (outside cat len h w)
      by-start cat len h false true e f =
          let w : Outside len = inr (leb-true len start f) in
          subst P (sym (step-outside cat len h w)) (outside cat len h w)
      by-start cat len h false false e f =
          by_record cat len h (ltb-false start 3 e) (leb-false len start f) (record_at s len (category cat) start) refl

      by-head : (h : Head) → header_of s ≡ h → P (step_of s start)
      by-head (head.Refused n) e = subst P (step-refused s start n (sym e)) (refuses n e)
      by-head (head.Good cat len) e = by-start cat len e (ltb start 3) (leb len start) refl refl

  -- An entry
  module _ (k : ℕ) where
    pub entry_past : (t : Record) (c : Cursor) → step_of s start ≡ Step.Taken t c → t.entries.count ≤ k → entry_of s start k ≡ Found.Refused no_such 0
    entry_past t c h l = sym (entry-taken s start k t c (sym h) _ (entry-none s t.category t.entries.at t.entries.count k l))

    in_cases : (P : Found → Type 0) (cat at count : ℕ) → (count ≤ k → P (Found.Refused no_such 0)) → (k < count → (v : List ℕ) → P (found_of cat v))
        → P (entry_in s cat at count k)
    unfolding entry_in
    in_cases P cat at count missing found = choose P (leb count k) (λ e. missing (leb-true count k e)) (λ e. found (leb-false count k e) (entry_values s (entry_group_of cat) at k))

    pub entry_cases : (P : Found → Type 0) → ((n at : ℕ) → step_of s start ≡ Step.Refused n at → P (Found.Refused n at))
        → ((t : Record) (c : Cursor) → step_of s start ≡ Step.Taken t c → t.entries.count ≤ k → P (Found.Refused no_such 0))
        → ((t : Record) (c : Cursor) → step_of s start ≡ Step.Taken t c → k < t.entries.count → (v : List ℕ) → P (found_of t.category v))
        → P (entry_of s start k)
    entry_cases P refuses missing found = by-step (step_of s start) refl
      where
        by-step : (r : Step) → step_of s start ≡ r → P (entry_of s start k)
        by-step (step.Refused n at) e = subst P (entry-refused s start k n at (sym e)) (refuses n at e)
        by-step (step.Taken t c) e =
            subst P (entry-taken s start k t c (sym e) _ refl)
            (in_cases P t.category t.entries.at t.entries.count (missing t c e) (found t c e))
