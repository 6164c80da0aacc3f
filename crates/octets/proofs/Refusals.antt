-- Each refusal is told by its number, and none has 0, which is that of an answer with a value. Assumes nothing.
use mathlib.Core.Path.{◌≡◌, refl, sym, ap, ◌∙◌}
use mathlib.Core.List.{[], ◌∷◌, map}
use Prim.Native.Nat.{ℕ}
use Rattle.std.specs.Prelude.{Option, Some, None}
use lib.ListN.{get_or}
use Rattle.octets.specs.Refusals.{number_of}
use Rattle.octets.specs.declared.refusal.Refusal.{Refusal}
use Rattle.octets.specs.declared.refusal.Refusal.TheVariants.{TooShort, UnknownCategory, LenTooSmall, LongSpecification, SpareMarked, NoneMarked, PassesEnd, NoCount, PastLast, PresenceBroken, OutOfRange, OutputTooShort, NotStatistics, NoRoom, LifePasses, RulesBroken, NoSuch}

-- the refusal of a number
abbrev numbered : ℕ → Option Refusal
numbered n =
    get_or
    (None ∷ map Some
    (TooShort ∷ UnknownCategory ∷ LenTooSmall ∷ LongSpecification ∷ SpareMarked ∷ NoneMarked ∷ PassesEnd ∷ NoCount ∷ PastLast ∷ PresenceBroken
    ∷ OutOfRange ∷ OutputTooShort ∷ NotStatistics ∷ NoRoom ∷ LifePasses ∷ RulesBroken ∷ NoSuch ∷ []))
    n None

told : (r : Refusal) → numbered (number_of r) ≡ Some r
told TooShort = refl
told UnknownCategory = refl
told LenTooSmall = refl
told LongSpecification = refl
told SpareMarked = refl
told NoneMarked = refl
told PassesEnd = refl
told NoCount = refl
told PastLast = refl
told PresenceBroken = refl
told OutOfRange = refl
told OutputTooShort = refl
told NotStatistics = refl
told NoRoom = refl
told LifePasses = refl
told RulesBroken = refl
told NoSuch = refl

pub number-same : (r q : Refusal) → number_of r ≡ number_of q → r ≡ q
number-same r q e =
    let same : Some r ≡ Some q = sym (told r) ∙ ap numbered e ∙ told q in
    cc

pub number-some : (r : Refusal) → number_of r ≡ 0 → ⊥
number-some r e =
    let none : Some r ≡ None = sym (told r) ∙ ap numbered e in
    cc
