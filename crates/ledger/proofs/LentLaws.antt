-- A ledger and an answer as machine values, and steps of a walk for a ledger that is lent for writing. Assumes nothing.
use Prim.Native.Nat.{ℕ}
use mathlib.Core.List.{List, [], ◌∷◌}
use mathlib.Core.Path.{◌≡◌, ap}
use seplogic.Ra.Ura.{Ura}
use base.Fraction.{full_share}
use mir.Val.{Val}
use base.Stored.{Gv}
use base.Fml.{Lft, GName, Share, Fml, fobs, fauth, fbor, fobor, flft}
use types.Logic.{Logic}
use types.Kit.{Goal, Soaks, ◌$◌, Step, step, Item, ‵, Seq, move, drop}
use types.SemTy.{Body}
use denote.Laws.{Is, Typed, Makes, shows}
use denote.Memory.{cell_at, mem}
use denote.Steps.{only, opens, closes, peeks, owned}
use denote.Struct.Laws as struct
use denote.Struct.Steps.{spelt}
use Rattle.ledger.specs.declared.Answer.{Answer}
use Rattle.ledger.specs.declared.Ledger.{Ledger}
use Rattle.ledger.specs.contracts.Answer as answers
use Rattle.ledger.proofs.Answer.TheLaws as answer-laws
use Rattle.ledger.specs.contracts.Ledger as ledgers
use Rattle.ledger.proofs.Ledger.TheLaws as ledger-laws

-- the one machine value of a ledger, and of an answer
abbrev pub stored : Ledger → Val
stored l = struct.val ledgers.the_type ledger-laws.the_laws l

abbrev pub answered : Answer → Val
answered r = struct.val answers.the_type answer-laws.the_laws r

-- a ledger's fields are of their types
abbrev pub Fits : Ledger → Type 0
Fits l = Is ledgers.the_row l (stored l ∷ [])

module _ (r : Answer) (w : Val) (is : Is answers.the_row r (w ∷ [])) where
  -- an answer's machine value is its fields'
  pub answer-is : w ≡ answered r
  answer-is = ap only (struct.tells answers.the_type answer-laws.the_laws r (w ∷ []) is)

  -- its ledger's fields are of their types
  pub ledger_fits : Fits r.ledger
  ledger_fits = (struct.owed answers.the_type answer-laws.the_laws r (w ∷ []) is).1.0

module _ {M : Type 1} {𝓤 : Ura M} (𝓛 : Logic 𝓤) where
  -- what is stored is of the type that its place has
  pub ledger_typed : (l : Ledger) → Fits l → Typed (ledgers.the_row).mir (stored l ∷ [])
  ledger_typed l fits = (struct.lawful ledgers.the_type ledger-laws.the_laws 𝓛).typed l _ fits

  pub answer_typed : (r : Answer) (w : Val) → Is answers.the_row r (w ∷ []) → Typed (answers.the_row).mir (w ∷ [])
  answer_typed r w is = (struct.lawful answers.the_type answer-laws.the_laws 𝓛).typed r _ is

  -- a ledger is plain data: what it owns is had for nothing
  pub ledger_makes : Makes 𝓛 ledgers.the_row (Is ledgers.the_row)
  ledger_makes = struct.makes ledgers.the_type ledger-laws.the_plain 𝓛

-- a ledger's place in memory
abbrev pub Cell : Ledger → ℕ → ℕ → Fml
Cell l b o = cell_at full_share (ledgers.the_row).mir (stored l ∷ []) b o

-- what the code of a ghost name says, a borrow of a ledger, and the borrow while it is open
abbrev pub Code : Ledger → Gv
Code l = (ledgers.the_row).coded.code l

abbrev pub Borrow : Lft → ℕ → ℕ → GName → Fml
Borrow κ b o γ = fbor κ (Body (mem ledgers.the_row) b o γ)

abbrev pub Open : Lft → Share → ℕ → ℕ → GName → Fml
Open κ q b o γ = fobor κ q (Body (mem ledgers.the_row) b o γ)

module _ {M : Type 1} {𝓤 : Ura M} {𝓛 : Logic 𝓤} {K : Type 0} {Γ : List (Item 𝓤)} {G : Goal 𝓤 𝓛.H} where
  -- a `&mut Ledger` is opened: its ledger stands in its place
  pub opens_ledger : K → Soaks G → {κ : Lft} {q : Share} (l : Ledger) {γ : GName} (b o : ℕ)
      → (Fits l → Seq K 𝓛 (‵ (Cell l b o) ∷ ‵ (Open κ q b o γ) ∷ ‵ (fobs γ (Code l)) ∷ ‵ (fauth γ (Code l)) ∷ Γ) G)
      → Seq K 𝓛 (‵ (fobs γ (Code l)) ∷ ‵ (Borrow κ b o γ) ∷ ‵ (flft κ q) ∷ Γ) G
  opens_ledger t z l b o k = opens t z ledgers.the_row {h = l} b o (λ vs.
      spelt t ledgers.the_row (Is ledgers.the_row) (shows 𝓛 ledgers.the_row) (struct.vals ledgers.the_type ledger-laws.the_laws)
      (struct.tells ledgers.the_type ledger-laws.the_laws) full_share l vs b o $ move t (1 ∷ []) $
      peeks t ledgers.the_row (Is ledgers.the_row) (shows 𝓛 ledgers.the_row) l (stored l ∷ []) (λ fits. drop t $ k fits))

  -- and closed, at the ledger that stands there
  pub closes_ledger : K → Soaks G → {κ : Lft} {q : Share} {u v : Gv} (l : Ledger) → Fits l → {γ : GName} (b o : ℕ)
      → Step K 𝓛 (‵ (fobs γ (Code l)) ∷ ‵ (Borrow κ b o γ) ∷ ‵ (flft κ q) ∷ Γ) G
      (‵ (Cell l b o) ∷ ‵ (Open κ q b o γ) ∷ ‵ (fobs γ u) ∷ ‵ (fauth γ v) ∷ Γ) G
  closes_ledger t z l fits b o = step (λ s. owned t ledgers.the_row (Is ledgers.the_row) (ledger_makes 𝓛) l (stored l ∷ []) fits $
      move t (1 ∷ 0 ∷ []) $ closes t z ledgers.the_row l (stored l ∷ []) b o $ s)
