-- What it is that the code of a function meets a claim: the function's own theorem, with the claim for all that its contract says.
use seplogic.Ra.Ura.{Ura}
use base.Logic.{emp}
use types.Logic.{Logic}
use contract.Lifetimes.{Lfts}
use contract.Monad.{fact}
use contract.Running.{Running}
use denote.Triple.Clauses.{Ended, Clauses, AtExit, closing}
use denote.Triple.Entry.{Args, Res}
use denote.Triple.Spec.{Meets}
use mir.Syntax.{Callee}
use prog.Model.{Model}
use prog.Wired.{Code, Wired}

-- of the lifetimes, the arguments, the answer, and the arguments as they are left
abbrev pub Claim : Ended → Type 1
Claim T = (κs : Lfts T.signature.lifetimes) → Args T.signature κs → Res T.signature κs → AtExit T κs → Type 0

-- the contract that asks nothing of a caller, and ensures the claim and nothing else
abbrev pub ensuring : {M : Type 1} (𝓤 : Ura M) (T : Ended) → Claim T → Clauses 𝓤 T
ensuring 𝓤 T C κs a = record { ghost = Unit {0}; requires = λ _. emp 𝓤; ensures = λ _ r left. fact 𝓤 (C κs a r left) }

-- the code, wherever it runs, meets that contract: a call by its name does, in whatever has this code for it
abbrev pub MeetsJust : (T : Ended) → Callee → Code → Claim T → Type 2
MeetsJust T name code C = (M : Type 1) (𝓤 : Ura M) (𝓛 : Logic 𝓤) (𝓜 : Model 𝓤 𝓛.H) (𝓡 : Running 𝓤 𝓛.H 𝓜)
    → Wired 𝓡.env code → Meets 𝓛 T.signature (𝓡.run (𝓡.env name)) (closing 𝓛 T (ensuring 𝓤 T C))
