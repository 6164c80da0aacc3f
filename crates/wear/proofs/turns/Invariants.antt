-- `turns`: at the loop's head octets have come, one at least with each turn, and the run over them waits. Assumes nothing.
use Rattle.std.proofs.Common.{◌≡◌, ℕ, ◌≤◌, List, length}
use Rattle.wear.specs.declared.reads.Going.{Going}
use Rattle.wear.proofs.TurnLaws as laws
use Rattle.wear.proofs.turns.Given as goal

abbrev pub invariant-turns : goal.invariant-turns
invariant-turns l = (l.now.going ≡ Going.On) × ((s : List ℕ) × laws.Waits s l.buffer l.ledger.cells l.now × (l.counter ≤ length s))
