-- `octet_marks` puts the seven bits in field order. Assumes nothing.
use Prim.Native.Nat.{◌/◌}
use native.Mathlib.Nat.{div-div-eq-div-mul}
use native.Mathlib.Omega.{arith}
use Rattle.blocks.proofs.MarksLaws.{marks-one}
use Rattle.blocks.proofs.marks.octet_marks.Goals as goal

pub returns : goal.returns
returns c = (rw (marks-one (c.args.x / 2)) (simp div-div-eq-div-mul), omega arith)
