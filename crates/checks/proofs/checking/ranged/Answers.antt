use native.Mathlib.Omega.{arith}
use Rattle.table.proofs.FieldLaws.{ranged_out, ranged_got}
use Rattle.checks.proofs.checking.ranged.Goals as goal

pub returns-then-x-lo : goal.returns-then-x-lo
returns-then-x-lo c = let a = c.args in ranged_out (λ _. a.refusal) a.lo a.hi 0 a.x c.then-x-lo.either

pub returns : goal.returns
returns c = let a = c.args in ranged_got (λ _. a.refusal) a.lo a.hi 0 a.x (omega arith) (omega arith)
