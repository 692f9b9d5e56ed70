use mathlib.Core.Path.{◌≡◌}
use mathlib.Core.Bool.{true}
use Prim.Native.Nat.{◌+◌}
use lib.Dec.{ltb}
use Rattle.graph.specs.Words.{all}
use Rattle.journal.specs.Rows.{row_triple}
use Rattle.journal.proofs.fields.Row.ascends.Given as goal

abbrev pub invariant-loop-j : goal.invariant-loop-j
invariant-loop-j l = all l.j (λ k. ltb (row_triple l.self.bytes.now l.self.at k) (row_triple l.self.bytes.now l.self.at (k + 1))) ≡ true
