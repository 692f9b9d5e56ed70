use native.Mathlib.Omega.{arith}
use Rattle.graph.proofs.Sets.{all_sixteen, only_first, one_least}
use Rattle.graph.proofs.first_ones.Goals as goal

pub returns-then-v-ge16 : goal.returns-then-v-ge16
returns-then-v-ge16 c = λ k. all_sixteen c.args.v k (omega arith)

pub overflow_sub-result : goal.overflow_sub-result
overflow_sub-result c = one_least c.args.v (omega arith)

pub returns : goal.returns
returns c = λ k. only_first c.args.v k (omega arith)
