use Rattle.std.proofs.Common.{ℕ, ◌+◌, ◌*◌, ◌≤◌, ◌<◌, refl, sym, ap₂, ◌∙◌, get_or, arith}
use native.Mathlib.Nat.{mul-le-mul}
use Rattle.graph.specs.Words.{sum}
use Rattle.verdict.specs.Measured.{due_in}
use Rattle.verdict.proofs.Amounts.{up_ceil, up_most}
use Rattle.verdict.proofs.Figured.{sum_next, sum_done}
use Rattle.verdict.proofs.measuring.Measures.due.Goals as goal

pub loop-i-init : goal.loop-i-init
unfolding sum
loop-i-init c = (refl, omega arith)

pub loop-i-preserved : goal.loop-i-preserved
loop-i-preserved c =
    let r = c.args.self.now.in_range.2 in
    let i = c.loop-i.i in
    let b : i < c.args.self.now.n = omega arith in
    let jobs = c.from.ensures ∙ c.div_ceil.ensures ∙ up_ceil (get_or c.args.self.now.deadlines c.args.k 0) (get_or c.args.self.now.periods i 0) (r i b).1 in
    let few : c.from.result ≤ 1000000 = omega (arith, jobs, up_most (get_or c.args.self.now.deadlines c.args.k 0) (get_or c.args.self.now.periods i 0) (r i b).1, (r c.args.k c.requires).0) in
    let part : c.from.result * get_or c.args.self.now.vols i 0 ≤ 1000000 * 16000000 = mul-le-mul few (r i b).3 in
    (ap₂ (λ (x y : ℕ). x + y * get_or c.args.self.now.vols i 0) c.loop-i.invariant.0 jobs ∙ sym (sum_next _ _), omega (arith, part, c.loop-i.invariant.1))

pub returns : goal.returns
unfolding due_in
returns c = sum_done _ _ _ _ (omega arith) c.loop-i.invariant.0
