use Rattle.std.proofs.Common.{◌≡◌, ℕ, ◌+◌, ◌*◌, ◌≤◌, ap₂, refl, sym, ◌∙◌, length, arith}
use native.Mathlib.Nat.{mul-le-mul}
use Rattle.graph.specs.Words.{sum}
use Rattle.verdict.specs.Verdicts.{rounded_up}
use Rattle.verdict.proofs.Amounts.{sum_part, up_ceil, up_most}
use Rattle.verdict.proofs.Figured.{sum_next, sum_done}
use Rattle.quick.specs.Loads.{load, owed}
use Rattle.quick.proofs.sums.due_within.Goals as goal

pub loop-load-init : goal.loop-load-init
unfolding owed sum
loop-load-init c = (refl, omega arith)

pub overflow_mul-due : goal.overflow_mul-due
overflow_mul-due c =
    let l = c.args.loads.now in
    let i = c.loop-load.load-index in
    let r = c.requires.2 i (omega arith) in
    let jobs = c.from.ensures ∙ c.div_ceil.ensures ∙ up_ceil c.args.d (load l i).period r.0 in
    let few : c.from.result ≤ 1000000 = omega (arith, jobs, up_most c.args.d (load l i).period r.0) in
    let part : c.from.result * (load l i).vol ≤ 1000000 * 16000000 = mul-le-mul few r.1 in
    omega (arith, part)

pub overflow_add-due : goal.overflow_add-due
overflow_add-due c =
    let l = c.args.loads.now in
    let i = c.loop-load.load-index in
    let r = c.requires.2 i (omega arith) in
    let jobs = c.from.ensures ∙ c.div_ceil.ensures ∙ up_ceil c.args.d (load l i).period r.0 in
    let few : c.from.result ≤ 1000000 = omega (arith, jobs, up_most c.args.d (load l i).period r.0) in
    let part : c.from.result * (load l i).vol ≤ 1000000 * 16000000 = mul-le-mul few r.1 in
    omega (arith, part, c.loop-load.invariant.1)

pub returns-then-most-due-clause-over : goal.returns-then-most-due-clause-over
unfolding owed
returns-then-most-due-clause-over c = λ h.
    let l = c.args.loads.now in
    let i = c.loop-load.load-index in
    let jobs = c.from.ensures ∙ c.div_ceil.ensures ∙ up_ceil c.args.d (load l i).period (c.requires.2 i (omega arith)).0 in
    let f : ℕ → ℕ = λ x. rounded_up c.args.d (load l x).period * (load l x).vol in
    -- one task more
    let grown : c.loop-load.due + c.from.result * (load l i).vol ≡ sum (i + 1) f = ap₂ (λ (x y : ℕ). x + y * (load l i).vol) c.loop-load.invariant.0 jobs ∙ sym (sum_next i f) in
    omega (arith, h, grown, sum_part (i + 1) (length l) f (omega arith))

pub loop-load-preserved : goal.loop-load-preserved
unfolding owed
loop-load-preserved c =
    let l = c.args.loads.now in
    let i = c.loop-load.load-index in
    let jobs = c.from.ensures ∙ c.div_ceil.ensures ∙ up_ceil c.args.d (load l i).period (c.requires.2 i (omega arith)).0 in
    (ap₂ (λ (x y : ℕ). x + y * (load l i).vol) c.loop-load.invariant.0 jobs ∙ sym (sum_next i _), c.if-most-due.false)

pub returns : goal.returns
unfolding owed
returns c = record { within = λ h. sum_done _ _ _ _ (omega arith) c.loop-load.invariant.0; over = λ h. absurd (omega (arith, c.loop-load.invariant.1)) }
