use mathlib.Core.Path.{refl, ◌∙◌}
use native.Mathlib.Omega.{arith}
use Rattle.verdict.proofs.Amounts.{up_ceil}
use Rattle.sharp.proofs.Reckoned.{ramp_steps}
use Rattle.sharp.proofs.closed.ramp.Goals as goal

pub overflow_mul-result : goal.overflow_mul-result
overflow_mul-result c =
    let a = c.args in
    let r = c.from-r in
    let e = r.ensures ∙ c.div_ceil.ensures ∙ up_ceil a.y a.t (omega arith) in
    let s = ramp_steps a.y a.t r.result c.from.result a.t (omega arith) (omega arith) e c.from.ensures refl in
    omega (arith, s.0)

pub overflow_mul-result-2 : goal.overflow_mul-result-2
overflow_mul-result-2 c =
    let a = c.args in
    let r = c.from-r in
    let e = r.ensures ∙ c.div_ceil.ensures ∙ up_ceil a.y a.t (omega arith) in
    let s = ramp_steps a.y a.t r.result a.y a.t (omega arith) (omega arith) e refl refl in
    omega (arith, s.1)

pub overflow_sub-result : goal.overflow_sub-result
overflow_sub-result c =
    let a = c.args in
    let r = c.from-r in
    let e = r.ensures ∙ c.div_ceil.ensures ∙ up_ceil a.y a.t (omega arith) in
    let s = ramp_steps a.y a.t r.result a.y a.t (omega arith) (omega arith) e refl refl in
    s.2

pub overflow_mul-result-3 : goal.overflow_mul-result-3
overflow_mul-result-3 c =
    let a = c.args in
    let r = c.from-r in
    let e = r.ensures ∙ c.div_ceil.ensures ∙ up_ceil a.y a.t (omega arith) in
    let s = ramp_steps a.y a.t r.result a.y c.from-2.result (omega arith) (omega arith) e refl c.from-2.ensures in
    omega (arith, s.0, s.3)

pub overflow_sub-result-2 : goal.overflow_sub-result-2
overflow_sub-result-2 c =
    let a = c.args in
    let r = c.from-r in
    let e = r.ensures ∙ c.div_ceil.ensures ∙ up_ceil a.y a.t (omega arith) in
    let s = ramp_steps a.y a.t r.result c.from.result c.from-2.result (omega arith) (omega arith) e c.from.ensures c.from-2.ensures in
    s.3

pub returns : goal.returns
returns c =
    let a = c.args in
    let r = c.from-r in
    let e = r.ensures ∙ c.div_ceil.ensures ∙ up_ceil a.y a.t (omega arith) in
    let s = ramp_steps a.y a.t r.result c.from.result c.from-2.result (omega arith) (omega arith) e c.from.ensures c.from-2.ensures in
    s.4
