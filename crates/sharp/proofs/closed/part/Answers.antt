use mathlib.Core.Path.{◌∙◌}
use Prim.Native.Nat.{◌-◌}
use native.Mathlib.Omega.{arith}
use native.Mathlib.Nat.{mod-le, div-le_self}
use Rattle.sharp.proofs.Reckoned.{part_high, part_low, part_full, part_only, full_high}
use Rattle.sharp.proofs.closed.part.Goals as goal

pub returns-then-y-c : goal.returns-then-y-c
returns-then-y-c c =
    let a = c.args in
    let e = c.ramp.ensures ∙ part_low a.c a.t a.y (omega arith) in
    (e, omega (arith, part_high a.c a.t a.y (omega arith) (omega arith) (omega arith)))

pub overflow_add-over : goal.overflow_add-over
overflow_add-over c = let a = c.args in omega (arith, div-le_self (a.y - a.c) a.t)

pub overflow_mul-full : goal.overflow_mul-full
overflow_mul-full c =
    let a = c.args in
    omega (arith, full_high a.c a.t a.y c.from.result c.from-2.result c.from.ensures c.from-2.ensures (omega arith) (omega arith) (omega arith))

pub overflow_add-rest : goal.overflow_add-rest
overflow_add-rest c = let a = c.args in omega (arith, mod-le (a.y - a.c) a.t)

pub returns-then-rest-t : goal.returns-then-rest-t
returns-then-rest-t c =
    let a = c.args in
    let w = c.from in
    let p = c.from-2 in
    let e = part_only a.c a.t a.y w.result p.result w.ensures p.ensures (omega arith) (omega arith) in
    (e, omega (arith, part_high a.c a.t a.y (omega arith) (omega arith) (omega arith)))

pub ramp-requires-2 : goal.ramp-requires-2
ramp-requires-2 c = let a = c.args in (omega (arith, mod-le (a.y - a.c) a.t), omega arith, omega arith)

pub overflow_add-result : goal.overflow_add-result
overflow_add-result c =
    let a = c.args in
    let w = c.from in
    let p = c.from-2 in
    omega (arith, c.ramp-2.ensures, part_full a.c a.t a.y w.result p.result w.ensures p.ensures (omega arith), part_high a.c a.t a.y (omega arith) (omega arith) (omega arith))

pub returns : goal.returns
returns c =
    let a = c.args in
    let w = c.from in
    let p = c.from-2 in
    let e = part_full a.c a.t a.y w.result p.result w.ensures p.ensures (omega arith) in
    (omega (arith, c.ramp-2.ensures, e), omega (arith, c.ramp-2.ensures, e, part_high a.c a.t a.y (omega arith) (omega arith) (omega arith)))
