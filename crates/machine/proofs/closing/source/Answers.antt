use Rattle.std.proofs.Common.{◌≡◌, ℕ, ◌+◌, ◌*◌, ◌%◌, ap, arith, eq-eqb, ne_eqb}
use Rattle.graph.specs.Words.{flag, bit, sum}
use Rattle.slots.proofs.Cases.{sum_next}
use Rattle.machine.proofs.Gaps.{source_found, source_none}
use Rattle.machine.proofs.Marking.{is_source, no_source}
use Rattle.machine.proofs.closing.source.Invariants.{goes_on}
use Rattle.machine.proofs.closing.source.Goals as goal
use Rattle.machine.proofs.closing.source.Goals.{then-going-other-eq1+else-wanted-eq0, else-going-other-eq1}

pub loop-p-init : goal.loop-p-init
unfolding sum
loop-p-init c = omega arith

pub returns-then-wanted-eq0 : goal.returns-then-wanted-eq0
unfolding bit
returns-then-wanted-eq0 c =
    let l = c.loop-p in
    let a = c.args in
    is_source a.going a.s _ (omega arith) (source_found a.going a.s l.p (omega arith) (eq-eqb _ _ c.if-going-other-eq1.true) (omega (arith, l.invariant)))

pub loop-p-preserved : goal.loop-p-preserved
unfolding bit flag
loop-p-preserved c =
    let l = c.loop-p in
    let a = c.args in
    let n = sum_next l.p (goes_on a.going a.s) in
    elim c.if-going-other-eq1.branch [
      | then-going-other-eq1+else-wanted-eq0 w ↦ let e : flag (bit a.going (16 * l.p + a.s % 16)) ≡ 1 = ap flag (eq-eqb _ _ w.if-going-other-eq1.true) in
          omega (arith, w.wanted-is, w.if-wanted-eq0.false, e, n, l.invariant)
      | else-going-other-eq1 w ↦ let e : flag (bit a.going (16 * l.p + a.s % 16)) ≡ 0 = ap flag (ne_eqb _ _ w.if-going-other-eq1.false) in
          omega (arith, w.wanted-is, e, n, l.invariant)
    ]

pub returns : goal.returns
returns c =
    let l = c.loop-p in
    let a = c.args in
    let e : l.p ≡ 4 = omega arith in
    let z = ap (λ (n : ℕ). sum n (goes_on a.going a.s)) e in
    no_source a.going a.s (source_none a.going a.s (omega (arith, z, l.invariant)))
