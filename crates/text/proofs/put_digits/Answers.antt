use mathlib.Core.Path.{◌∙◌}
use Prim.Native.Nat.{◌-◌}
use native.Mathlib.Omega.{arith}
use lib.ListN.{length-set}
use Rattle.text.proofs.Digits.{none_put, digit_put, last_put, enough}
use Rattle.text.proofs.put_digits.Goals as goal

pub loop-y-init : goal.loop-y-init
loop-y-init c =
    (omega arith, omega arith, omega arith, c.requires, none_put c.args.digits.now c.args.x c.requires)

pub loop-y-preserved : goal.loop-y-preserved
loop-y-preserved c =
    let l = c.loop-y in
    let e = enough l.y l.p (omega arith) (omega arith) in (
      omega arith,
      omega arith,
      omega (arith, e.1),
      length-set l.digits (l.p - 1) _ ∙ l.invariant.3,
      digit_put l.digits l.p l.y (omega arith) (omega arith) (omega arith) ∙ l.invariant.4,
    )

pub returns : goal.returns
returns c =
    let l = c.loop-y in
    (omega arith, length-set l.digits (l.p - 1) _ ∙ l.invariant.3, last_put l.digits l.p l.y (omega arith) (omega arith) (omega arith) ∙ l.invariant.4)
