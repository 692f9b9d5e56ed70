-- The part of the twenty bytes that has the digits is laid into the buffer.
use mathlib.Core.Path.{◌≡◌, ap, ◌∙◌}
use Prim.Native.Nat.{◌-◌}
use native.Mathlib.Omega.{arith}
use lib.ListN.{length, take, drop, length-drop}
use Rattle.text.specs.Laid.{laid}
use Rattle.text.specs.Text.{decimal}
use lib.Seq.{take_all}
use Rattle.text.proofs.put_decimal.Goals as goal

pub slice_bounds-put_bytes-end : goal.slice_bounds-put_bytes-end
slice_bounds-put_bytes-end c = let e : length c.put_digits-from.new.digits ≡ 20 = c.put_digits-from.ensures.1 in omega arith

pub returns : goal.returns
returns c =
    let a = c.args in
    let e : c.put_bytes.new.out ≡ laid a.out.now a.at (take (20 - c.put_digits-from.result) (drop c.put_digits-from.result c.put_digits-from.new.digits)) = c.put_bytes.ensures in
    let f : drop c.put_digits-from.result c.put_digits-from.new.digits ≡ decimal a.x = c.put_digits-from.ensures.2 in
    let g : length c.put_digits-from.new.digits ≡ 20 = c.put_digits-from.ensures.1 in
    let h = length-drop c.put_digits-from.result c.put_digits-from.new.digits in
    (e ∙ ap (laid a.out.now a.at) (take_all (20 - c.put_digits-from.result) _ (omega arith) ∙ f), omega (arith, ap length f))
