-- Digits from the last one on. The invariant: p bytes are free, which is enough for what is left of the number, and the digits of that
-- put before those that stand there are the whole number's.
use mathlib.Core.Path.{◌≡◌}
use Prim.Native.Nat.{◌^◌, ◌≤◌, ◌<◌}
use lib.ListN.{length, drop}
use Rattle.text.specs.Text.{digits_before, decimal}
use Rattle.text.proofs.put_digits.Given as goal

abbrev pub invariant-loop-y : goal.invariant-loop-y
invariant-loop-y l =
    (1 ≤ l.p) × (l.p ≤ 20) × (l.y < 10 ^ l.p) × (length l.digits ≡ 20) × (digits_before l.p l.y (drop l.p l.digits) ≡ decimal l.x)

abbrev pub decreases-loop-y : goal.decreases-loop-y
decreases-loop-y l = l.p
