use mathlib.Core.Path.{◌≡◌, refl}
use native.Mathlib.Omega.{arith}
use Rattle.sharp.proofs.Reckoned.{put_none, put_next}
use Rattle.sharp.proofs.putting.put_tails.Goals as goal

pub loop-u-init : goal.loop-u-init
loop-u-init c = put_none c.requires.1

pub overflow_cast-row : goal.overflow_cast-row
overflow_cast-row c = omega (arith, c.requires.2 c.loop-u.u)

pub loop-u-preserved : goal.loop-u-preserved
loop-u-preserved c = let l = c.loop-u in put_next _ (omega arith) (omega arith) refl l.invariant

pub returns : goal.returns
returns c =
    let r = c.loop-u.invariant in
    let e : c.loop-u.u ≡ 16 = omega arith in
    (r.size, λ w h. r.here w (omega arith), r.earlier)
