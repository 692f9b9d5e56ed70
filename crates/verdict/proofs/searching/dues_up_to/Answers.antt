use Rattle.std.proofs.Common.{◌≡◌, ◌∙◌, min, arith, refl}
use Rattle.verdict.proofs.Figured.{filled_none, filled_next, filled_room}
use Rattle.verdict.proofs.searching.dues_up_to.Goals as goal

pub loop-k-init : goal.loop-k-init
loop-k-init g c = λ f h. filled_none refl

pub loop-k-preserved : goal.loop-k-preserved
loop-k-preserved g c = λ f h.
    filled_next _ (omega arith) (c.due_at.ensures ∙ h c.loop-k.k (omega arith)) (c.loop-k.invariant f h)

pub returns : goal.returns
returns g c = λ f h. let e : c.loop-k.k ≡ min c.args.n 16 = omega arith in filled_room c.args.n (rw e at (c.loop-k.invariant f h))
