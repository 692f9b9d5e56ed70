use Rattle.std.proofs.Common.{◌≡◌, ◌<◌, ◌∙◌, length-set, refl, arith}
use Rattle.table.specs.Memory.{no_task, task, T}
use Rattle.verdict.proofs.Figured.{vol_found}
use Rattle.quick.specs.declared.sums.Load.{Load}
use Rattle.quick.proofs.Yes.{loads_none, loads_next}
use Rattle.quick.proofs.sums.loads_of.Goals as goal

pub loop-i-init : goal.loop-i-init
loop-i-init c = (refl, loads_none _ _)

pub loop-i-preserved : goal.loop-i-preserved
unfolding T task no_task
loop-i-preserved c =
    let t = c.args.t.now in
    let l = c.loop-i in
    let n = c.requires.n_high in
    let b : l.i < t.n = omega arith in (
      length-set {A = Load} l.loads l.i _ ∙ l.invariant.0,
      loads_next t l.i l.loads _ (omega (arith, l.invariant.0)) refl (vol_found t c.requires l.i b _ _ c.own_costs.ensures c.total_of-vol.ensures) l.invariant.1,
    )

pub returns : goal.returns
returns c =
    let e : c.loop-i.i ≡ c.args.t.now.n = omega arith in
    rw e at c.loop-i.invariant.1
