use mathlib.Core.Path.{◌≡◌, ap}
use Prim.Native.Nat.{ℕ}
use native.Mathlib.Omega.{arith}
use Rattle.graph.specs.Words.{in_order}
use Rattle.lines.specs.Lines.{work_in}
use Rattle.text.proofs.Pages.{same, none_yet, one_more}
use Rattle.lines.proofs.Parted.{dashed}
use Rattle.lines.proofs.parts.works.Goals as goal

pub loop-c-init : goal.loop-c-init
loop-c-init c = none_yet _ _

pub loop-c-preserved : goal.loop-c-preserved
loop-c-preserved c =
    let j = c.args.jobs.now in
    one_more c.loop-c.c (work_in j.live j.work) c.loop-c.invariant c.work_in.ensures

pub returns : goal.returns
returns c =
    let l = c.loop-c in
    let j = c.args.jobs.now in
    let e : l.c ≡ 64 = omega arith in
    dashed _ (same l.invariant (ap (λ (k : ℕ). in_order k (work_in j.live j.work)) e)) c.dash.ensures
