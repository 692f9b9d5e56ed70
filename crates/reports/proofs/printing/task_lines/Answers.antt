use mathlib.Core.Path.{◌≡◌, ap}
use Prim.Native.Nat.{ℕ}
use native.Mathlib.Omega.{arith}
use mir.Syntax.{w64}
use mir.Val.{SFits}
use mir.Facts.{to_z-of_z}
use Rattle.graph.specs.Words.{in_order}
use Rattle.text.proofs.Pages.{same, none_yet, one_more}
use Rattle.reports.specs.Report.{task_line}
use Rattle.reports.specs.Found.{figures_in}
use Rattle.reports.proofs.Lines.{found_figures}
use Rattle.reports.proofs.printing.task_lines.Goals as goal

pub loop-k-init : goal.loop-k-init
loop-k-init g c = none_yet _ _

pub loop-k-preserved : goal.loop-k-preserved
loop-k-preserved g c =
    let k = c.loop-k.k in
    let z = c.margin_from in
    let f : SFits w64 z.result = record { sfits = z.type_inv } in
    let x = found_figures c.args.f c.requires k (omega arith) z.result z.ensures _ (to_z-of_z f) in
    one_more k (λ i. task_line i (figures_in c.args.f i)) c.loop-k.invariant (same c.task_line.ensures (ap (task_line k) x))

pub returns : goal.returns
returns g c =
    let l = c.loop-k in
    let e : l.k ≡ c.args.f.n = omega arith in
    same l.invariant (ap (λ (k : ℕ). in_order k (λ i. task_line i (figures_in c.args.f i))) e)
