use mathlib.Core.Path.{ap}
use mathlib.Core.List.{◌++◌, append_assoc}
use lib.IntN.{ℤ}
use mir.Syntax.{w64}
use mir.Val.{SFits}
use mir.Facts.{to_z-of_z}
use Rattle.text.specs.Text.{text, signed}
use Rattle.text.proofs.Pages.{then, same}
use Rattle.reports.specs.Report.{task_line}
use borrow.Author.Rules.{rules}
use Rattle.reports.proofs.printing.task_line.Goals as goal

pub returns : goal.returns
unfolding task_line text
returns g c =
    let a = c.args in
    let s : SFits w64 a.f.margin = search rules in
    let z = ap (λ (y : ℤ). text " margin " ++ signed y) (to_z-of_z s) in
    let m = then (same c.margin.ensures z) c.end_line.ensures in
    let r = then c.labelled.ensures (then c.labelled-2.ensures (then c.labelled-3.ensures (then c.labelled-4.ensures m))) in
    same r (simp append_assoc)
