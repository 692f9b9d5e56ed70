use mathlib.Core.Path.{ap}
use mathlib.Core.List.{◌++◌, append_assoc}
use lib.IntN.{ℤ}
use mir.Syntax.{w64}
use mir.Val.{SFits}
use mir.Facts.{to_z-of_z}
use Rattle.text.specs.Text.{text, signed}
use Rattle.reports.specs.Report.{last_line}
use Rattle.text.proofs.Pages.{then, same}
use borrow.Author.Rules.{rules}
use Rattle.reports.proofs.printing.last_line.Goals as goal

pub returns : goal.returns
unfolding last_line text
returns g c =
    let s : SFits w64 c.args.v.margin = search rules in
    let z = ap (λ (y : ℤ). text " margin " ++ signed y) (to_z-of_z s) in
    let r = then c.answer.ensures (then c.labelled.ensures (then (same c.margin.ensures z) c.chain.ensures)) in
    same r (simp (append_assoc, c.from.ensures))
