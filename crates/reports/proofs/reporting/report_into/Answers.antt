use mathlib.Core.Path.{ap, ◌∙◌}
use mathlib.Core.List.{List}
use Prim.Native.Nat.{ℕ}
use lib.ListN.{length}
use Rattle.reports.specs.Report.{report_into}
use Rattle.reports.proofs.Reported.{old_ready, old_report}
use Rattle.reports.proofs.reporting.report_into.Goals as goal

pub text_into-requires : goal.text_into-requires
text_into-requires c = old_ready _ _ c.findings_of.ensures

pub returns : goal.returns
returns c =
    let r = c.text_into in
    let e = old_report _ _ c.findings_of.ensures in
    (r.ensures.0 ∙ ap length e, r.ensures.1 ∙ ap (λ (words : List ℕ). report_into words c.args.out.now) e)
