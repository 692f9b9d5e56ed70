use mathlib.Core.Path.{ap, ◌∙◌}
use mathlib.Core.List.{List}
use Prim.Native.Nat.{ℕ}
use lib.ListN.{length}
use Rattle.reports.specs.Report.{report_into}
use Rattle.reports.proofs.Reported.{sharp_ready, sharp_text}
use Rattle.reports.proofs.reporting.sharp_report_into.Goals as goal

pub text_into-requires : goal.text_into-requires
text_into-requires c = sharp_ready _ _ c.sharp_findings_of.ensures

pub returns : goal.returns
returns c =
    let r = c.text_into in
    let e = sharp_text _ _ c.sharp_findings_of.ensures in
    (r.ensures.0 ∙ ap length e, r.ensures.1 ∙ ap (λ (words : List ℕ). report_into words c.args.out.now) e)
