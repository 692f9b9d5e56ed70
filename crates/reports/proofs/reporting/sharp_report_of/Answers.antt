use mathlib.Core.Path.{ap, ◌∙◌}
use Rattle.reports.specs.Report.{reported}
use Rattle.reports.proofs.Reported.{sharp_ready, sharp_text}
use Rattle.reports.proofs.reporting.sharp_report_of.Goals as goal

pub text_of-requires : goal.text_of-requires
text_of-requires c = sharp_ready _ _ c.sharp_findings_of.ensures

pub returns : goal.returns
returns c = c.text_of.ensures ∙ ap reported (sharp_text _ _ c.sharp_findings_of.ensures)
