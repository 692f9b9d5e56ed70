use mathlib.Core.Path.{ap, ◌∙◌}
use Rattle.reports.specs.Report.{reported}
use Rattle.reports.proofs.Reported.{old_ready, old_report}
use Rattle.reports.proofs.reporting.report_of.Goals as goal

pub text_of-requires : goal.text_of-requires
text_of-requires c = old_ready _ _ c.findings_of.ensures

pub returns : goal.returns
returns c = c.text_of.ensures ∙ ap reported (old_report _ _ c.findings_of.ensures)
