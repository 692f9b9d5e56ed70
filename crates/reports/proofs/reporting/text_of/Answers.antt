use Rattle.std.proofs.Common.{lit<}
use Rattle.reports.proofs.Reported.{page_reported}
use Rattle.reports.proofs.reporting.text_of.Goals as goal

pub lines_of-requires : goal.lines_of-requires
lines_of-requires c = (lit< tt, c.requires)

pub returns : goal.returns
returns c = page_reported _ c.requires c.new-page.ensures c.lines_of.ensures
