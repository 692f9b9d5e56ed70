use borrow.Author.Rules.{rules}
use Rattle.reports.proofs.Reported.{line-laws, adds_got}
use Rattle.reports.proofs.printing.lines_of.Goals as goal

pub returns-in_default : goal.returns-in_default
returns-in_default g c = search line-laws

pub table_lines-requires : goal.table_lines-requires
table_lines-requires g c = (search rules, c.requires c.in-Read.is)

pub returns : goal.returns
returns g c = adds_got _ c.table_lines.ensures c.in-Read.is
