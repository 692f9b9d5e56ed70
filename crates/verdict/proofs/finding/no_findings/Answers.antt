use Rattle.verdict.proofs.Judged.{none_found}
use Rattle.verdict.proofs.finding.no_findings.Goals as goal

pub returns : goal.returns
returns c = none_found c.args.o c.unread.result c.unread.ensures
