use Rattle.verdict.proofs.Judged.{file-laws}
use Rattle.verdict.proofs.finding.findings_of.Goals as goal

pub returns-in_default : goal.returns-in_default
returns-in_default c = search file-laws

pub findings_on-requires : goal.findings_on-requires
findings_on-requires c = search file-laws

pub returns : goal.returns
returns c = search file-laws
