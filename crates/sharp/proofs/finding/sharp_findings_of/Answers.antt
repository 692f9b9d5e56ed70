use Rattle.verdict.proofs.Judged.{good_read}
use Rattle.sharp.proofs.Judged.{file-laws, findings_done}
use Rattle.sharp.proofs.finding.sharp_findings_of.Goals as goal

pub returns-in_default : goal.returns-in_default
returns-in_default c = search file-laws

pub sharp_findings_on-requires : goal.sharp_findings_on-requires
sharp_findings_on-requires c = let r = c.read-l in good_read c.args.bytes.now r.result r.ensures c.in-Read.is

pub returns : goal.returns
returns c = let r = c.read-l in findings_done c.args.bytes.now r.result r.ensures _ c.in-Read.is c.sharp_findings_on.ensures
