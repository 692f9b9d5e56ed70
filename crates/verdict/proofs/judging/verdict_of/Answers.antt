use Rattle.verdict.proofs.Judged.{file-laws}
use Rattle.verdict.proofs.judging.verdict_of.Goals as goal

pub returns-in_default : goal.returns-in_default
returns-in_default c = search file-laws

pub verdict_on-requires : goal.verdict_on-requires
verdict_on-requires c = search file-laws

pub returns : goal.returns
returns c = search file-laws
