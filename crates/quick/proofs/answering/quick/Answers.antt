use Rattle.quick.proofs.Yes.{file-laws}
use Rattle.quick.proofs.answering.quick.Goals as goal

pub returns-in_default : goal.returns-in_default
returns-in_default c = search file-laws

pub quick_on-requires : goal.quick_on-requires
quick_on-requires c = search file-laws

pub returns : goal.returns
returns c = search file-laws
