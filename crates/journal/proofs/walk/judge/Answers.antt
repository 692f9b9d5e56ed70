use Rattle.journal.proofs.Entries.{entry-laws}
use Rattle.journal.proofs.walk.judge.Goals as goal

pub returns-in_default : goal.returns-in_default
returns-in_default c = search entry-laws

pub judge_rows-requires : goal.judge_rows-requires
judge_rows-requires c = search entry-laws

pub returns : goal.returns
returns c = search entry-laws
