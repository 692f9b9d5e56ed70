-- `from` meets its contract: the number, the task, the place, the margin and the chain of the verdict.
use borrow.Author.Rules.{rules}
use Rattle.panel.proofs.Answers.{faces_verdict}
use Rattle.panel.proofs.verdicts.VerdictAnswerFromVerdict.from.Goals as goal

pub returns : goal.returns
returns c = faces_verdict c.args.v _ (search rules)
