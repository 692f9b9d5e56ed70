-- A slot is 16 times age place plus task, so the four parts of sixteen bits, or-ed together, are the tasks.
use Rattle.machine.proofs.Gathering.{tasks_of}
use Rattle.machine.proofs.closing.tasks_in.Goals as goal

pub returns : goal.returns
returns c = tasks_of c.args.set
