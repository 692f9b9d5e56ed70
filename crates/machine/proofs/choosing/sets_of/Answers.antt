use Rattle.std.proofs.Common.{◌%◌, rules}
use Rattle.graph.specs.Words.{set_of}
use Rattle.table.specs.Memory.{no_task, task}
use Rattle.slots.specs.Slots.{is_ready}
use Rattle.machine.proofs.choosing.sets_of.Goals as goal

pub returns : goal.returns
unfolding no_task task
returns c =
    let a = c.args in
    c.at_slots.ensures (λ s. set_of 16 (is_ready (task a.t.now (s % 16)).succ (task a.t.now (s % 16)).v a.remaining.now s)) (λ s r b e. search rules)
