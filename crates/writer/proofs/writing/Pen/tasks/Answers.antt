use native.Mathlib.Omega.{arith}
use Rattle.table.specs.Memory.{task, no_task}
use Rattle.writer.proofs.Passed.{passed_n, passed_counts}
use Rattle.writer.proofs.PenLaws.{begun, went_on, all_put, has_room}
use Rattle.writer.proofs.PutLaws.{tasks_first, tasks_then, tasks_done}
use Rattle.writer.proofs.writing.Pen.tasks.Goals as goal

pub loop-i-init : goal.loop-i-init
loop-i-init c = begun (tasks_first c.args.table)

pub bounds-table-i : goal.bounds-table-i
bounds-table-i c =
    let n = passed_n c.args.table c.requires.0 in
    let z = c.from-i-end.ensures in
    omega arith

pub task-requires : goal.task-requires
unfolding task no_task
task-requires c =
    let l = c.loop-i in
    let t = c.args.table in
    let n = passed_n t c.requires.0 in
    let z = c.from-i-end.ensures in
    let k = passed_counts t c.requires.0 l.i (omega arith) in
    let h = has_room _ l.invariant (tasks_then t l.i (omega arith)) c.requires.1 in
    record { in_range = (k.v_high, k.e_high, omega arith); has_room = h }

pub loop-i-preserved : goal.loop-i-preserved
unfolding task no_task
loop-i-preserved c =
    let l = c.loop-i in
    let z = c.from-i-end.ensures in
    went_on l.invariant (tasks_then c.args.table l.i (omega arith)) c.task.ensures

pub returns : goal.returns
returns c =
    let l = c.loop-i in
    let z = c.from-i-end.ensures in
    all_put l.invariant (tasks_done c.args.table l.i (omega arith))
