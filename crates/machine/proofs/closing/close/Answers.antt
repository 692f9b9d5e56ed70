use Rattle.std.proofs.Common.{sym, refl, ◌∙◌, rules}
use Rattle.machine.specs.Rows.{source_by}
use Rattle.machine.proofs.Taking.{closing_none, closing_with, closing_without, closing_live, closing_ends, closing_work, closing_rest}
use Rattle.machine.proofs.Marking.{one_slot, source_there, source_missing}
use Rattle.machine.proofs.closing.close.Goals as goal

pub loop-s-init : goal.loop-s-init
loop-s-init c =
    let a = c.args in
    rw (c.into_iter-s-iterator.ensures.into_iter_gives, c.of-s-items.ensures)
    (closing_none a.over a.going a.deadlines.now a.remaining.now a.work.now c.slots_of-slots.result c.slots_of-slots.ensures (search rules) (search rules) (search rules) (search rules))

pub loop-s-preserved-in-Some-source : goal.loop-s-preserved-in-Some-source
loop-s-preserved-in-Some-source c =
    let l = c.loop-s in
    let a = c.args in
    let t = c.in-Some.ensures.steps in
    let s = c.in-Some.s in
    let from = c.in-Some-source.from in
    let z = source_there a.going s from (sym c.in-Some-source.is ∙ c.source.ensures) in
    rw t.3 (closing_with a.over a.going a.deadlines.now a.remaining.now a.work.now c.slots_of-slots.result l.s-iterator.rest l.live l.deadlines l.remaining l.work l.invariant
    t.0 s from t.1 z.0 _ _ _ _ z.1 _ (one_slot s t.2) refl refl c.move_rest.ensures refl)

pub loop-s-preserved : goal.loop-s-preserved
loop-s-preserved c =
    let l = c.loop-s in
    let a = c.args in
    let t = c.in-Some.ensures.steps in
    let s = c.in-Some.s in
    rw t.3 (closing_without a.over a.going a.deadlines.now a.remaining.now a.work.now c.slots_of-slots.result l.s-iterator.rest l.live l.deadlines l.remaining l.work l.invariant
    t.0 s (source_by a.going s) t.1 refl _ _ _ _ (source_missing a.going s (sym c.in_default.is ∙ c.source.ensures)) refl refl c.clear_rest.ensures refl)

pub returns : goal.returns
returns c =
    let l = c.loop-s in
    let a = c.args in
    let all = c.slots_of-slots.result in
    let d = a.deadlines.now in
    let r = a.remaining.now in
    let w = a.work.now in
    let z = c.in-None.ensures.steps.0 in (
      closing_live a.over a.going d r w all l.s-iterator.rest l.live l.deadlines l.remaining l.work l.invariant z,
      closing_ends a.over a.going d r w all l.s-iterator.rest l.live l.deadlines l.remaining l.work l.invariant z,
      closing_rest a.over a.going d r w all l.s-iterator.rest l.live l.deadlines l.remaining l.work l.invariant z,
      closing_work a.over a.going d r w all l.s-iterator.rest l.live l.deadlines l.remaining l.work l.invariant z,
    )
