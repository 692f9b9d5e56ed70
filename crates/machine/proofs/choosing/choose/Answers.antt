use Rattle.std.proofs.Common.{◌≡◌, length, refl, arith, rules}
use Rattle.graph.proofs.Bits.{one_less}
use Rattle.machine.proofs.Among.{some_all, some_here, narrow_none, narrow_one}
use Rattle.machine.proofs.Marking.{one_slot}
use Rattle.machine.proofs.Picking.{chooses_none, chooses_one, m_chosen, all_chosen}
use Rattle.machine.proofs.choosing.choose.Goals as goal
use Rattle.machine.proofs.choosing.choose.Goals.{then-sets-s-eq0, else-sets-s-eq0}

pub loop-count-init : goal.loop-count-init
loop-count-init c =
    let n : length c.args.given ≡ 64 = search rules in
    chooses_none c.args.ticks.now c.args.given _ c.some_in-among.result n refl
    (some_all c.args.begun c.args.given c.some_in-among.result c.requires.1 c.some_in-among.ensures)

pub returns-then-among-eq0 : goal.returns-then-among-eq0
returns-then-among-eq0 c =
    let l = c.loop-count in (
      λ t st m e k. all_chosen t st c.args.ticks.now c.args.given e k l.sets l.keys l.among l.count l.invariant
          (omega (arith, c.requires.0)) (omega arith) c.if-among-eq0.true,
      omega (arith, c.requires.0),
    )

pub bounds-sets-s : goal.bounds-sets-s
bounds-sets-s c = omega (arith, c.next_slot-s.ensures.slot)

pub first_vertex-u-requires : goal.first_vertex-u-requires
first_vertex-u-requires c = let l = c.loop-count in let f = c.next_slot-s.ensures in some_here l.sets l.among l.invariant.has c.next_slot-s.result f.slot f.member

pub key_of-requires : goal.key_of-requires
key_of-requires c = (c.next_slot-s.ensures.slot, c.first_vertex-u.ensures.0)

pub bounds-keys-count : goal.bounds-keys-count
bounds-keys-count c = omega (arith, c.requires.0)

pub loop-count-preserved : goal.loop-count-preserved
loop-count-preserved c =
    let l = c.loop-count in
    let i = c.next_slot-s in
    let u = c.first_vertex-u in
    chooses_one c.args.ticks.now c.args.given l.sets l.keys l.among l.count i.result u.result _ c.key_of.result c.if-sets-s-eq0.among l.invariant
    (omega (arith, c.requires.0)) i.ensures u.ensures (λ k h. one_less _ u.result k u.ensures.0 h) c.key_of.ensures (λ k b. elim c.if-sets-s-eq0.branch [
      | then-sets-s-eq0 w ↦ rw w.among-is (narrow_one l.among i.result _ k _ i.ensures.slot b w.if-sets-s-eq0.true (one_slot i.result i.ensures.slot))
      | else-sets-s-eq0 w ↦ rw w.among-is (narrow_none l.among i.result _ k w.if-sets-s-eq0.false)
    ])

pub returns : goal.returns
returns c =
    let l = c.loop-count in
    let z : l.count ≡ c.from-most.result = omega arith in (
      λ t st m e k. rw (← z) (m_chosen t st c.args.ticks.now c.args.given e k l.sets l.keys l.among l.count l.invariant
          (omega (arith, c.requires.0)) (omega arith)),
      omega (arith, c.requires.0),
    )
