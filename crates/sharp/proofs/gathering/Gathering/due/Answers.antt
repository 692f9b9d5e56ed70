use mathlib.Core.Path.{◌≡◌, sym, ap, ◌∙◌}
use Prim.Native.Nat.{ℕ, ◌+◌, ◌*◌}
use native.Mathlib.Omega.{arith}
use lib.ListN.{get_or}
use Rattle.sharp.specs.Closed.{asked_from, due_by}
use Rattle.sharp.specs.Gathered.{due_in}
use Rattle.sharp.proofs.Reckoned.{due_none, due_next}
use Rattle.sharp.proofs.gathering.Gathering.due.Goals as goal

pub loop-i-init : goal.loop-i-init
loop-i-init c = (due_none _ _ _ _ _, omega arith)

pub asked_from-due-requires : goal.asked_from-due-requires
asked_from-due-requires c =
    let r = c.args.self.now.in_range.2 in
    let q = r c.loop-i.i (omega arith) in
    let v = c.from-v.ensures in
    (omega (arith, q.3, c.args.self.now.in_range.1), omega (arith, q.3), (r c.args.k c.requires).0, q.1, q.2, λ u l. q.4 u (omega arith))

pub overflow_add-due : goal.overflow_add-due
overflow_add-due c = let l = c.loop-i in omega (arith, l.invariant.1, c.asked_from-due.ensures.1)

pub loop-i-preserved : goal.loop-i-preserved
loop-i-preserved c =
    let x = c.args.self.now in
    let l = c.loop-i in
    let d = get_or x.deadlines c.args.k 0 in
    let p = c.asked_from-due in
    let e = p.ensures.0 ∙ ap (λ (v : ℕ). asked_from x.costs.now x.tails.now (16 * l.i) v d (get_or x.periods l.i 0)) c.from-v.ensures in (
      ap (λ (y : ℕ). y + p.result) l.invariant.0 ∙ sym (due_next x.costs.now x.tails.now x.counts x.periods l.i d p.result e),
      omega (arith, l.invariant.1, p.ensures.1),
    )

pub returns : goal.returns
unfolding due_in
returns c =
    let x = c.args.self.now in
    let l = c.loop-i in
    let e : l.i ≡ x.n = omega arith in
    l.invariant.0 ∙ ap (λ (n : ℕ). due_by x.costs.now x.tails.now x.counts x.periods n (get_or x.deadlines c.args.k 0)) e
