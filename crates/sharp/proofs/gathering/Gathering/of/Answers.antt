use mathlib.Core.Path.{◌≡◌, refl, ◌∙◌}
use Prim.Native.Nat.{◌+◌, ◌*◌, ◌<◌}
use native.Mathlib.Omega.{arith}
use native.Mathlib.Decide.{ℕ_discrete}
use Rattle.table.specs.Memory.{no_task, task, vertices, D, T, succ}
use Rattle.verdict.proofs.Figured.{filled_none, filled_next, filled_up_to, vol_found}
use Rattle.sharp.proofs.Tails.{tails_found, tails_small, len_found}
use Rattle.sharp.proofs.Judged.{in_range}
use Rattle.sharp.proofs.gathering.Gathering.of.Goals as goal

pub loop-i-init : goal.loop-i-init
loop-i-init c = (filled_none refl, filled_none refl, filled_none refl, filled_none refl, filled_none refl, c.requires.1, λ j u l. absurd (omega arith))

pub longest_of-requires : goal.longest_of-requires
unfolding succ task no_task
longest_of-requires c = tails_small c.args.t.now c.requires.0 c.loop-i.i (omega arith) _ _ c.own_costs-own.ensures c.tails_of-after.ensures

pub put_tails-requires : goal.put_tails-requires
unfolding succ task no_task
put_tails-requires c =
    let l = c.loop-i in
    let h = c.requires.0.n_high in
    (omega arith, l.invariant.5, tails_small c.args.t.now c.requires.0 l.i (omega arith) _ _ c.own_costs-own.ensures c.tails_of-after.ensures)

pub loop-i-preserved : goal.loop-i-preserved
unfolding D T vertices task no_task succ
loop-i-preserved c =
    let t = c.args.t.now in
    let g = c.requires.0 in
    let n = g.n_high in
    let l = c.loop-i in
    let b : l.i < t.n = omega arith in
    let own = c.own_costs-own in
    let after = c.tails_of-after in
    let put = c.put_tails in (
      filled_next _ (omega arith) refl l.invariant.0,
      filled_next _ (omega arith) refl l.invariant.1,
      filled_next _ (omega arith) refl l.invariant.2,
      filled_next _ (omega arith) (vol_found t g l.i b _ _ own.ensures c.total_of.ensures) l.invariant.3,
      filled_next _ (omega arith) (len_found t g l.i b _ _ own.ensures after.ensures _ c.longest_of.ensures) l.invariant.4,
      put.ensures.0,
      λ j u h k. elim (ℕ_discrete j l.i) [
        | yes e ↦ rw e (put.ensures.1 u k ∙ tails_found t g l.i b _ _ own.ensures after.ensures u k)
        | no e ↦ put.ensures.2 (16 * j + u) (omega arith) ∙ l.invariant.6 j u (omega arith) k
      ],
    )

pub invariant_of-result : goal.invariant_of-result
invariant_of-result c =
    let l = c.loop-i in
    record {
      in_range = in_range c.args.t.now c.requires.0 l.deadlines l.periods l.counts
          (λ k h. l.invariant.0.each k (omega arith)) (λ k h. l.invariant.1.each k (omega arith)) (λ k h. l.invariant.2.each k (omega arith));
    }

pub returns : goal.returns
returns c =
    let l = c.loop-i in
    let e : l.i ≡ c.args.t.now.n = omega arith in
    record {
      costs_are = refl;
      tail_is = λ i u h k. l.invariant.6 i u (omega arith) k;
      m_is = refl;
      n_is = refl;
      T_is = λ i h. l.invariant.1.each i (omega arith);
      v_is = λ i h. l.invariant.2.each i (omega arith);
      deadlines_are = filled_up_to (rw e at l.invariant.0);
      vols_are = filled_up_to (rw e at l.invariant.3);
      lens_are = filled_up_to (rw e at l.invariant.4);
    }
