use Rattle.std.proofs.Common.{◌≡◌, ◌<◌, ℕ, List, refl, ap, ◌∙◌, arith}
use Rattle.graph.specs.Graph.{longest_of}
use Rattle.table.specs.Memory.{no_task, task, vertices, D, T, succ, cost}
use Rattle.verdict.proofs.Figured.{filled_none, filled_next, filled_up_to, vol_found, len_found, in_range}
use Rattle.verdict.proofs.measuring.Measures.of.Goals as goal

pub loop-i-init : goal.loop-i-init
loop-i-init c = (filled_none refl, filled_none refl, filled_none refl, filled_none refl)

pub loop-i-preserved : goal.loop-i-preserved
unfolding D T vertices task no_task cost succ
loop-i-preserved c =
    let t = c.args.t.now in
    let g = c.requires in
    let n = g.n_high in
    let l = c.loop-i in
    let own = c.own_costs-own in
    let b : l.i < t.n = omega arith in (
      filled_next _ (omega arith) refl l.invariant.0,
      filled_next _ (omega arith) refl l.invariant.1,
      filled_next _ (omega arith) (vol_found t g l.i b own.result _ own.ensures c.total_of.ensures) l.invariant.2,
      filled_next _ (omega arith) (len_found t g l.i b _ (c.longest.ensures ∙ ap (λ (own : List ℕ). longest_of (succ t l.i) own) own.ensures)) l.invariant.3,
    )

pub invariant_of-result : goal.invariant_of-result
invariant_of-result c =
    let t = c.args.t.now in
    let l = c.loop-i in
    record {
      in_range = in_range t c.requires l.deadlines l.periods l.vols
          (λ k h. l.invariant.0.each k (omega arith)) (λ k h. l.invariant.1.each k (omega arith)) (λ k h. l.invariant.2.each k (omega arith));
    }

pub returns : goal.returns
returns c =
    let t = c.args.t.now in
    let l = c.loop-i in
    let e : l.i ≡ t.n = omega arith in
    record {
      m_is = refl;
      n_is = refl;
      D_is = λ k h. l.invariant.0.each k (omega arith);
      T_is = λ k h. l.invariant.1.each k (omega arith);
      vol_is = λ k h. l.invariant.2.each k (omega arith);
      len_is = λ k h. l.invariant.3.each k (omega arith);
      deadlines_are = filled_up_to (rw e at l.invariant.0);
      vols_are = filled_up_to (rw e at l.invariant.2);
      lens_are = filled_up_to (rw e at l.invariant.3);
    }
