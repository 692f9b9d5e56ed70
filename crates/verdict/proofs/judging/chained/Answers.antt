use Rattle.std.proofs.Common.{◌≡◌, ℕ, ◌+◌, ◌*◌, get_or, length, List, ◌<◌, ap, sym, ◌∙◌, arith, rules}
use Rattle.graph.specs.Words.{row}
use Rattle.std.proofs.lemmas.List.{get_or_default}
use borrow.Author.Tests.{true-ltb}
use Rattle.table.specs.declared.Task.{Task}
use Rattle.table.specs.Memory.{no_task, task, succ}
use Rattle.verdict.specs.Measured.{own_succ, with_chain}
use Rattle.verdict.proofs.Judged.{succ_there, succ_none}
use Rattle.verdict.proofs.judging.chained.Goals as goal
use Rattle.verdict.proofs.judging.chained.Goals.{in-Some, in-None}

pub returns : goal.returns
unfolding succ task no_task
returns c =
    let t = c.args.t.now in
    let d = c.args.d in
    let own = c.own_costs-own in
    let k = c.from-k in
    let n : length t.tasks ≡ 16 = search rules in
    let found : c.match-get.succ ≡ own_succ t d.task = elim c.match-get.branch [
      | in-Some w ↦
          let x = w.in-Some.ensures.lookup in
          let b : k.result < 16 = omega (arith, true-ltb _ _ x.0, n) in
          rw w.succ-is (
          ap (λ (y : Task). y.succ) (x.1 ∙ get_or_default t.tasks k.result _ no_task (omega (arith, b, n)))
          ∙ ap (succ t) k.ensures ∙ sym (succ_there t d.task (omega (arith, b, k.ensures)))
          )
      | in-None w ↦ rw w.succ-is (sym (succ_none t d.task (omega (arith, w.in-None.ensures.lookup.3, n, k.ensures))))
    ] in
    c.with_chain.ensures
    ∙ ap (λ (s : List ℕ). with_chain d s own.result) found
    ∙ ap (λ (l : List ℕ). with_chain d (own_succ t d.task) l) (own.ensures ∙ ap (λ (k : ℕ). row 16 (λ u. get_or t.costs (16 * k + u) 0)) k.ensures)
