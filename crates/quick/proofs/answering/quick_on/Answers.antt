use Rattle.std.proofs.Common.{◌≡◌, ◌<◌, ◌≤◌, ◌+◌, ◌-◌, ltb, length, take, get_or, ap₂, subst, sym, ◌∙◌, ℕ, ◌*◌, arith}
use Rattle.graph.specs.Words.{row}
use Rattle.graph.specs.Graph.{longest_of}
use Rattle.table.specs.Memory.{no_task, task, D, succ}
use Rattle.verdict.proofs.Amounts.{allowance_high}
use Rattle.quick.specs.Loads.{owed}
use Rattle.quick.proofs.Yes.{loads_taken, yes_all, within_ready, over_due, due_is, chain_ready, over_spent, one_more_lem}
use Rattle.quick.proofs.answering.quick_on.Goals as goal

pub overflow_mul-most : goal.overflow_mul-most
unfolding D task no_task
overflow_mul-most c =
    let t = c.args.t.now in
    let g = c.requires in
    let k = c.loop-k.k in
    let b : k < t.n = omega arith in
    let most = ap₂ (λ (m d : ℕ). m * d) c.from-m.ensures c.from.ensures in
    record { fits = omega (arith, most, allowance_high t g k b) }

pub due_within-due-requires : goal.due_within-due-requires
unfolding D task no_task
due_within-due-requires c =
    let t = c.args.t.now in
    let g = c.requires in
    let k = c.loop-k.k in
    let b : k < t.n = omega arith in
    let most = ap₂ (λ (m d : ℕ). m * d) c.from-m.ensures c.from.ensures in
    let l = take c.from-n.result c.loads_of-all.result in
    let r = loads_taken t c.from-n.result c.loads_of-all.result c.from-n.ensures (omega (arith, g.n_high)) c.loads_of-all.ensures in
    let w = within_ready t g k b l (length l) r.0 r.1 in
    (w.0, omega (arith, most, w.1), w.2)

pub returns-then-most-due : goal.returns-then-most-due
unfolding D task no_task
returns-then-most-due c =
    let t = c.args.t.now in
    let g = c.requires in
    let k = c.loop-k.k in
    let b : k < t.n = omega arith in
    let most = ap₂ (λ (m d : ℕ). m * d) c.from-m.ensures c.from.ensures in
    let l = take c.from-n.result c.loads_of-all.result in
    let r = loads_taken t c.from-n.result c.loads_of-all.result c.from-n.ensures (omega (arith, g.n_high)) c.loads_of-all.ensures in
    let y = c.due_within-due in
    over_due t g k b l (length l) r.0 r.1 y.result (subst (λ (x : ℕ). x < y.result → x < owed l (length l) (D t k)) most y.ensures.over) (omega (arith, most, c.if-most-due.true))

pub chain_exceeds-requires : goal.chain_exceeds-requires
unfolding succ task no_task
chain_exceeds-requires c =
    let t = c.args.t.now in
    let g = c.requires in
    let k = c.loop-k.k in
    let b : k < t.n = omega arith in
    let l = take c.from-n.result c.loads_of-all.result in
    let r = loads_taken t c.from-n.result c.loads_of-all.result c.from-n.ensures (omega (arith, g.n_high)) c.loads_of-all.ensures in
    let w = chain_ready t g k b l (length l) r.0 r.1 in
    (w.0, omega (arith, w.1, c.from-m.ensures), w.2, w.3)

pub returns-then-chain_exceeds : goal.returns-then-chain_exceeds
unfolding D succ task no_task
returns-then-chain_exceeds c =
    let t = c.args.t.now in
    let g = c.requires in
    let k = c.loop-k.k in
    let b : k < t.n = omega arith in
    let most = ap₂ (λ (m d : ℕ). m * d) c.from-m.ensures c.from.ensures in
    let l = take c.from-n.result c.loads_of-all.result in
    let r = loads_taken t c.from-n.result c.loads_of-all.result c.from-n.ensures (omega (arith, g.n_high)) c.loads_of-all.ensures in
    let y = c.due_within-due in
    let within : y.result ≤ t.m * D t k = omega (arith, most, c.if-most-due.false) in
    let d = due_is t g k b l (length l) r.0 r.1 y.result (subst (λ (x : ℕ). y.result ≤ x → y.result ≡ owed l (length l) (D t k)) most y.ensures.within) within in
    let test = c.chain_exceeds.ensures ∙ ap₂ (λ (x m : ℕ). ltb (x - y.result) ((m - 1) * longest_of (succ t k) (row 16 (λ u. get_or t.costs (16 * k + u) 0)))) most c.from-m.ensures in
    over_spent t g k b l (length l) r.0 r.1 y.result d within (sym test ∙ c.if-chain_exceeds.true)

pub loop-k-preserved : goal.loop-k-preserved
unfolding D succ task no_task
loop-k-preserved c =
    let t = c.args.t.now in
    let g = c.requires in
    let k = c.loop-k.k in
    let b : k < t.n = omega arith in
    let most = ap₂ (λ (m d : ℕ). m * d) c.from-m.ensures c.from.ensures in
    let l = take c.from-n.result c.loads_of-all.result in
    let r = loads_taken t c.from-n.result c.loads_of-all.result c.from-n.ensures (omega (arith, g.n_high)) c.loads_of-all.ensures in
    let y = c.due_within-due in
    let within : y.result ≤ t.m * D t k = omega (arith, most, c.if-most-due.false) in
    let d = due_is t g k b l (length l) r.0 r.1 y.result (subst (λ (x : ℕ). y.result ≤ x → y.result ≡ owed l (length l) (D t k)) most y.ensures.within) within in
    let test = c.chain_exceeds.ensures ∙ ap₂ (λ (x m : ℕ). ltb (x - y.result) ((m - 1) * longest_of (succ t k) (row 16 (λ u. get_or t.costs (16 * k + u) 0)))) most c.from-m.ensures in
    one_more_lem t g k b l (length l) r.0 r.1 y.result d within (sym test ∙ c.if-chain_exceeds.false) c.loop-k.invariant

pub returns : goal.returns
returns c =
    let e : c.loop-k.k ≡ c.args.t.now.n = omega arith in
    yes_all c.args.t.now c.requires (rw e at c.loop-k.invariant)
