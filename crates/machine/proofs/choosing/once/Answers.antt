use Rattle.std.proofs.Common.{◌≡◌, ℕ, ◌%◌, ◌<◌, List, length, get_or, take, sym, refl, ap, ◌∙◌, arith}
use Rattle.graph.specs.Words.{is_in}
use Rattle.graph.proofs.Facts.{length_row, row_at}
use Rattle.machine.proofs.Once.{once_none, once_new, once_again, once_all, any_is_in}
use Rattle.machine.proofs.choosing.once.Invariants.{numbers}
use Rattle.machine.proofs.choosing.once.Goals as goal
use Rattle.machine.proofs.choosing.once.Goals.{then-not-contains, else-not-contains}

pub loop-j-init : goal.loop-j-init
loop-j-init c = once_none _ _ refl

pub loop-j-preserved : goal.loop-j-preserved
loop-j-preserved c =
    let l = c.loop-j in
    let n = c.min-j-end in
    let ks = c.args.chosen.keys in
    let given : List ℕ = numbers n.result ks in
    let x : ℕ = get_or ks l.j 0 % 1024 in
    let b : l.j < length given = omega (arith, length_row n.result (λ j. get_or ks j 0 % 1024)) in
    let e : x ≡ get_or given l.j 0 = sym (row_at n.result (λ j. get_or ks j 0 % 1024) l.j 0 (omega arith)) in
    let z = l.invariant.room in
    let is : is_in x (take l.count l.keys) ≡ c.contains.result = sym (c.contains.ensures.value ∙ any_is_in x (take l.count l.keys)) in
    elim c.if-not-contains.branch [
      | then-not-contains w ↦ rw (w.keys-is, w.count-is) (once_new given l.j l.keys l.count l.invariant x b e (omega (arith, n.ensures)) (omega arith) (is ∙ w.if-not-contains.true))
      | else-not-contains w ↦ rw (w.keys-is, w.count-is) (once_again given l.j l.keys l.count l.invariant x b e (is ∙ w.if-not-contains.false))
    ]

pub returns : goal.returns
returns c =
    let l = c.loop-j in
    let n = c.min-j-end in
    let a = c.args.chosen in
    let r = once_all (numbers n.result a.keys) l.j l.keys l.count l.invariant (omega (arith, n.ensures)) (omega (arith, length_row n.result (λ j. get_or a.keys j 0 % 1024))) in
    (r.0, λ k. r.1 k ∙ ap (λ (i : ℕ). is_in k (numbers i a.keys)) n.ensures)
