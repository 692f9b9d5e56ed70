-- Past the sixteenth no number is named.
use Rattle.std.proofs.Common.{◌≡◌, ℕ, Bool, true, false, ◌&&◌, ltb, get_or, ap, rules, tests, arith}
use Rattle.std.proofs.lemmas.Iterator.{first_from_Range}
use Rattle.graph.specs.Words.{bit}
use Rattle.graph.proofs.Bits.{bit_past}
use Rattle.machine.proofs.Chains.{found_is}
use Rattle.machine.proofs.lent.first_early.Goals as goal

pub returns : goal.returns
returns c =
    let a = c.args in
    let early : ℕ → Bool = λ i. bit a.named i && ltb 0 (get_or a.waits.now i 0) in
    found_is a.n c.min.result early (omega (arith, c.min.ensures))
    (λ k low b. ap (λ (x : Bool). x && ltb 0 (get_or a.waits.now k 0)) (bit_past a.named 16 k (omega arith) (omega (arith, c.min.ensures))))
    c.find.result
    (first_from_Range _ _ _ _ (λ i. early i ≡ true) (λ i. early i ≡ false) c.find.ensures.ran
    (λ x q k. search (rules, tests)) (λ x q k. search (rules, tests)))
