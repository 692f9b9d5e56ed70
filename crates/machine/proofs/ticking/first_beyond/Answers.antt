use Rattle.std.proofs.Common.{◌≡◌, ℕ, Bool, true, false, ◌&&◌, leb, Some, None, sym, ap, ◌∙◌, rules, tests, arith}
use Rattle.std.proofs.lemmas.Iterator.{first_from_Range}
use Rattle.graph.specs.Words.{bit}
use Rattle.graph.proofs.Facts.{lowest_or_none}
use Rattle.graph.proofs.Bits.{bit_zero}
use Rattle.machine.proofs.Chains.{found_is}
use Rattle.machine.proofs.ticking.first_beyond.Goals as goal

pub returns-then-named-eq0 : goal.returns-then-named-eq0
returns-then-named-eq0 c =
    let a = c.args in
    sym (lowest_or_none 16 (λ i. bit a.named i && leb a.n i) Some None (λ j h. ap (λ (x : Bool). x && leb a.n j) (ap (λ (s : ℕ). bit s j) c.if-named-eq0.true ∙ bit_zero j)))

pub returns : goal.returns
returns c =
    let a = c.args in
    let beyond : ℕ → Bool = λ i. bit a.named i && leb a.n i in
    found_is 16 16 beyond (omega arith) (λ k low b. absurd (omega arith)) c.find.result
    (first_from_Range _ _ _ _ (λ i. beyond i ≡ true) (λ i. beyond i ≡ false) c.find.ensures.ran
    (λ x q k. search (rules, tests)) (λ x q k. search (rules, tests)))
