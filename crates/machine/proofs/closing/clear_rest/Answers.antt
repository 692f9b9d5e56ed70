use Rattle.std.proofs.Common.{◌≡◌, ℕ, ◌+◌, ◌-◌, ◌*◌, length, take, drop, ap, ◌∙◌, arith, rules, replicate}
use Rattle.machine.proofs.Gaps.{slot_cleared}
use Rattle.machine.proofs.closing.clear_rest.Goals as goal

pub returns : goal.returns
returns c =
    let a = c.args in
    let n : length (take (16 * a.s + 16 - 16 * a.s) (drop (16 * a.s) a.remaining.now)) ≡ 16 = search rules in
    slot_cleared a.s _ a.remaining.now c.fill.new.self c.requires (search rules) (omega arith)
    (c.fill.ensures.after (λ y e. search rules) ∙ ap (λ (n : ℕ). replicate n 0) n)
