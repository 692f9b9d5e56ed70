-- The sixteen that are written are those of the slot's task.
use Rattle.std.proofs.Common.{◌≡◌, ℕ, ◌+◌, ◌-◌, ◌*◌, ◌%◌, List, length, get_or, take, drop, refl, ap, ◌∙◌, arith, rules}
use Rattle.std.proofs.lemmas.List.{places}
use Rattle.machine.proofs.Putting.{copied, put_all}
use Rattle.machine.proofs.lent.put_slot.Goals as goal

pub returns : goal.returns
returns c =
    let a = c.args in
    let n : length (take (16 * a.s + 16 - 16 * a.s) (drop (16 * a.s) a.remaining.now)) ≡ 16 = search rules in
    let part = c.copy_from_slice.new.self in
    put_all _ _ _ 16 _ (copied a.costs.now a.s _ a.remaining.now part c.requires (search rules) (omega arith) (c.copy_from_slice.ensures.len ∙ n) (λ w b.
    let z : 16 * (a.s % 16) + w ≡ (16 * a.s + w) % 256 = omega arith in
    ap (λ (l : List ℕ). get_or l w 0) c.copy_from_slice.ensures.after ∙ search (rules, places, z))) refl
