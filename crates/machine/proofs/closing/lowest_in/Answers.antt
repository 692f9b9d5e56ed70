-- The lowest member has as many zeros below it as its number says.
use Rattle.std.proofs.Common.{ℕ, Some, None, sym, ap, ◌∙◌, arith, rules}
use Rattle.graph.specs.Words.{bit}
use Rattle.graph.proofs.Facts.{lowest_or_none}
use Rattle.graph.proofs.Bits.{bit_zero, lowest, lowest_lt}
use Rattle.machine.proofs.Lowest.{lowest_or_is}
use Rattle.machine.proofs.closing.lowest_in.Goals as goal

pub returns-then-set-eq0 : goal.returns-then-set-eq0
returns-then-set-eq0 c = sym (lowest_or_none 16 _ Some None (λ j h. ap (λ (s : ℕ). bit s j) c.if-set-eq0.true ∙ bit_zero j))

pub returns-else-set-eq0 : goal.returns-else-set-eq0
returns-else-set-eq0 c =
    let s = c.args.set in
    let l = lowest 16 s (omega arith) (search rules) in
    sym (lowest_or_is 16 (bit s) Some None _ (record { below = lowest_lt 16 s (omega arith) (search rules); passes = l.here; none_lower = l.below }))
