use mathlib.Core.Path.{◌≡◌, ◌∙◌, ap}
use Prim.Native.Nat.{ℕ}
use borrow.Author.Rules.{rules}
use lib.Bits.{bit_or}
use Rattle.std.specs.Prelude.{fold}
use Rattle.graph.specs.Words.{bit}
use Rattle.graph.proofs.Settle.{or_all}
use Rattle.graph.proofs.led_from_all.Goals as goal

pub returns : goal.returns
returns c =
    let e : c.fold.result ≡ fold bit_or 0 c.args.succ = search rules in
    λ w. ap (λ (n : ℕ). bit n w) e ∙ or_all c.args.succ (search rules) w
