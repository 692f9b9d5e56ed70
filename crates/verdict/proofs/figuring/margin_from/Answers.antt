use mathlib.Core.Path.{ap₂, ◌∙◌}
use Prim.Native.Nat.{ℕ, ◌+◌, ◌*◌}
use native.Mathlib.Omega.{arith}
use lib.IntN.{pos, ◌-ℤ◌}
use mir.Syntax.{w64}
use mir.Val.{SFits}
use mir.Facts.{to_z-of_z}
use Rattle.verdict.proofs.Figured.{spent_within, allowed_within}
use Rattle.verdict.proofs.figuring.margin_from.Goals as goal

pub overflow_mul-fewer : goal.overflow_mul-fewer
overflow_mul-fewer c =
    omega (arith, spent_within c.from-fewer.result c.min-chain.result c.min-work.result (omega arith) (omega arith) (omega arith))

pub overflow_add-fewer : goal.overflow_add-fewer
overflow_add-fewer c =
    omega (arith, spent_within c.from-fewer.result c.min-chain.result c.min-work.result (omega arith) (omega arith) (omega arith))

pub less-requires : goal.less-requires
less-requires c = (
  omega (arith, allowed_within c.from.result c.from-2.result (omega arith) (omega arith)),
  omega (arith, spent_within c.from-fewer.result c.min-chain.result c.min-work.result (omega arith) (omega arith) (omega arith)),
)

pub returns : goal.returns
returns c =
    let f : SFits w64 c.less.result = record { sfits = c.less.type_inv } in
    to_z-of_z f
    ∙ c.less.ensures
    ∙ ap₂ (λ (x y : ℕ). pos x -ℤ pos y)
    (ap₂ (λ (x y : ℕ). x * y) c.from.ensures c.from-2.ensures)
    (ap₂ (λ (x y : ℕ). x + y) (ap₂ (λ (x y : ℕ). x * y) (c.from-fewer.ensures ∙ c.saturating_sub.ensures) c.min-chain.ensures) c.min-work.ensures)
