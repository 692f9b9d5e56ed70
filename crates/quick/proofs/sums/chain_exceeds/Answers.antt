use mathlib.Core.Path.{sym, ap}
use Prim.Native.Nat.{ℕ, ◌*◌}
use native.Mathlib.Omega.{arith}
use native.Mathlib.Nat.{le_trans, mul-le-mul_left}
use lib.Dec.{ltb}
use borrow.Author.Tests.{le-ltb}
use Rattle.verdict.proofs.Figured.{product_fits}
use Rattle.quick.proofs.sums.chain_exceeds.Goals as goal

pub overflow_mul-widest : goal.overflow_mul-widest
overflow_mul-widest c = product_fits _ _ (omega arith) (omega arith)

-- no chain is longer than vol
pub returns-then-widest-room : goal.returns-then-widest-room
returns-then-widest-room c = let h = mul-le-mul_left c.args.times c.requires.3 in sym (le-ltb _ _ (le_trans h c.if-widest-room.true))

pub overflow_mul-chain : goal.overflow_mul-chain
overflow_mul-chain c = product_fits _ _ (omega arith) (omega (arith, c.len_of-len.ensures))

pub returns : goal.returns
returns c = ap (λ (x : ℕ). ltb c.args.room (c.args.times * x)) c.len_of-len.ensures
