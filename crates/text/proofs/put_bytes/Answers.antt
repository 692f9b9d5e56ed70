use mathlib.Core.Path.{◌≡◌, ap, ◌∙◌}
use mathlib.Core.List.{List, ◌++◌}
use Prim.Native.Nat.{ℕ, ◌+◌, ◌-◌}
use native.Mathlib.Omega.{arith}
use lib.ListN.{take, drop}
use Rattle.text.proofs.Laying.{laid_mid}
use Rattle.text.proofs.put_bytes.Goals as goal

pub returns : goal.returns
returns c =
    let a = c.args in
    let from = c.min-from.result in
    let n = c.min-n.result in
    let k : from + n - from ≡ n = omega arith in
    let after : c.copy_from_slice.new.self ≡ take n a.words.now = c.copy_from_slice.ensures.after in
    ap (λ (new : List ℕ). take from a.out.now ++ (new ++ drop (from + n - from) (drop from a.out.now))) after
    ∙ ap (λ (j : ℕ). take from a.out.now ++ (take n a.words.now ++ drop j (drop from a.out.now))) k
    ∙ laid_mid a.out.now a.at a.words.now from n c.min-from.ensures c.min-n.ensures
