-- The loop's invariant: taking out what is left gives the whole, and there is room for it.
use mathlib.Core.Path.{◌≡◌}
use Prim.Native.Nat.{◌^◌, ◌<◌}
use lib.ListN.{length}
use Rattle.graph.specs.Words.{members}
use Rattle.graph.specs.Order.{passed_all, best_all}
use Rattle.graph.proofs.Order.{Room}
use Rattle.graph.proofs.pass_on.Given as goal

abbrev pub invariant-loop-u : goal.invariant-loop-u
invariant-loop-u l =
    let rest = members l.u-iterator.rest in
    (l.u-iterator.rest < 2 ^ 16)
    × (length l.starts ≡ 16)
    × Room l.starts (length rest) 68719476736
    × (passed_all l.succ l.times l.starts rest ≡ passed_all l.succ l.times l.initial.starts (members l.set))
    × (best_all l.succ l.times l.starts l.most rest ≡ best_all l.succ l.times l.initial.starts l.best (members l.set))
