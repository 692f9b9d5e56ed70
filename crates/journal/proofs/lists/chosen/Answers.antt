use mathlib.Core.Path.{◌≡◌, refl, subst, ◌∙◌}
use Prim.Native.Nat.{ℕ}
use native.Mathlib.Omega.{arith}
use lib.ListN.{length-set}
use Rattle.journal.proofs.SetTests.{KeptTo, one_kept, all_kept}
use Rattle.journal.proofs.lists.chosen.Goals as goal

pub loop-j-init : goal.loop-j-init
loop-j-init c = record { long = refl; kept = λ k h. absurd (omega arith) }

pub loop-j-preserved : goal.loop-j-preserved
loop-j-preserved c =
    let l = c.loop-j in record {
      long = length-set l.keys l.j _ ∙ l.invariant.long;
      kept = one_kept _ _ l.j l.keys _ l.invariant.kept (omega (arith, l.invariant.long)) c.key.ensures;
    }

pub returns : goal.returns
returns c =
    let l = c.loop-j in
    let r = c.args.row.now in
    let n = c.count-count in
    let e : l.j ≡ n.result = omega arith in
    all_kept r.bytes.now r.at n.result l.keys c.requires.vertices n.ensures.value (omega (arith, n.ensures.value, c.requires.few))
    (subst (λ (k : ℕ). KeptTo r.bytes.now r.at k l.keys) e l.invariant.kept)
