use mathlib.Core.Path.{◌≡◌, ap, ◌∙◌}
use mathlib.Core.List.{◌++◌}
use Prim.Native.Nat.{ℕ}
use native.Mathlib.Omega.{arith}
use borrow.Author.Rules.{rules}
use lib.ListN.{length, length-take}
use lib.Seq.{get_or-take}
use Rattle.graph.specs.Words.{in_order}
use Rattle.text.specs.Text.{text, decimal}
use Rattle.text.proofs.Pages.{then, same, none_yet, one_more}
use Rattle.reports.specs.Report.{vertex_at}
use Rattle.reports.proofs.printing.chain.Goals as goal

pub loop-vertex-init : goal.loop-vertex-init
loop-vertex-init g c = none_yet _ _

pub loop-vertex-preserved : goal.loop-vertex-preserved
unfolding vertex_at text
loop-vertex-preserved g c =
    let i = c.loop-vertex.vertex-index in
    let x = c.from-in-loop-vertex.ensures ∙ get_or-take c.from.result c.args.chain i 0 (omega (arith, length-take c.from.result c.args.chain)) in
    one_more i (vertex_at c.args.chain) c.loop-vertex.invariant (same c.labelled.ensures (ap (λ (x : ℕ). text " " ++ decimal x) x))

pub returns : goal.returns
unfolding text
returns g c =
    let l = c.loop-vertex in
    let n : length c.args.chain ≡ 16 = search rules in
    let e : l.vertex-index ≡ c.args.count = omega (arith, length-take c.from.result c.args.chain) in
    then (then c.words.ensures (same l.invariant (ap (λ (k : ℕ). in_order k (vertex_at c.args.chain)) e))) c.end_line.ensures
