use mathlib.Core.List.{append_assoc}
use Rattle.text.specs.Text.{text}
use Rattle.text.specs.Page.{Adds}
use Rattle.lines.specs.Lines.{tick_line}
use Rattle.text.proofs.Pages.{then, same}
use Rattle.lines.proofs.Lined.{line_put}
use Rattle.lines.proofs.Length.{tick_most}
use Rattle.lines.proofs.TypedAnswers.{typed_answer}
use native.Mathlib.Omega.{arith}
use Prim.Native.Nat.{◌^◌, ◌<◌}
use Rattle.lines.proofs.ticking.tick_line.Goals as goal

pub returns : goal.returns
returns c =
    let a = c.args in
    let r : Adds c.new-page.result c.end_line.new.self (tick_line a.clock a.releases a.a a.live a.work) =
    unfold tick_line text in same (then c.labelled.ensures (then c.named.ensures (then c.answered.ensures c.end_line.ensures))) (simp (append_assoc, c.from.ensures)) in
    let clock : a.clock < 2 ^ 32 = omega arith in
    line_put c.new-page.ensures r (omega (arith, tick_most a.clock a.releases a.a a.live a.work clock (typed_answer a.a _ c.well_formed.1.1.0)))
