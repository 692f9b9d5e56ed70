use mir.Syntax.{w64}
use mir.Val.{SFits}
use mir.Facts.{to_z-of_z}
use Rattle.verdict.proofs.Judged.{chain_listed}
use borrow.Author.Rules.{rules}
use Rattle.verdict.proofs.judging.with_chain.Goals as goal

pub returns : goal.returns
returns c =
    let a = c.args in
    let f = c.longest_chain-count in
    let s : SFits w64 a.d.margin = search rules in
    let z = to_z-of_z s in
    chain_listed a.d a.succ a.own f.result _ f.ensures z
