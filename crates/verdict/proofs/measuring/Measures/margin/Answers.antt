use Rattle.std.proofs.Common.{ℕ, ◌+◌, ◌*◌, ◌-◌, ◌^◌, min, get_or, pos, ◌-ℤ◌, ap, ◌∙◌, w64}
use mir.Val.{SFits}
use mir.Facts.{to_z-of_z}
use Rattle.verdict.specs.Measured.{margin_in}
use Rattle.verdict.proofs.measuring.Measures.margin.Goals as goal

pub returns : goal.returns
unfolding margin_in
returns c =
    let r = c.margin_from in
    let f : SFits w64 r.result = record { sfits = r.type_inv } in
    let x = c.args.self.now in
    to_z-of_z f ∙ r.ensures
    ∙ ap (λ (y : ℕ). pos (x.m * get_or x.deadlines c.args.k 0) -ℤ pos ((x.m - 1) * min (get_or x.lens c.args.k 0) (2 ^ 53) + min y (2 ^ 53))) c.due.ensures
