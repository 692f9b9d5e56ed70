use mathlib.Core.Path.{ap₂}
use mathlib.Core.List.{[]}
use Prim.Native.Nat.{ℕ}
use lib.IntN.{pos}
use Rattle.graph.specs.Words.{row_from, row}
use Rattle.verdict.specs.Verdicts.{in_places, unread}
use Rattle.verdict.proofs.judging.unread.Goals as goal

pub returns : goal.returns
unfolding unread in_places row row_from
returns c = ap₂ (λ (n p : ℕ). record { number = n; place = p; task = 255; margin = pos 0; count = 0; chain = in_places [] }) c.number.ensures c.place.ensures
