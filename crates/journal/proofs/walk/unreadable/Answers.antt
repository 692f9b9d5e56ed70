use mathlib.Core.Path.{ap₂}
use Prim.Native.Nat.{ℕ}
use mathlib.Core.Bool.{false}
use Rattle.journal.specs.Judging.{unread}
use Rattle.journal.proofs.walk.unreadable.Goals as goal

pub returns : goal.returns
unfolding unread
returns c = ap₂ (λ (n k : ℕ). record { number = n; place = k; row = 0; rows = 0; missed = false }) c.number.ensures c.place.ensures
