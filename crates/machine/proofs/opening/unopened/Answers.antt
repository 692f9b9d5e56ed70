use Rattle.std.proofs.Common.{refl}
use Rattle.machine.specs.States.{unopened}
use Rattle.machine.proofs.opening.unopened.Goals as goal

pub returns : goal.returns
unfolding unopened
returns c = rw (c.zeros.ensures, c.unread.ensures) refl
