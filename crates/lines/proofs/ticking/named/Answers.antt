use Rattle.text.proofs.Pages.{then}
use Rattle.lines.proofs.ticking.named.Goals as goal

pub returns : goal.returns
returns c = then c.words.ensures c.numbers_in.ensures
