use Rattle.text.proofs.Pages.{then}
use Rattle.text.proofs.page.Page.labelled.Goals as goal

pub returns : goal.returns
returns g c = then c.words.ensures c.number.ensures
