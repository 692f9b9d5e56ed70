use Rattle.text.proofs.Pages.{grown}
use Rattle.text.proofs.page.Page.number.Goals as goal

pub returns : goal.returns
returns g c = grown c.put_decimal-n.ensures.0 c.put_decimal-n.ensures.1 c.grow.ensures.bytes c.grow.ensures.len
