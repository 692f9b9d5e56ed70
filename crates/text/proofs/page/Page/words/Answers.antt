use mathlib.Core.Path.{refl}
use Rattle.text.proofs.Pages.{grown}
use Rattle.text.proofs.page.Page.words.Goals as goal

pub returns : goal.returns
returns g c = grown c.put_bytes.ensures refl c.grow.ensures.bytes c.grow.ensures.len
