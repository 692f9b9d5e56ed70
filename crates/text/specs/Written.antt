-- A page of n bytes with a text on it: what a report and a line of a run are handed over as.
use Rattle.std.specs.Prelude.{List, ℕ, ◌-◌, ◌++◌, length, replicate}
use Rattle.text.specs.declared.page.Page.{Page}

-- a text at its front, zeros behind it, and its length, if the text fits
unfoldable pub written : (n : ℕ) → List ℕ → Page n
written n words = record { bytes = words ++ replicate (n - length words) 0; len = length words }
