-- How a page of n bytes is filled: text put on it, part behind part.
use Rattle.std.specs.Prelude.{◌≡◌, List, ℕ, ◌+◌, ◌-◌, min, length, replicate}
use Rattle.text.specs.Laid.{laid}
use Rattle.text.specs.declared.page.Page.{Page}

-- with nothing on it
unfoldable pub blank : (n : ℕ) → Page n
blank n = record { bytes = replicate n 0; len = 0 }

-- what putting some words on it does: they stand behind what was on it, and what does not fit is cut off
pub record Adds {n : ℕ} (old new : Page n) (words : List ℕ) : Type 0 where
  pub bytes : new.bytes ≡ laid old.bytes old.len words
  pub len : new.len ≡ old.len + min (length words) (length old.bytes - old.len)
