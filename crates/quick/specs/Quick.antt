-- Document 02, M-105, "A quick yes or no".
use Rattle.std.specs.Prelude.{Bool, List, ℕ, eqb}
use Rattle.verdict.specs.Verdicts.{verdict}

-- "The answer is yes exactly if the full verdict is 0."
unfoldable pub quick : List ℕ → Bool
quick s = eqb (verdict s).number 0
