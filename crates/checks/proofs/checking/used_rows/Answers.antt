use mathlib.Core.List.{List, ◌++◌}
use mathlib.Core.Path.{ap, ◌∙◌}
use Prim.Native.Nat.{ℕ}
use lib.ListN.{drop}
use borrow.Author.Rules.{rules}
use Rattle.checks.proofs.TestLaws.{zeros, used_copied}
use Rattle.checks.proofs.checking.used_rows.Goals as goal

pub returns : goal.returns
returns c =
    let a = c.args in
    ap (λ (l : List ℕ). l ++ drop a.v zeros) c.copy_from_slice.ensures.after ∙ used_copied a.v a.succ c.requires (search rules)
