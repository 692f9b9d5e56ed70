-- THE CHAIN OF A SHARP VERDICT: of each file that is read, the longest chain by name of the task that is named, as for the old verdict (M-102). True
-- because a sharp verdict is the answer that names its task, and such an answer hands on that task's chain.
use mathlib.Core.Path.{◌≡◌, sym, subst}
use mathlib.Core.List.{List}
use Prim.Native.Nat.{ℕ}
use Rattle.table.specs.declared.Table.{Table}
use Rattle.table.specs.declared.Outcome.TheVariants.{Read}
use Rattle.table.specs.Reading.{read}
use Rattle.table.specs.Good.{GoodTable}
use Rattle.table.proofs.Sound.{read_good}
use Rattle.verdict.proofs.Named.{NamesChain, names_chain}
use Rattle.sharp.specs.Sharp.{sharp_margin, sharp_naming, sharp_on, sharp}
use Rattle.sharp.proofs.Says.{sharp_got, sharp_names, sharp_named_below}

-- every good table
pub sharp_table_chain : (t : Table) → GoodTable t → NamesChain t (sharp_on t)
unfolding sharp_naming
sharp_table_chain t good =
    subst (NamesChain t) (sym (sharp_names t good))
    (names_chain t good (sharp_on t).task (sharp_named_below t good) (sharp_on t).number (sharp_margin t (sharp_on t).task))

-- EVERY FILE THAT IS READ; of one that is not, `Unreadable` says that there is no chain
pub sharp_chain : (s : List ℕ) → (read s).outcome ≡ Read → NamesChain (read s).table (sharp s)
sharp_chain s e = subst (NamesChain (read s).table) (sym (sharp_got s e)) (sharp_table_chain (read s).table (read_good s e))
