-- A CERTIFICATE: what a verdict that accepts a table comes to. The table is good, and no run of it, whatever time each vertex takes within its cost, is
-- ever late. The theory makes one from document 01's verdict here; from the sharp one in Sharpened. All that follows goes by the certificate alone.
use mathlib.Core.Path.{◌≡◌}
use mathlib.Core.List.{List}
use Prim.Native.Nat.{ℕ}
use Rattle.table.specs.declared.Table.{Table}
use Rattle.table.specs.declared.Outcome.TheVariants.{Read}
use Rattle.table.specs.Reading.{read}
use Rattle.table.specs.Good.{GoodTable}
use Rattle.verdict.proofs.Accepts.{Enough, accepted}
use Rattle.theory.specs.Model as M
use Rattle.theory.specs.Runs as Run
use Rattle.theory.specs.Verdicts.{no_spare, Early}
use Rattle.theory.proofs.RunKinds.{actual_regular}
use Rattle.theory.proofs.Plain.{plain_early, passes_spared}
use Rattle.promise.specs.Runs.{table_of}
use Rattle.promise.specs.Demand3.{OldAccepts, none}
use Rattle.promise.proofs.Bridge.{model, sane, accepts}

pub record Certified (t : Table) (spare : ℕ → ℕ) : Type 0 where
  pub good : GoodTable t
  -- in each state of a run every live job is ahead of its deadline, and every chain of it ends so much before
  pub early : (p : Run.Phase) (s : M.State) → Run.Reach (model t) (Run.actual (model t)) p s → Early (model t) spare s

-- a verdict is backed if each file that it accepts is read, and its table certified
abbrev pub Backed : (List ℕ → Type 0) → (Table → ℕ → ℕ) → Type 0
Backed Accepts spare = (file : List ℕ) → Accepts file → ((read file).outcome ≡ Read) × Certified (table_of file) (spare (table_of file))

-- document 01's verdict: each job is counted whole, so a time may be anything up to the cost
pub old_certified : (t : Table) → GoodTable t → Enough t → Certified t no_spare
old_certified t good enough = record {
  good = good;
  early = λ p s r. plain_early (model t) (sane t good) no_spare (passes_spared (model t) (accepts t good enough)) (Run.actual (model t)) (actual_regular (model t)).valid r;
}

pub old_backed : Backed OldAccepts none
unfolding table_of
old_backed file v = let a = accepted file v in (a.read_well, old_certified (read file).table a.good a.margins)
