-- THE SHARP VERDICT'S CERTIFICATE (document 02, M-107). Its tails are the theory's: they fall along each edge by the next vertex's cost at least, and
-- by just that along one. What it counts as due is what the theory counts, since a vertex from v on costs nothing.
use mathlib.Core.Path.{◌≡◌, ◌∙◌}
use mathlib.Core.Logic.{⊎_elim}
use Prim.Native.Nat.{ℕ, ◌+◌, ◌*◌, ◌-◌, ◌≤◌, ◌<◌}
use native.Mathlib.Omega.{arith}
use Rattle.graph.specs.Words.{sum}
use Rattle.graph.proofs.Facts.{sum_same, sum_upto}
use Rattle.table.specs.declared.Table.{Table}
use Rattle.table.specs.Memory.{vertices, D, T}
use Rattle.table.specs.Good.{GoodTable}
use Rattle.table.specs.Reading.{read}
use Rattle.verdict.specs.Verdicts.{len, rounded_up}
use Rattle.sharp.specs.Sharp.{tail_of, asked, due_from, sharp_due}
use Rattle.sharp.proofs.Tails.{tail_falls, tail_ends, tail_within}
use Rattle.sharp.proofs.Accepts.{sharp_accepted}
use Rattle.theory.specs.Words.{ceil}
use Rattle.theory.specs.Runs as Run
use Rattle.theory.specs.Verdicts as W
use Rattle.theory.specs.Verdicts.{no_spare}
use Rattle.theory.proofs.RunKinds.{actual_regular}
use Rattle.theory.proofs.Spare.{sharp_spared}
use Rattle.theory.proofs.Sharp.{spared_early}
use Rattle.promise.specs.Runs.{table_of}
use Rattle.promise.specs.Demand3.{SharpAccepts, none}
use Rattle.promise.proofs.Bridge.{sums, model, model_by, sane}
use Rattle.promise.proofs.Certified.{Certified, Backed}

module _ (t : Table) (good : GoodTable t) where
  -- ---- the tails
  ends : (i : ℕ) → i < t.n → (u : ℕ) → W.Ends (model t) (tail_of t) i u
  unfolding model model_by
  ends i b u =
      let v = (good.each i b).v_high in
      ⊎_elim (λ z. W.stop z) (λ r. W.via r.0 (omega (arith, r.1)) r.2 r.3) (tail_ends t good i b u)

  pub tails : W.Tails (model t) (tail_of t)
  unfolding model model_by
  tails = record { falls = λ i b u w l₁ l₂ e. tail_falls t good i b u w e; ends = λ i b u l. ends i b u }

  -- ---- what is due
  asks : (k i h : ℕ) → i < t.n → W.sharp (model t) (tail_of t) i (D t k - h * T t i) ≡ sum (vertices t i) (asked t k i h)
  unfolding W.sharp model model_by asked
  asks k i h b = sums 16 _ ∙ sum_upto (vertices t i) 16 _ (good.each i b).v_high (λ u l z. let c = (good.each i b).unused u l z in omega arith)

  same_due : (k : ℕ) → W.due (model t) (W.sharp (model t) (tail_of t)) (D t k) ≡ sharp_due t k
  unfolding W.due model model_by sharp_due due_from rounded_up ceil
  same_due k = sums t.n _ ∙ sum_same t.n _ _ (λ i b. sums (ceil (D t k) (T t i)) _ ∙ sum_same (ceil (D t k) (T t i)) _ _ (λ h l. asks k i h b))

  -- ---- the certificate
  module _ (soon : (k : ℕ) → k < t.n → len t k ≤ D t k) (enough : (k : ℕ) → k < t.n → (t.m - 1) * len t k + sharp_due t k ≤ t.m * D t k) where
    accepts : W.Sharp (model t) (tail_of t)
    unfolding model model_by
    accepts = record {
      len = len t;
      long = λ k b u l. tail_within t good k b u l;
      soon = soon;
      fits = λ k b. let z = same_due k in let y = enough k b in omega arith;
    }

    pub sharp_certified : Certified t no_spare
    sharp_certified = record {
      good = good;
      early = λ p s r. spared_early (model t) (tail_of t) tails (sane t good) no_spare (sharp_spared (model t) (tail_of t) accepts) (Run.actual (model t)) (actual_regular (model t)) r;
    }

pub sharp_backed : Backed SharpAccepts none
unfolding table_of
sharp_backed file v = let a = sharp_accepted file v in (a.read_well, sharp_certified (read file).table a.good a.soon a.margins)
