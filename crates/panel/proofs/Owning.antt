-- What owning a face state tells of the lengths of its rows: a struct that is handed over has arrays of their declared lengths, and so has each struct in
-- its arrays.
use mathlib.Core.Path.{◌≡◌}
use mathlib.Core.List.{List, [], ◌∷◌}
use Prim.Native.Nat.{ℕ, zero, suc, ◌<◌}
use native.Mathlib.Omega.{arith}
use lib.ListN.{length, get_or}
use mir.Val.{Val}
use base.Fml.{Fml}
use denote.Shadow.{shadow}
use denote.Array.{each}
use denote.Struct.Declared as declared
use borrow.Author.Rules.{rules}
use Rattle.machine.proofs.Filling.{length_mapped}
use Rattle.panel.specs.declared.FaceJobs.{FaceJobs}
use Rattle.panel.specs.declared.FaceState.{FaceState}
use Rattle.panel.specs.States.{no_face_jobs, jobs_at}
use Rattle.panel.specs.contracts.FaceState.{the_type}
use Rattle.panel.specs.contracts.FaceJobs.{the_row as jobs}
use Rattle.panel.proofs.Crossing.{Sized}

each_at : (X : Type 0) (R : X → List Val → Fml) (xs : List X) (us : List Val) (d : X) (i : ℕ) → i < length xs → shadow (each X R xs us)
    → (u : Val) × shadow (R (get_or xs i d) (u ∷ []))
each_at X R [] us d i b h = absurd (omega arith)
each_at X R (x ∷ xs) [] d i b h = absurd h
each_at X R (x ∷ xs) (u ∷ us) d zero b h = (u, h.0)
each_at X R (x ∷ xs) (u ∷ us) d (suc i) b h = each_at X R xs us d i (omega arith) h.1

module _ (f : FaceState) (vs : List Val) (good : shadow ((declared.row the_type).own_val f vs)) where
  sixteen : length f.tasks ≡ 16
  sixteen = search (length_mapped, rules)

  two : length f.pad ≡ 2
  two = search rules

  four_deadlines : (i : ℕ) → i < 16 → length (jobs_at f i).deadline ≡ 4
  unfolding jobs_at
  four_deadlines i b =
      let n = sixteen in
      let h = good.1.1.1.1.1.1.1.0.1 in
      (each_at FaceJobs jobs.own_val f.tasks _ no_face_jobs i (omega arith) h.1).1.1.1.1.0.1.0.1

  four_lives : (i : ℕ) → i < 16 → length (jobs_at f i).live ≡ 4
  unfolding jobs_at
  four_lives i b =
      let n = sixteen in
      let h = good.1.1.1.1.1.1.1.0.1 in
      (each_at FaceJobs jobs.own_val f.tasks _ no_face_jobs i (omega arith) h.1).1.1.1.1.1.0.1.0.1

  pub sized : Sized f
  sized = record { rows = sixteen; pads = two; deadlines = four_deadlines; lives = four_lives }
