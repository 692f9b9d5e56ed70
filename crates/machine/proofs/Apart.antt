-- A state's tasks taken apart: what the set of live slots, the deadlines, the waits and the ticks left are, by task and age place.
use Rattle.std.proofs.Common.{◌≡◌, ℕ, zero, suc, ◌+◌, ◌*◌, ◌/◌, ◌%◌, ◌<◌, Bool, true, false, List, [], ◌∷◌, length, get_or, sym, refl, ap, ◌∙◌, arith}
use Rattle.graph.specs.Words.{pick, bit, row, set_of}
use Rattle.graph.proofs.Facts.{clash, row_at}
use Rattle.graph.proofs.Sets.{bit_set}
use Rattle.machine.specs.declared.Job.{Job}
use Rattle.machine.specs.declared.Job.TheVariants.{Nothing, Live}
use Rattle.machine.specs.declared.TaskState.{TaskState}
use Rattle.machine.specs.declared.State.{State}
use Rattle.machine.specs.States.{no_job, idle, task_of, wait, job_at, is_live, deadline_of, live, deadline, ticks_left, left}
use Rattle.machine.specs.Rows.{no_task, job_in}

-- what is read inside a list does not depend on what stands for its outside
pub inside {ℓ} : {X : Type ℓ} (l : List X) (i : ℕ) (d e : X) → i < length l → get_or l i d ≡ get_or l i e
inside [] i d e b = absurd (omega arith)
inside (x ∷ l) zero d e b = refl
inside (x ∷ l) (suc i) d e b = inside l i d e (omega arith)

-- a place without a job has no deadline
off : (j : Job) → is_live j ≡ false → 0 ≡ deadline_of j
unfolding is_live deadline_of
off Nothing e = refl
off (Live d) e = absurd (clash refl e)

-- a slot by its age place and task
pub slot_of : (s : ℕ) → 16 * (s / 16) + s % 16 ≡ s
slot_of s = omega arith

pub record Apart (st : State) (in_it : ℕ) (deadlines waits : List ℕ) : Type 0 where
  pub lives : (i p : ℕ) → i < 16 → p < 4 → bit in_it (16 * p + i) ≡ live st i p
  pub ends : (i p : ℕ) → i < 16 → p < 4 → get_or deadlines (16 * p + i) 0 ≡ deadline st i p
  pub rests : (i : ℕ) → i < 16 → get_or waits i 0 ≡ wait st i

module _ (st : State) (sixteen : length st.tasks ≡ 16) where
  job_in_lem : (i p : ℕ) → i < 16 → p < 4 → job_in st.tasks (16 * p + i) ≡ job_at st i p
  unfolding job_at task_of
  job_in_lem i p b c =
      let e : (16 * p + i) % 16 ≡ i = omega arith in
      let f : (16 * p + i) / 16 ≡ p = omega arith in
      ap (λ (k : ℕ). (get_or (get_or st.tasks k no_task).jobs ((16 * p + i) / 16) no_job)) e
      ∙ ap (λ (k : ℕ). (get_or (get_or st.tasks i no_task).jobs k no_job)) f
      ∙ ap (λ (x : TaskState). (get_or x.jobs p no_job)) (inside st.tasks i no_task idle (omega arith))

  pub apart : (in_it : ℕ) (deadlines waits : List ℕ) → in_it ≡ set_of 64 (λ s. is_live (job_in st.tasks s))
      → deadlines ≡ row 64 (λ s. pick (bit in_it s) (deadline_of (job_in st.tasks s)) 0) → waits ≡ row 16 (λ i. (get_or st.tasks i no_task).wait)
      → Apart st in_it deadlines waits
  unfolding live deadline wait task_of
  apart in_it deadlines waits a d w = record {
    lives = lives;
    ends = λ i p b c.
        ap (λ (l : List ℕ). get_or l (16 * p + i) 0) d ∙ row_at 64 _ (16 * p + i) 0 (omega arith)
        ∙ go (16 * p + i) (bit in_it (16 * p + i)) (in_bit (16 * p + i) (omega arith)) ∙ ap deadline_of (job_in_lem i p b c);
    rests = λ i b. ap (λ (l : List ℕ). get_or l i 0) w ∙ row_at 16 _ i 0 b ∙ ap (λ (x : TaskState). x.wait) (inside st.tasks i no_task idle (omega arith));
  }
    where
      in_bit : (s : ℕ) → s < 64 → bit in_it s ≡ is_live (job_in st.tasks s)
      in_bit s b = ap (λ (x : ℕ). bit x s) a ∙ bit_set 64 _ s b

      lives : (i p : ℕ) → i < 16 → p < 4 → bit in_it (16 * p + i) ≡ is_live (job_at st i p)
      lives i p b c = in_bit (16 * p + i) (omega arith) ∙ ap is_live (job_in_lem i p b c)

      go : (s : ℕ) (c : Bool) → c ≡ is_live (job_in st.tasks s) → pick c (deadline_of (job_in st.tasks s)) 0 ≡ deadline_of (job_in st.tasks s)
      go s true e = refl
      go s false e = off (job_in st.tasks s) (sym e)

-- ---- the ticks left of the live slots
abbrev pub ticks_in : ℕ → List ℕ → ℕ → List ℕ
ticks_in in_it deadlines clock = row 64 (λ s. pick (bit in_it s) (ticks_left (get_or deadlines s 0) clock) 0)

pub left_at : (st : State) (in_it : ℕ) (deadlines waits : List ℕ) → Apart st in_it deadlines waits → (i p : ℕ) → i < 16 → p < 4 → live st i p ≡ true
    → get_or (ticks_in in_it deadlines st.clock) (16 * p + i) 0 ≡ left st i p
unfolding left
left_at st in_it deadlines waits a i p b c e =
    row_at 64 _ (16 * p + i) 0 (omega arith)
    ∙ ap (λ (x : Bool). pick x (ticks_left (get_or deadlines (16 * p + i) 0) st.clock) 0) (a.lives i p b c ∙ e)
    ∙ ap (λ (d : ℕ). ticks_left d st.clock) (a.ends i p b c)
