-- A JOB'S END CLOSES ITS GAP, as the theory has it: what a tick leaves of the jobs at places 0 .. P - 1 is a row of the K that go on, where `from q` is the
-- place that the q-th of them had. Place by place: those that go on from below place p are the first k, and the job at p, if it goes on, is the next of them,
-- because their order is kept and none is lost.
use mathlib.Core.Path.{◌≡◌, refl, ap}
use mathlib.Core.Logic.{◌⊎◌, ⊎_elim}
use Prim.Native.Nat.{ℕ, zero, suc, ◌+◌, ◌≤◌, ◌<◌}
use native.Mathlib.Omega.{arith}
use native.Mathlib.Decide.{ℕ_discrete, dec_lt}
use Rattle.theory.specs.Words.{sum}
use Rattle.theory.specs.Model as M
use Rattle.theory.specs.Runs as Run
use Rattle.theory.proofs.Rows as R

nothing : (v : ℕ) (f g : ℕ → M.Job) (fall : ℕ → ℕ → ℕ) → Run.Same v (R.row 0 g) (M.ticked v (R.row 0 f) fall)
unfolding R.row M.ticked
nothing v f g fall = Run.nil

module _ (v : ℕ) (f : ℕ → M.Job) (fall : ℕ → ℕ → ℕ) (P K : ℕ) (from : ℕ → ℕ) (made : ℕ → M.Job)
    (below : (q : ℕ) → q < K → from q < P)
    (next : (q : ℕ) → q + 1 < K → from q < from (q + 1))
    (same : (q : ℕ) → q < K → Run.SameJob v (made q) (M.after (f (from q)) (fall (from q))))
    (some : (q : ℕ) → q < K → 1 ≤ sum v (M.after (f (from q)) (fall (from q))).rem)
    (either : (p : ℕ) → p < P → (sum v (M.after (f p) (fall p)).rem ≤ 0) ⊎ ((q : ℕ) × (q < K) × (from q ≡ p))) where
  -- their order is kept, however far apart they stand
  order : (q r : ℕ) → q < r → r < K → from q < from r
  order q zero l h = absurd (omega arith)
  order q (suc r) l h =
      let n = next r (omega arith) in
      let e : r + 1 ≡ suc r = omega arith in
      let z = ap from e in
      elim (ℕ_discrete q r) [
        | yes d ↦ let y = ap from d in omega arith
        | no d ↦ let o = order q r (omega arith) (omega arith) in omega arith
      ]

  -- those that go on from below place p: the first k
  record Part (p : ℕ) : Type 0 where
    k : ℕ
    few : k ≤ K
    ins : (q : ℕ) → q < k → from q < p
    outs : (q : ℕ) → k ≤ q → q < K → p ≤ from q
    row : Run.Same v (R.row k made) (M.ticked v (R.row p f) fall)

  none_yet : Part 0
  none_yet = record { k = 0; few = omega arith; ins = λ q l. absurd (omega arith); outs = λ q l h. omega arith; row = nothing v f made fall }

  -- the job at place p ends
  drops : (p : ℕ) → sum v (M.after (f p) (fall p)).rem ≤ 0 → Part p → Part (suc p)
  drops p z w = record {
    k = w.k;
    few = w.few;
    ins = λ q l. let h = w.ins q l in omega arith;
    outs = λ q l h. elim (ℕ_discrete (from q) p) [
      | yes e ↦
          let s = some q h in
          let y = ap (λ (x : ℕ). sum v (M.after (f x) (fall x)).rem) e in
          absurd (omega arith)
      | no e ↦ let o = w.outs q l h in omega arith
    ];
    row = R.drop_place v f fall p w.k made w.row z;
  }

  -- it goes on, and is the next of them
  keeps : (p q : ℕ) → q < K → from q ≡ p → Part p → Part (suc p)
  keeps p q h e w = record {
    k = suc w.k;
    few = let y = next_is in omega arith;
    ins = λ r l. elim (ℕ_discrete r w.k) [
      | yes d ↦ let y = next_is in let z = ap from d in let x = ap from y in omega arith
      | no d ↦ let o = w.ins r (omega arith) in omega arith
    ];
    outs = λ r l b. let y = next_is in let o = order q r (omega arith) b in omega arith;
    row = R.keep_place v f fall p w.k made w.row made enough (λ r l. record { left = refl; rem = λ u b. refl }) this;
  }
    where
      next_is : w.k ≡ q
      next_is = elim (dec_lt q w.k) [
        | yes l ↦ let o = w.ins q l in absurd (omega arith)
        | no l ↦ elim (dec_lt w.k q) [
          | yes m ↦
              let o = order w.k q m h in
              let y = w.outs w.k (omega arith) (omega arith) in
              absurd (omega arith)
          | no m ↦ omega arith
        ]
      ]

      enough : 1 ≤ sum v (M.after (f p) (fall p)).rem
      enough = rw e at (some q h)

      this : Run.SameJob v (made w.k) (M.after (f p) (fall p))
      this = rw next_is (rw e at (same q h))

  upto : (p : ℕ) → p ≤ P → Part p
  upto zero h = none_yet
  upto (suc p) h =
      let w = upto p (omega arith) in
      ⊎_elim (λ z. drops p z w) (λ r. keeps p r.0 r.1 r.2 w) (either p h)

  pub closes_gaps : Run.Same v (R.row K made) (M.ticked v (R.row P f) fall)
  closes_gaps =
      let w = upto P (omega arith) in
      let few = w.few in
      let all : w.k ≡ K = elim (dec_lt w.k K) [
        | yes l ↦ let o = w.outs w.k (omega arith) l in let b = below w.k l in absurd (omega arith)
        | no l ↦ omega arith
      ] in
      rw all at w.row
