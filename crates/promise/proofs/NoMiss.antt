-- RELEASES THAT NOBODY SPACED: a tick of the machine's own is answered 0, or it refuses the releases and changes nothing; never 34.
use mathlib.Core.Path.{◌≡◌, refl, sym, ap, subst, ◌∙◌}
use mathlib.Core.Bool.{true}
use mathlib.Core.List.{List}
use Prim.Native.Nat.{ℕ, zero, suc, ◌^◌, ◌<◌}
use native.Mathlib.Omega.{arith}
use Rattle.graph.specs.Words.{bit}
use Rattle.graph.proofs.Facts.{clash}
use Rattle.table.specs.declared.Table.{Table}
use Rattle.table.specs.declared.Outcome.TheVariants.{Read}
use Rattle.table.specs.Reading.{read}
use Rattle.machine.specs.declared.State.{State}
use Rattle.machine.specs.declared.Ticked.{Ticked}
use Rattle.machine.specs.States.{wait}
use Rattle.machine.specs.Steps.{released, own_choice, Legal}
use Rattle.machine.specs.Ticking.{ticked, advance, refuse, tick_on, tick}
use Rattle.machine.proofs.Own.{own_legal}
use Rattle.machine.proofs.Standing.{Standing, opened_stands, stands_fits}
use Rattle.machine.proofs.Cases.{running_stopped, Admitted, Case, unfit, halted, no_task_past, early, misses, goes_on_lem, cases, admitted_advances}
use Rattle.promise.specs.Runs.{table_of, taking, own_state}
use Rattle.promise.specs.Demand3.{Fine, answered_0, refused_31, refused_33, AnyReleases, OldAccepts, SharpAccepts, none}
use Rattle.promise.proofs.Certified.{Certified, Backed, old_backed}
use Rattle.promise.proofs.Sharpened.{sharp_backed}
use Rattle.promise.proofs.Costs.{stated_drawn}
use Rattle.promise.proofs.Count.{chosen_available}
use Rattle.promise.proofs.Moves.{opens, ticks, names_tasks_lem, finds_free, own}
use Rattle.promise.proofs.Safe as S
use Rattle.promise.proofs.Safe.{Safe, opened_safe}

-- a state of the machine's own run is safe, and it stands
pub record Well (t : Table) (st : State) : Type 0 where
  pub safe : Safe t st
  pub stands : Standing t st

module _ (t : Table) (spare : ℕ → ℕ) (cert : Certified t spare) (st : State) (p : Well t st) (named : ℕ) (small : named < 2 ^ 16) where
  After : Ticked → Type 0
  After x = Fine st x × Well t x.state

  -- the releases are due: it is answered 0
  went : (chosen : List ℕ) → Legal t (released t st named) chosen → ((i : ℕ) → bit named i ≡ true → i < t.n) → ((i : ℕ) → bit named i ≡ true → wait st i ≡ 0)
      → (x : Ticked) → x ≡ advance t st named chosen → After x
  unfolding After advance taking ticked
  went chosen legal tasks free x e =
      let drawn = stated_drawn t t.costs (λ k b. refl) in
      let q = e ∙ S.goes t spare cert st p.safe named tasks free t.costs drawn chosen legal in (
        answered_0 (ap (λ (z : Ticked). z.answer.reply.number) q),
        subst (Well t) (sym (ap (λ (z : Ticked). z.state) q)) (record {
          safe = S.after_safe t spare cert st p.safe named tasks free t.costs drawn chosen legal;
          stands = own t cert.good st p.stands named tasks free chosen
              (λ k h. (chosen_available t (released t st named) chosen legal k h).1)
              (S.kept t spare cert st p.safe named tasks free t.costs drawn chosen legal);
        }),
      )

  -- a refusal leaves the state as it was
  refused : (x : Ticked) (n y : ℕ) → x ≡ refuse st n 0 y → (x.answer.reply.number ≡ n) × (x.state ≡ st)
  unfolding refuse
  refused x n y e = (ap (λ (z : Ticked). z.answer.reply.number) e, ap (λ (z : Ticked). z.state) e)

  still : (x : Ticked) → Fine st x → x.state ≡ st → After x
  unfolding After
  still x f e = (f, subst (Well t) (sym e) p)

  -- one that is not refused names tasks of the file whose wait is 0
  due : Admitted own_choice t st named → After (tick_on own_choice t st named)
  due a = went (own_choice t (released t st named)) (own_legal t (released t st named))
      (names_tasks_lem own_choice t st named small a) (finds_free own_choice t st named small a) _ (admitted_advances own_choice t st named a)

  one : After (tick_on own_choice t st named)
  one = go (cases own_choice t st named)
    where
      go : Case own_choice t st named (tick_on own_choice t st named) → After (tick_on own_choice t st named)
      go (unfit e q) = absurd (clash (stands_fits t cert.good st p.stands) e)
      go (halted e k f q) = absurd (running_stopped st.phase k p.stands.running f)
      go (no_task_past e f i l q) = let r = refused _ 31 i q in still _ (refused_31 r.0 r.1) r.1
      go (early e f n i l q) = let r = refused _ 33 i q in still _ (refused_33 r.0 r.1) r.1
      go (misses a i l q) = due a
      go (goes_on_lem a n q) = due a

-- THE PROOF
module _ (file : List ℕ) (well : (read file).outcome ≡ Read) (spare : ℕ → ℕ) (cert : Certified (table_of file) spare)
    (c : ℕ) (small : c < 2 ^ 32) (rel : ℕ → ℕ) (bits : (x : ℕ) → rel x < 2 ^ 16) where
  abbrev t : Table
  t = table_of file

  ticked_well : (st : State) (named : ℕ) → tick file st named ≡ tick_on own_choice t st named
  unfolding tick
  ticked_well st named = ticks file well own_choice st named

  fine : (x : ℕ) → Well t (own_state file c rel x)
      → Fine (own_state file c rel x) (tick file (own_state file c rel x) (rel x)) × Well t (tick file (own_state file c rel x) (rel x)).state
  unfolding After
  fine x p = subst (λ (z : Ticked). Fine (own_state file c rel x) z × Well t z.state) (sym (ticked_well (own_state file c rel x) (rel x)))
      (one t spare cert (own_state file c rel x) p (rel x) (bits x))

  all_safe : (x : ℕ) → Well t (own_state file c rel x)
  unfolding own_state
  all_safe zero = rw (opens file well c) (record { safe = opened_safe t cert.good c small; stands = opened_stands t cert.good c small })
  all_safe (suc x) = (fine x (all_safe x)).1

  pub each_fine : (x : ℕ) → Fine (own_state file c rel x) (tick file (own_state file c rel x) (rel x))
  each_fine x = (fine x (all_safe x)).0

pub any_releases_by : (Accepts : List ℕ → Type 0) (spare : Table → ℕ → ℕ) → Backed Accepts spare → AnyReleases Accepts
any_releases_by Accepts spare backed file v c small rel bits x = let b = backed file v in each_fine file b.0 (spare (table_of file)) b.1 c small rel bits x

pub any_releases : AnyReleases OldAccepts
any_releases = any_releases_by OldAccepts none old_backed

pub any_releases_sharp : AnyReleases SharpAccepts
any_releases_sharp = any_releases_by SharpAccepts none sharp_backed

-- so 34 is never answered
abbrev pub Never34 : (List ℕ → Type 0) → Type 0
Never34 Accepts =
    (file : List ℕ) → Accepts file → (clock : ℕ) → clock < 2 ^ 32
    → (rel : ℕ → ℕ) → ((x : ℕ) → rel x < 2 ^ 16)
    → (x : ℕ) → (tick file (own_state file clock rel x) (rel x)).answer.reply.number ≡ 34 → ⊥

pub never_34_by : (Accepts : List ℕ → Type 0) → AnyReleases Accepts → Never34 Accepts
never_34_by Accepts any file v c small rel bits x e = go _ (any file v c small rel bits x) e
  where
    go : (z : Ticked) → Fine (own_state file c rel x) z → z.answer.reply.number ≡ 34 → ⊥
    go z (answered_0 h) e = omega arith
    go z (refused_31 h k) e = omega arith
    go z (refused_33 h k) e = omega arith

pub never_34 : Never34 OldAccepts
never_34 = never_34_by OldAccepts any_releases

pub never_34_sharp : Never34 SharpAccepts
never_34_sharp = never_34_by SharpAccepts any_releases_sharp
