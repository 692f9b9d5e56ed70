-- STEP 2 BY ROWS: the ready vertices of each live slot are the available ones of its job, and a slot without a job has none. It is so of any table:
-- where v is above 16, the vertices past the sixteenth lead nowhere, there being sixteen successors.
use Rattle.std.proofs.Common.{◌≡◌, ℕ, zero, suc, ◌+◌, ◌*◌, ◌/◌, ◌%◌, ◌^◌, ◌<◌, ◌≤◌, min, Bool, true, false, not, ◌&&◌, ◌||◌, eqb, ltb, List, [], ◌∷◌, length, get_or, sym, refl, ap, ◌∙◌, ap₂, arith, rules, lt-ltb, ne_eqb}
use mathlib.Core.Path.{fun_ext}
use mathlib.Core.Bool.{not-not}
use native.Mathlib.Nat.{min-eq_left, min-eq_right}
use native.Mathlib.Decide.{dec_le}
use mir.Val.{Val}
use base.Fml.{Fml}
use denote.Shadow.{shadow}
use denote.Array.{each}
use denote.Struct.Declared as declared
use Rattle.table.specs.contracts.Table.{the_type}
use Rattle.table.specs.contracts.Task as task_kind
use Rattle.graph.specs.Words.{pick, bit, all, row, set_of}
use Rattle.graph.specs.Graph.{edge, done_within, done, held_back}
use Rattle.graph.proofs.Facts.{sum_none, all_same, past_end}
use Rattle.graph.proofs.Bits.{bit_zero}
use Rattle.table.specs.declared.Table.{Table}
use Rattle.table.specs.Memory.{no_task, task, vertices, succ, edge_in}
use Rattle.slots.specs.Slots.{at, something_left, is_ready}
use Rattle.machine.specs.declared.State.{State}
use Rattle.machine.specs.States.{live, remaining}
use Rattle.machine.specs.Steps.{clear, available, available_sets}
use Rattle.machine.proofs.Filling.{length_mapped, row_ext}
use Rattle.machine.proofs.Index.{name_task, name_age, name_vertex}
use Rattle.machine.proofs.Apart.{slot_of}
use Rattle.machine.proofs.Filling.{set_ext}

-- ---- what owning an array of structs tells of each of them
each_at : (X : Type 0) (R : X → List Val → Fml) (xs : List X) (us : List Val) (d : X) (i : ℕ) → i < length xs → shadow (each X R xs us)
    → (u : Val) × shadow (R (get_or xs i d) (u ∷ []))
each_at X R [] us d i b h = absurd (omega arith)
each_at X R (x ∷ xs) [] d i b h = absurd h
each_at X R (x ∷ xs) (u ∷ us) d zero b h = (u, h.0)
each_at X R (x ∷ xs) (u ∷ us) d (suc i) b h = each_at X R xs us d i (omega arith) h.1

-- so each task of a table that is handed over has sixteen successors
pub successors : (t : Table) (vs : List Val) → shadow ((declared.row the_type).own_val t vs) → (i : ℕ) → i < 16 → length (task t i).succ ≡ 16
unfolding task
successors t vs good i b =
    let h = good.1.1.1.1.0.1 in
    let n : length t.tasks ≡ 16 = search (length_mapped, rules) in
    (each_at _ (declared.row task_kind.the_type).own_val t.tasks _ no_task i (omega arith) h.1).1.1.1.1.1.1.0.1.0.1

-- ---- it is all the same whether all are asked or the first sixteen, those past them leading nowhere
all_upto : (v n : ℕ) (p : ℕ → Bool) → v ≤ n → ((j : ℕ) → v ≤ j → j < n → p j ≡ true) → all n p ≡ all v p
unfolding all
all_upto v zero p h k = let z : v ≡ 0 = omega arith in rw z refl
all_upto v (suc n) p h k = elim (dec_le v n) [
  | yes e ↦ more (all n p) (p n) (k n e (omega arith)) ∙ all_upto v n p e (λ j a b. k j a (omega arith))
  | no e ↦ let z : v ≡ suc n = omega arith in rw z refl
]
  where
    more : (a b : Bool) → b ≡ true → (a && b) ≡ a
    more true b e = e
    more false b e = refl

module _ (v : ℕ) (E : ℕ → ℕ → Bool) (rest : ℕ → ℕ) (many : 16 ≤ v) (past : (w u : ℕ) → 16 ≤ w → E w u ≡ false) where
  asked : (p : ℕ → Bool) (u : ℕ) → all v (λ w. not (E w u) || p w) ≡ all 16 (λ w. not (E w u) || p w)
  asked p u = all_upto 16 v _ many (λ w a b. ap (λ (c : Bool). not c || p w) (past w u a))

  within_narrow : (k u : ℕ) → done_within k v E rest u ≡ done_within k 16 E rest u
  unfolding done_within
  within_narrow zero u = refl
  within_narrow (suc k) u =
      ap (λ (b : Bool). eqb (rest u) 0 && b)
      (asked (done_within k v E rest) u ∙ all_same 16 _ _ (λ w b. ap (λ (c : Bool). not (E w u) || c) (within_narrow k w)))

  clear_narrow : (u : ℕ) → all v (λ w. not (E w u) || done v E rest w) ≡ all 16 (λ w. not (E w u) || done 16 E rest w)
  unfolding done
  clear_narrow u = asked (done_within 16 v E rest) u ∙ all_same 16 _ _ (λ w b. ap (λ (c : Bool). not (E w u) || c) (within_narrow 16 w))

-- ---- one slot
module _ (t : Table) (st : State) (i p : ℕ) (b : i < 16) (c : p < 4) where
  abbrev slot : ℕ
  slot = 16 * p + i

  abbrev ready : ℕ → Bool
  ready = is_ready (task t i).succ (task t i).v st.remaining slot

  rests : remaining st i p ≡ at st.remaining slot
  unfolding remaining
  rests = fun_ext (λ u. let z : 256 * p + 16 * i + u ≡ 16 * slot + u = omega arith in ap (λ (k : ℕ). get_or st.remaining k 0) z)

  module _ (sixteen : length (task t i).succ ≡ 16) where
    past : (w u : ℕ) → 16 ≤ w → edge (task t i).succ w u ≡ false
    unfolding edge
    past w u h = ap (λ (n : ℕ). bit n u) (past_end (task t i).succ w 0 (omega arith)) ∙ bit_zero u

    clear_is : (u : ℕ) → clear t st i p u ≡ not (held_back (min (task t i).v 16) (edge (task t i).succ) (at st.remaining slot) u)
    unfolding clear held_back edge_in vertices succ
    clear_is u = rw rests (elim (dec_le (task t i).v 16) [
      | yes h ↦ rw (min-eq_left h) (sym (not-not _))
      | no h ↦
          let k : 16 ≤ (task t i).v = omega arith in
          rw (min-eq_right k) (clear_narrow (task t i).v (edge (task t i).succ) (at st.remaining slot) k past u ∙ sym (not-not _))
    ])

    ready_is : (u : ℕ) → (ltb 0 (remaining st i p u) && clear t st i p u) ≡ ready u
    unfolding is_ready something_left
    ready_is u =
        ap₂ (λ (r : ℕ) (d : Bool). ltb 0 r && d) (ap (λ (f : ℕ → ℕ). f u) rests) (clear_is u)
        ∙ ap (λ (d : Bool). d && not (held_back (min (task t i).v 16) (edge (task t i).succ) (at st.remaining slot) u)) (some (at st.remaining slot u) ∙ sym (ap (λ (l : Bool). l && not (eqb (at st.remaining slot u) 0)) (lt-ltb slot 64 (omega arith))))
      where
        some : (n : ℕ) → ltb 0 n ≡ not (eqb n 0)
        some zero = refl
        some (suc n) = lt-ltb 0 (suc n) (omega arith) ∙ sym (ap not (ne_eqb (suc n) 0 (λ z. omega arith)))

    available_live : live st i p ≡ true → (u : ℕ) → u < 16 → available t st (64 * i + 16 * p + u) ≡ ready u
    unfolding available
    available_live e u h = rw (name_task i p u c h, name_age i p u c h, name_vertex i p u c h, e) (ready_is u)

  available_none : live st i p ≡ false → (u : ℕ) → u < 16 → available t st (64 * i + 16 * p + u) ≡ false
  unfolding available
  available_none e u h = rw (name_task i p u c h, name_age i p u c h, e) refl

  -- A SLOT'S SET
  slot_set : (length (task t i).succ ≡ 16) → (n : Bool) → n ≡ live st i p → pick n (set_of 16 ready) 0 ≡ set_of 16 (λ u. available t st (64 * i + 16 * p + u))
  unfolding set_of
  slot_set sixteen true e = sym (set_ext 16 _ _ (available_live sixteen (sym e)))
  slot_set sixteen false e = sym (sum_none 16 _ (λ u h. ap (λ (x : Bool). pick x (2 ^ u) 0) (available_none (sym e) u h)))

-- THE SETS OF ALL SLOTS
pub ready_sets : (t : Table) → ((i : ℕ) → i < 16 → length (task t i).succ ≡ 16) → (st : State) (in_it : ℕ) (rest : List ℕ) → st.remaining ≡ rest
    → ((i p : ℕ) → i < 16 → p < 4 → bit in_it (16 * p + i) ≡ live st i p)
    → row 64 (λ s. pick (bit in_it s) (set_of 16 (is_ready (task t (s % 16)).succ (task t (s % 16)).v rest s)) 0) ≡ available_sets t st
unfolding available_sets
ready_sets t sixteen st in_it rest e lives = rw (sym e) (row_ext 64 0 _ _ (λ s h.
    let i : s % 16 < 16 = omega arith in
    let p : s / 16 < 4 = omega arith in
    ap (λ (k : ℕ). pick (bit in_it k) (set_of 16 (is_ready (task t (s % 16)).succ (task t (s % 16)).v st.remaining k)) 0) (sym (slot_of s))
    ∙ slot_set t st (s % 16) (s / 16) i p (sixteen (s % 16) i) (bit in_it (16 * (s / 16) + s % 16)) (lives (s % 16) (s / 16) i p)))
