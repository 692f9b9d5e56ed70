-- A task of a good table is read as that task.
use mathlib.Core.Path.{◌≡◌, refl, sym, ap, ◌∙◌}
use mathlib.Core.Logic.{◌⊎◌, inl, inr, ⊎_elim}
use mathlib.Core.Bool.{true}
use mathlib.Core.List.{List, [], ◌∷◌, ◌++◌, append_assoc}
use Prim.Native.Nat.{ℕ, zero, suc, ◌+◌, ◌*◌, ◌/◌, ◌%◌, ◌≤◌, ◌<◌}
use native.Mathlib.Omega.{arith}
use native.Mathlib.Numerals.{add-one}
use native.Mathlib.Decide.{ℕ_discrete}
use lib.ListN.{length, get_or, set, drop, length-set}
use lib.Seq.{drop-drop, get_or-set_same, get_or-set_other}
use borrow.Author.Tests.{le-leb, lt-ltb, ne_eqb}
use Rattle.table.specs.declared.Task.{Task}
use Rattle.table.specs.declared.Table.{Table}
use Rattle.table.specs.declared.Outcome.TheVariants.{Read}
use Rattle.std.specs.Prelude.{Ok}
use Rattle.graph.specs.Words.{is_in, join_from}
use Rattle.graph.proofs.Facts.{first_in, tail_in}
use Rattle.table.specs.Memory.{no_succ, no_costs, task, vertices, D, T, succ, edge_in, cost}
use Rattle.table.specs.Reading.{field, not_under, period_at, edge_ok, edge_at, costs_at, add_edge, edges_at, parts_at, task_at}
use Rattle.table.specs.Writing.{bytes4, edge_keys, edge_bytes, encode_task}
use Rattle.table.specs.Good.{GoodTable, Typed}
use Rattle.table.proofs.Ascending.{Asc}
use Rattle.table.proofs.Successors.{add_all}
use Rattle.table.proofs.FieldViews.{Ends}
use Rattle.table.proofs.EdgeKeys.{keys_ascend, key_edge, same_succ}
use Rattle.table.proofs.FieldForth.{cell, cell_in, cell_next, read_mark, read_byte, read_ticks, next_four}
use Rattle.table.proofs.Places.{at_mark, at_v, at_e, at_D, at_T, at_costs, at_edges}

-- ---- costs
unfoldable pub fill : ℕ → ℕ → (ℕ → ℕ) → List ℕ → List ℕ
fill zero j f l = l
fill (suc k) j f l = fill k (suc j) f (set l j (f j))

read_costs : (s : List ℕ) (k at j : ℕ) (f : ℕ → ℕ) (costs r : List ℕ) → ((u : ℕ) → j ≤ u → u < j + k → f u ≤ 1000000)
    → drop at s ≡ join_from k j (λ u. bytes4 (f u)) ++ r → costs_at s k at j costs ≡ record { outcome = Read; costs = fill k j f costs }
unfolding costs_at join_from fill
read_costs s zero at j f costs r h e = refl
read_costs s (suc k) at j f costs r h e =
    let b = h j (omega arith) (omega arith) in
    let rest : List ℕ = join_from k (suc j) (λ u. bytes4 (f u)) ++ r in
    let e₂ : drop at s ≡ bytes4 (f j) ++ rest = e ∙ append_assoc (bytes4 (f j)) (join_from k (suc j) (λ u. bytes4 (f u))) r in
    rw (read_ticks 0 s at (f j) rest (omega arith) b e₂, add-one j)
    (read_costs s k (at + 4) (suc j) f (set costs j (f j)) r (λ u x y. h u (omega arith) (omega arith)) (next_four s at (f j) rest e₂))

pub fill_out : (k j : ℕ) (f : ℕ → ℕ) (l : List ℕ) (c : ℕ) → (c < j) ⊎ (j + k ≤ c) → get_or (fill k j f l) c 0 ≡ get_or l c 0
unfolding fill
fill_out zero j f l c h = refl
fill_out (suc k) j f l c h =
    fill_out k (suc j) f (set l j (f j)) c (⊎_elim (λ x. inl (omega arith)) (λ x. inr (omega arith)) h)
    ∙ get_or-set_other l j c (f j) 0 (λ q. ⊎_elim (λ x. absurd (omega arith)) (λ x. absurd (omega arith)) h)

pub fill_in : (k j : ℕ) (f : ℕ → ℕ) (l : List ℕ) (c : ℕ) → j + k ≤ length l → j ≤ c → c < j + k → get_or (fill k j f l) c 0 ≡ f c
unfolding fill
fill_in zero j f l c b h₁ h₂ = absurd (omega arith)
fill_in (suc k) j f l c b h₁ h₂ =
    let n = length-set l j (f j) in
    elim (ℕ_discrete c j) [
      | yes q ↦ rw q (fill_out k (suc j) f (set l j (f j)) j (inl (omega arith)) ∙ get_or-set_same l j (f j) 0 (omega arith))
      | no q ↦ fill_in k (suc j) f (set l j (f j)) c (omega arith) (omega arith) (omega arith)
    ]

-- ---- edges
read_edge : (v low : ℕ) (s : List ℕ) (at k : ℕ) (r : List ℕ) → low ≤ k → Ends v k → drop at s ≡ k / 16 ∷ k % 16 ∷ r → edge_at v low s at ≡ Ok k
unfolding edge_at edge_ok field
read_edge v low s at k r l o e =
    let n = cell_next s at (k / 16) (k % 16 ∷ r) e in
    let i = cell_in s (at + 1) (k % 16) r n in
    let q : 16 * (k / 16) + k % 16 ≡ k = omega arith in
    rw (
      le-leb (at + 2) (length s) (omega arith),
      cell s at (k / 16) (k % 16 ∷ r) e,
      cell s (at + 1) (k % 16) r n,
      lt-ltb (k / 16) v o.0,
      lt-ltb (k % 16) v o.1,
      ne_eqb (k / 16) (k % 16) o.2,
      q,
      le-leb low k l,
    )

read_edges : (v : ℕ) (s ks : List ℕ) (at low top : ℕ) (l r : List ℕ) → Asc low top ks → ((k : ℕ) → is_in k ks ≡ true → Ends v k) → drop at s ≡ edge_bytes ks ++ r
    → edges_at v s (length ks) at low l ≡ record { outcome = Read; succ = add_all l ks }
unfolding edges_at edge_bytes add_all Asc
read_edges v s [] at low top l r a o e = refl
read_edges v s (k ∷ ks) at low top l r a o e =
    let n : drop (at + 2) s ≡ edge_bytes ks ++ r = sym (drop-drop 2 at s) ∙ ap (drop 2) e in
    let a' : Asc (k + 1) top ks = rw add-one a.2 in
    rw (read_edge v low s at k (edge_bytes ks ++ r) a.0 (o k (first_in k ks)) e)
    (read_edges v s ks (at + 2) (k + 1) top (add_edge l k) r a' (λ x h. o x (tail_in x k ks h)) n)

-- ---- a task
module _ (t : Table) (good : GoodTable t) (typed : Typed t) (s : List ℕ) (at i : ℕ) (b : i < t.n) (r : List ℕ) (e : drop at s ≡ encode_task t i ++ r) where
  abbrev v : ℕ
  v = vertices t i

  whole : record { v = vertices t i; d = D t i; t = T t i; succ = succ t i } ≡ task t i
  unfolding vertices D T succ
  whole = refl

  pub read_task : task_at s at ≡ record { outcome = Read; next = at + 12 + 4 * v + 2 * length (edge_keys t i); task = task t i; costs = fill v 0 (cost t i) no_costs }
  unfolding task_at parts_at period_at not_under edge_in
  read_task =
      let g = good.each i b in
      let n = good.n_high in
      let k : costs_at s v (at + 12) 0 no_costs ≡ record { outcome = Read; costs = fill v 0 (cost t i) no_costs } =
      read_costs s v (at + 12) 0 (cost t i) no_costs (edge_bytes (edge_keys t i) ++ r) (λ u x y. g.cost_high u (omega arith)) (at_costs t s at i r e) in
      let q : edges_at v s (length (edge_keys t i)) (at + 12 + 4 * v) 0 no_succ ≡ record { outcome = Read; succ = add_all no_succ (edge_keys t i) } =
      read_edges v s (edge_keys t i) (at + 12 + 4 * v) 0 (16 * v) no_succ r (keys_ascend t i) (λ k x. g.ends (k / 16) (k % 16) (key_edge t i k x).1) (at_edges t s at i r e) in
      rw (
        read_mark 0x4B s at _ (at_mark t s at i r e),
        read_byte 1 16 s (at + 2) v _ g.v_low g.v_high (at_v t s at i r e),
        read_byte 0 120 s (at + 3) (length (edge_keys t i)) _ (omega arith) g.e_high (at_e t s at i r e),
        read_ticks 1 s (at + 4) (D t i) _ g.D_low g.D_high (at_D t s at i r e),
        read_ticks 1 s (at + 8) (T t i) _ g.T_low g.T_high (at_T t s at i r e),
        le-leb (D t i) (4 * T t i) g.D_T,
        k,
        q,
        same_succ t i g.v_high (record { many = typed.rows i (omega arith); small = typed.small i }) g.ends,
        g.no_cycle,
      )
      (ap (λ (x : Task). record { outcome = Read; next = at + 12 + 4 * v + 2 * length (edge_keys t i); task = x; costs = fill v 0 (cost t i) no_costs }) whole)
