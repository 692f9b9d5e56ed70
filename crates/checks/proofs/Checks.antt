-- The tests on the table itself refuse exactly as a reader does for the bytes that the table stands for.
use mathlib.Core.Path.{◌≡◌, refl, sym, ap, ◌∙◌}
use mathlib.Core.Bool.{Bool, true, false, ◌&&◌, not}
use mathlib.Core.List.{List, [], ◌∷◌, ◌++◌, append_assoc, append-nil}
use Prim.Native.Nat.{ℕ, zero, suc, ◌+◌, ◌*◌, ◌/◌, ◌%◌, ◌≤◌}
use native.Mathlib.Omega.{arith}
use native.Mathlib.Numerals.{add-one}
use native.Mathlib.Nat.{add-zero}
use lib.ListN.{length, drop, set, length-append}
use lib.Seq.{drop-drop, drop-append_seam}
use lib.Dec.{ltb, leb, eqb}
use borrow.Author.Tests.{leb-true, eq-eqb}
use Rattle.graph.specs.Words.{pick, join_from, in_order}
use Rattle.graph.specs.Graph.{acyclic}
use Rattle.graph.proofs.Facts.{both_true}
use Rattle.table.specs.declared.Table.{Table}
use Rattle.table.specs.declared.Outcome.{Outcome}
use Rattle.table.specs.declared.Outcome.TheVariants.{Read, Short, Mark, Range, Ticks, Order, Edge, Cycle, Extra}
use Rattle.table.specs.declared.Written.TheVariants.{Done, Refused, Unused, Room}
use Rattle.std.specs.Prelude.{Result, Ok, Err}
use Rattle.table.specs.declared.TableRead.{TableRead}
use Rattle.table.specs.Memory.{no_succ, no_costs, no_tasks, no_row, task, vertices, D, T, succ, cost}
use Rattle.table.specs.Reading.{TaskRead, EdgesRead, onward, when_read, ranged, not_under, period_at, costs_at, add_edge, edges_at, bad_task, parts_at, task_at, bad_table, with_task, tasks_at, table_at, refused, ending, read}
use Rattle.table.specs.Numbers.{number}
use Rattle.table.specs.Writing.{bytes4, edge_bytes, encode_task, encode, unused_zero, writing}
use Rattle.checks.specs.Checking.{outcome_of, keys_of, edge_tested, edges_tested, costs_tested, used_rows, parts_tested, task_tested, tasks_tested, checked}
use Rattle.table.specs.Good.{Typed}
use Rattle.checks.proofs.Numbers.{OwnNumber, OwnAnswer, checked_own}
use Rattle.checks.proofs.TestLaws.{costs_next}
use Rattle.table.proofs.PartLaws.{not_read}
use Rattle.checks.proofs.Cells.{byte_as, ticks_as, edge_as}
use Rattle.table.proofs.FieldForth.{at_eq, read_mark, next_four}
use Rattle.table.proofs.Places.{task_length, at_mark, at_v, at_e, at_D, at_T, at_costs, at_edges}
use Rattle.table.proofs.Went.{out_task, out_table}
use Rattle.checks.proofs.Keys.{keys_of_asc, keys_are}
use Rattle.table.proofs.Ascending.{Asc}
use Rattle.checks.proofs.Rows.{rows_of_keys}
use Rattle.table.proofs.Successors.{add_all}

-- ---- a refusal is no success
pub range_bad : (p : ℕ) → Range p ≡ Read → ⊥
range_bad p e = let z : ◌≡◌ {A = ℕ} 0 1 = cc in omega arith

pub ticks_bad : (p : ℕ) → Ticks p ≡ Read → ⊥
ticks_bad p e = let z : ◌≡◌ {A = ℕ} 0 1 = cc in omega arith

pub order_bad : (p : ℕ) → Order p ≡ Read → ⊥
order_bad p e = let z : ◌≡◌ {A = ℕ} 0 1 = cc in omega arith

pub edge_bad : (p : ℕ) → Edge p ≡ Read → ⊥
edge_bad p e = let z : ◌≡◌ {A = ℕ} 0 1 = cc in omega arith

pub cycle_bad : (p : ℕ) → Cycle p ≡ Read → ⊥
cycle_bad p e = let z : ◌≡◌ {A = ℕ} 0 1 = cc in omega arith

-- what the tests refuse is no success
pub refused_own : (t : Table) (o : Outcome) → Err o ≡ checked t → o ≡ Read → ⊥
unfolding OwnNumber
refused_own t o h e = let k : Err Read ≡ checked t = rw e at h in go (checked t) (checked_own t) k
  where
    go : (c : Result ℕ Outcome) → OwnAnswer c → Err Read ≡ c → ⊥
    go (Ok n) a h = let z : ◌≡◌ {A = ℕ} 0 1 = cc in absurd (omega arith)
    go (Err q) a h = let z : q ≡ Read = cc in rw z at a

-- ---- a part's outcome and its test
abbrev SameOutcome : Outcome → Result ℕ Outcome → Type 0
SameOutcome o (Ok n) = o ≡ Read
SameOutcome o (Err q) = (o ≡ q) × (q ≡ Read → ⊥)

-- ---- a part that was read and the same part tested agree: the same outcome, and on success both end at the same place
module _ {X : Type 0} (out : X → Outcome) (next : X → ℕ) (stop : Outcome → X) (stops : (o : Outcome) → out (stop o) ≡ o) where
  abbrev pub Agree : X → Result ℕ Outcome → ℕ → Type 0
  Agree r (Ok n) end = (out r ≡ Read) × (next r ≡ end) × (n ≡ end)
  Agree r (Err o) end = (out r ≡ o) × (o ≡ Read → ⊥)

  both_stop : (o : Outcome) (end : ℕ) → (o ≡ Read → ⊥) → Agree (stop o) (Err o) end
  both_stop o end n = (stops o, n)

  agree_ranged : (outside : ℕ → Outcome) → ((p : ℕ) → outside p ≡ Read → ⊥) → (lo hi at x end : ℕ) (g : ℕ → X) (h : ℕ → Result ℕ Outcome)
      → (lo ≤ x → x ≤ hi → Agree (g x) (h x) end) → Agree (onward (ranged outside lo hi at x) stop g) (onward (ranged outside lo hi at x) Err h) end
  unfolding ranged
  agree_ranged outside n lo hi at x end g h k = go (leb lo x && leb x hi) refl
    where
      go : (b : Bool) → leb lo x && leb x hi ≡ b
          → Agree (onward (pick b (Ok x) (Err (outside at))) stop g) (onward (pick b (Ok x) (Err (outside at))) Err h) end
      go true e = let p = both_true (leb lo x) (leb x hi) e in k (leb-true lo x p.0) (leb-true x hi p.1)
      go false e = both_stop (outside at) end (n at)

  agree_period : (d at x end : ℕ) (g : ℕ → X) (h : ℕ → Result ℕ Outcome) → Agree (g x) (h x) end
      → Agree (onward (not_under d at (ranged Ticks 1 1000000 at x)) stop g) (onward (not_under d at (ranged Ticks 1 1000000 at x)) Err h) end
  unfolding ranged not_under
  agree_period d at x end g h k = go (leb 1 x && leb x 1000000)
    where
      order : (b : Bool) → Agree (onward (pick b (Ok x) (Err (Order at))) stop g) (onward (pick b (Ok x) (Err (Order at))) Err h) end
      order true = k
      order false = both_stop (Order at) end (order_bad at)

      go : (b : Bool) → Agree (onward (not_under d at (pick b (Ok x) (Err (Ticks at)))) stop g) (onward (not_under d at (pick b (Ok x) (Err (Ticks at)))) Err h) end
      go true = order (leb d (4 * x))
      go false = both_stop (Ticks at) end (ticks_bad at)

  agree_when : (o : Outcome) (c : Result ℕ Outcome) (end : ℕ) (g : Unit {0} → X) (h : ℕ → Result ℕ Outcome) → SameOutcome o c
      → ((n : ℕ) → c ≡ Ok n → Agree (g tt) (h n) end) → Agree (when_read o stop g) (onward c Err h) end
  agree_when o (Ok n) end g h e k = rw e (k n refl)
  agree_when o (Err q) end g h e k = rw (e.0, ← not_read q stop g e.1) (both_stop q end e.1)

  agree_cycle : (b : Bool) (at end n : ℕ) (g : X) → Agree g (Ok n) end → Agree (pick b g (stop (Cycle at))) (pick b (Ok n) (Err (Cycle at))) end
  agree_cycle true at end n g k = k
  agree_cycle false at end n g k = both_stop (Cycle at) end (cycle_bad at)

-- ---- edges: the same outcome, and on success the rows and the place after the last
abbrev EdgesAgree : EdgesRead → Result ℕ Outcome → List ℕ → ℕ → Type 0
EdgesAgree a (Ok n) rows end = (a.outcome ≡ Read) × (a.succ ≡ rows) × (n ≡ end)
EdgesAgree a (Err o) rows end = (a.outcome ≡ o) × (o ≡ Read → ⊥)

edges_same : (a : EdgesRead) (c : Result ℕ Outcome) (rows : List ℕ) (end : ℕ) → EdgesAgree a c rows end → SameOutcome a.outcome c
edges_same a (Ok n) rows end h = h.0
edges_same a (Err o) rows end h = h

edges_as : (v : ℕ) (s ks : List ℕ) (at low : ℕ) (l r : List ℕ) → Asc low (16 * v) ks → drop at s ≡ edge_bytes ks ++ r
    → EdgesAgree (edges_at v s (length ks) at low l) (edges_tested v ks at) (add_all l ks) (at + 2 * length ks)
unfolding edges_at edges_tested edge_bytes add_all Asc edge_tested
edges_as v s [] at low l r a e = (refl, refl, omega arith)
edges_as v s (k ∷ ks) at low l r a e =
    let n : drop (at + 2) s ≡ edge_bytes ks ++ r = sym (drop-drop 2 at s) ∙ ap (drop 2) e in
    let z : at + 2 + 2 * length ks ≡ at + 2 * suc (length ks) = omega arith in
    let i = rw z at (edges_as v s ks (at + 2) (k + 1) (add_edge l k) r (rw add-one a.2) n) in
    rw (edge_as v low s at k (edge_bytes ks ++ r) a.0 a.1 e) (go (ltb (k % 16) v && not (eqb (k / 16) (k % 16))) i)
  where
    go : (b : Bool) → EdgesAgree (edges_at v s (length ks) (at + 2) (k + 1) (add_edge l k)) (edges_tested v ks (at + 2)) (add_all (add_edge l k) ks) (at + 2 * suc (length ks))
        → EdgesAgree (onward (pick b (Ok k) (Err (Edge at))) (λ o. record { outcome = o; succ = l }) λ key. edges_at v s (length ks) (at + 2) (key + 1) (add_edge l key))
        (onward (pick b (Ok k) (Err (Edge at))) Err λ _. edges_tested v ks (at + 2)) (add_all (add_edge l k) ks) (at + 2 * suc (length ks))
    go true i = i
    go false i = (refl, edge_bad at)

module _ (t : Table) (typed : Typed t) where
  -- ---- costs
  costs_as : (s : List ℕ) (i k at j u : ℕ) (own r : List ℕ) → drop at s ≡ join_from k j (λ u. bytes4 (cost t i u)) ++ r
      → SameOutcome (costs_at s k at u own).outcome (costs_tested t.costs k at (16 * i + j))
  unfolding costs_at costs_tested join_from cost ranged
  costs_as s i zero at j u own r e = refl
  costs_as s i (suc k) at j u own r e =
      let rest : List ℕ = join_from k (suc j) (λ u. bytes4 (cost t i u)) ++ r in
      let e₂ : drop at s ≡ bytes4 (cost t i j) ++ rest = e ∙ append_assoc (bytes4 (cost t i j)) (join_from k (suc j) (λ u. bytes4 (cost t i u))) r in
      let q : 16 * i + suc j ≡ 16 * i + j + 1 = omega arith in
      rw (ticks_as 0 s at (cost t i j) rest (typed.cost_word (16 * i + j)) e₂)
      (go (leb 0 (cost t i j) && leb (cost t i j) 1000000)
      (rw q at (costs_as s i k (at + 4) (suc j) (u + 1) (set own u (cost t i j)) r (next_four s at (cost t i j) rest e₂))))
    where
      go : (b : Bool) → SameOutcome (costs_at s k (at + 4) (u + 1) (set own u (cost t i j))).outcome (costs_tested t.costs k (at + 4) (16 * i + j + 1))
          → SameOutcome (onward (pick b (Ok (cost t i j)) (Err (Ticks at))) (λ o. record { outcome = o; costs = own }) (λ x. costs_at s k (at + 4) (u + 1) (set own u x))).outcome
          (onward (pick b (Ok (cost t i j)) (Err (Ticks at))) Err (λ _. costs_tested t.costs k (at + 4) (16 * i + j + 1)))
      go true h = h
      go false h = (refl, ticks_bad at)

  -- ---- a task
  module _ (s : List ℕ) (at i : ℕ) (r : List ℕ) (e : drop at s ≡ encode_task t i ++ r) where
    abbrev v : ℕ
    v = vertices t i

    abbrev ks : List ℕ
    ks = keys_of v (succ t i)

    abbrev tail : List ℕ
    tail = join_from v 0 (λ u. bytes4 (cost t i u)) ++ (edge_bytes ks ++ r)

    abbrev end : ℕ
    end = at + 12 + 4 * v + 2 * length ks

    -- where its fields stand
    b₀ : drop at s ≡ 0x54 ∷ 0x4B ∷ v ∷ length ks ∷ (bytes4 (D t i) ++ (bytes4 (T t i) ++ tail))
    b₀ = rw (keys_are t i) (at_mark t s at i r e)

    b₂ : drop (at + 2) s ≡ v ∷ length ks ∷ (bytes4 (D t i) ++ (bytes4 (T t i) ++ tail))
    b₂ = rw (keys_are t i) (at_v t s at i r e)

    b₃ : drop (at + 3) s ≡ length ks ∷ (bytes4 (D t i) ++ (bytes4 (T t i) ++ tail))
    b₃ = rw (keys_are t i) (at_e t s at i r e)

    b₄ : drop (at + 4) s ≡ bytes4 (D t i) ++ (bytes4 (T t i) ++ tail)
    b₄ = rw (keys_are t i) (at_D t s at i r e)

    b₈ : drop (at + 8) s ≡ bytes4 (T t i) ++ tail
    b₈ = rw (keys_are t i) (at_T t s at i r e)

    b₁₂ : drop (at + 12) s ≡ tail
    b₁₂ = rw (keys_are t i) (at_costs t s at i r e)

    bₑ : drop (at + 12 + 4 * v) s ≡ edge_bytes ks ++ r
    bₑ = rw (keys_are t i) (at_edges t s at i r e)

    abbrev TaskAgree : TaskRead → Result ℕ Outcome → ℕ → Type 0
    TaskAgree = Agree (λ (x : TaskRead). x.outcome) (λ (x : TaskRead). x.next) bad_task out_task

    parts_as : (d p : ℕ) → v ≤ 16 → TaskAgree (parts_at s at v (length ks) d p) (parts_tested (succ t i) t.costs (16 * i) at v) end
    unfolding parts_at parts_tested
    parts_as d p hv =
        let out : TaskRead → Outcome = λ (x : TaskRead). x.outcome in
        let next : TaskRead → ℕ = λ (x : TaskRead). x.next in
        let c = rw (add-zero (16 * i)) at (costs_as s i v (at + 12) 0 0 no_costs (edge_bytes ks ++ r) b₁₂) in
        agree_when out next bad_task out_task (costs_at s v (at + 12) 0 no_costs).outcome (costs_tested t.costs v (at + 12) (16 * i)) end _ _ c (λ p e.
        rw (costs_next t.costs v (at + 12) (16 * i) p (sym e))
        (let g = edges_as v s ks (at + 12 + 4 * v) 0 no_succ r (keys_of_asc v (succ t i)) bₑ in
        agree_when out next bad_task out_task (edges_at v s (length ks) (at + 12 + 4 * v) 0 no_succ).outcome (edges_tested v ks (at + 12 + 4 * v)) end _ _
        (edges_same _ _ _ _ g) (λ n h.
        let j = rw h at g in
        rw (j.1, rows_of_keys v (succ t i) hv (typed.small i)) (agree_cycle out next bad_task out_task (acyclic (used_rows v (succ t i))) at end n _ (refl, refl, j.2)))))

    -- A TASK IS REFUSED WHERE A READER REFUSES IT
    task_as : TaskAgree (task_at s at) (task_tested (task t i) t.costs (16 * i) at) end
    unfolding task_at task_tested period_at vertices D T succ
    task_as =
        let out : TaskRead → Outcome = λ (x : TaskRead). x.outcome in
        let next : TaskRead → ℕ = λ (x : TaskRead). x.next in
        rw (read_mark 0x4B s at _ b₀, byte_as 1 16 s (at + 2) v _ b₂)
        (agree_ranged out next bad_task out_task Range range_bad 1 16 (at + 2) v end _ _ (λ l₁ h₁.
        rw (byte_as 0 120 s (at + 3) (length ks) _ b₃)
        (agree_ranged out next bad_task out_task Range range_bad 0 120 (at + 3) (length ks) end _ _ (λ l₂ h₂.
        rw (ticks_as 1 s (at + 4) (D t i) _ (typed.D_word i) b₄)
        (agree_ranged out next bad_task out_task Ticks ticks_bad 1 1000000 (at + 4) (D t i) end _ _ (λ l₃ h₃.
        rw (ticks_as 1 s (at + 8) (T t i) _ (typed.T_word i) b₈)
        (agree_period out next bad_task out_task (D t i) (at + 8) (T t i) end _ _ (parts_as (D t i) (T t i) h₁))))))))

  how_long : (i : ℕ) → length (encode_task t i) ≡ 12 + 4 * vertices t i + 2 * length (keys_of (vertices t i) (succ t i))
  how_long i = let l = task_length t i 0 in let k = ap length (keys_are t i) in omega arith

  -- ---- the tasks
  abbrev TableAgree : TableRead → Result ℕ Outcome → ℕ → Type 0
  TableAgree = Agree (λ (x : TableRead). x.outcome) (λ (x : TableRead). x.next) bad_table out_table

  then_on : (r : TaskRead) (c : Result ℕ Outcome) (nx end : ℕ) (f : ℕ → TableRead) (g : ℕ → Result ℕ Outcome)
      → Agree (λ (x : TaskRead). x.outcome) (λ (x : TaskRead). x.next) bad_task out_task r c nx → TableAgree (f nx) (g nx) end
      → TableAgree (when_read r.outcome bad_table (λ _. f r.next)) (onward c Err g) end
  then_on r (Ok n) nx end f g a k = rw (a.0, a.1, a.2) k
  then_on r (Err q) nx end f g a k =
      rw (a.0, ← not_read q bad_table (λ _. f r.next) a.1) (both_stop (λ (x : TableRead). x.outcome) (λ (x : TableRead). x.next) bad_table out_table q end a.1)

  tasks_as : (s : List ℕ) (k i at : ℕ) (table : Table) (r : List ℕ) → drop at s ≡ join_from k i (encode_task t) ++ r
      → TableAgree (tasks_at s k i at table) (tasks_tested t k i at) (at + length (join_from k i (encode_task t)))
  unfolding tasks_at tasks_tested join_from
  tasks_as s zero i at table r e = (refl, omega arith, omega arith)
  tasks_as s (suc k) i at table r e =
      let js : List ℕ = join_from k (suc i) (encode_task t) in
      let e' : drop at s ≡ encode_task t i ++ (js ++ r) = e ∙ append_assoc (encode_task t i) js r in
      let a = task_as s at i (js ++ r) e' in
      let l = how_long i in
      let m = length-append (encode_task t i) js in
      let nx : ℕ = at + 12 + 4 * vertices t i + 2 * length (keys_of (vertices t i) (succ t i)) in
      let d : drop nx s ≡ join_from k (i + 1) (encode_task t) ++ r =
      at_eq s (at + length (encode_task t i)) nx _ (omega arith)
      (sym (drop-drop (length (encode_task t i)) at s) ∙ ap (drop (length (encode_task t i))) e' ∙ drop-append_seam (encode_task t i) (js ++ r))
      ∙ ap (λ (j : ℕ). join_from k j (encode_task t) ++ r) (sym (add-one i)) in
      let n : length (join_from k (i + 1) (encode_task t)) ≡ length js = ap (λ (j : ℕ). length (join_from k j (encode_task t))) (add-one i) in
      let q : nx + length (join_from k (i + 1) (encode_task t)) ≡ at + length (encode_task t i ++ js) = omega arith in
      then_on (task_at s at) (task_tested (task t i) t.costs (16 * i) at) nx _
      (λ x. tasks_at s k (i + 1) x (with_task table i (task_at s at))) (λ x. tasks_tested t k (i + 1) x)
      a (rw (← q) (tasks_as s k (i + 1) nx (with_task table i (task_at s at)) r d))

  -- ---- the table
  table_as : TableAgree (table_at (encode t) 0) (checked t) (length (encode t))
  unfolding table_at checked encode in_order
  table_as =
      let out : TableRead → Outcome = λ (x : TableRead). x.outcome in
      let next : TableRead → ℕ = λ (x : TableRead). x.next in
      let E : List ℕ = join_from t.n 0 (encode_task t) in
      let s : List ℕ = 0x54 ∷ 0x42 ∷ t.m ∷ t.n ∷ E in
      let q : 4 + length E ≡ length s = omega arith in
      rw (read_mark 0x42 s 0 (t.m ∷ t.n ∷ E) refl, byte_as 1 8 s 2 t.m (t.n ∷ E) refl)
      (agree_ranged out next bad_table out_table Range range_bad 1 8 2 t.m _ _ _ (λ l₁ h₁.
      rw (byte_as 1 16 s 3 t.n E refl)
      (agree_ranged out next bad_table out_table Range range_bad 1 16 3 t.n _ _ _ (λ l₂ h₂.
      rw (← q) (tasks_as s t.n 0 4 (record { m = t.m; n = t.n; tasks = no_tasks; costs = no_row }) [] (sym (append-nil E)))))))

  ending_as : (s : List ℕ) (r : TableRead) (c : Result ℕ Outcome) → TableAgree r c (length s) → (ending s r).outcome ≡ outcome_of c
  unfolding ending refused outcome_of
  ending_as s r (Ok n) a = rw (a.0, eq-eqb r.next (length s) a.1)
  ending_as s r (Err q) a = rw (a.0, ← not_read q refused _ a.1)

  -- THE TESTS ON THE TABLE REFUSE AS A READER DOES FOR THE BYTES THAT IT STANDS FOR
  pub checked_is : outcome_of (checked t) ≡ (read (encode t)).outcome
  unfolding read
  checked_is = sym (ending_as (encode t) (table_at (encode t) 0) (checked t) table_as)

  -- and where they refuse nothing, they end at the file's length
  pub checked_length : (n : ℕ) → checked t ≡ Ok n → n ≡ length (encode t)
  checked_length n h = let a = rw h at table_as in a.2

  -- "The writer refuses a table with 3 to 7": it never answers a reader's 1, 2 or 8
  pub writer_number : (room : ℕ) (o : Outcome) → writing t room ≡ Refused o → (3 ≤ number o) × (number o ≤ 7)
  unfolding writing number OwnNumber outcome_of
  writer_number room o = rw (← checked_is) (go (checked t) (checked_own t))
    where
      none : (b c : Bool) (l : ℕ) → pick (not b) Unused (pick (not c) (Room l) (Done l)) ≡ Refused o → ⊥
      none true true l e = let z : ◌≡◌ {A = ℕ} 0 1 = cc in omega arith
      none true false l e = let z : ◌≡◌ {A = ℕ} 0 1 = cc in omega arith
      none false c l e = let z : ◌≡◌ {A = ℕ} 0 1 = cc in omega arith

      go : (c : Result ℕ Outcome) → OwnAnswer c → when_read (outcome_of c) Refused (λ _. pick (not (unused_zero t)) Unused (pick (not (leb (length (encode t)) room)) (Room (length (encode t))) (Done (length (encode t))))) ≡ Refused o
          → (3 ≤ number o) × (number o ≤ 7)
      go (Ok n) h e = absurd (none (unused_zero t) (leb (length (encode t)) room) (length (encode t)) e)
      go (Err Read) h e = absurd h
      go (Err (Short p)) h e = absurd h
      go (Err (Mark p)) h e = absurd h
      go (Err (Range p)) h e = let z : Range p ≡ o = cc in rw (← z) (omega arith, omega arith)
      go (Err (Ticks p)) h e = let z : Ticks p ≡ o = cc in rw (← z) (omega arith, omega arith)
      go (Err (Order p)) h e = let z : Order p ≡ o = cc in rw (← z) (omega arith, omega arith)
      go (Err (Edge p)) h e = let z : Edge p ≡ o = cc in rw (← z) (omega arith, omega arith)
      go (Err (Cycle p)) h e = let z : Cycle p ≡ o = cc in rw (← z) (omega arith, omega arith)
      go (Err (Extra p)) h e = absurd h
