-- The edges that were read: their keys ascend, they are the successor bits, and their ends are good.
use mathlib.Core.Path.{◌≡◌, refl, sym, ap, ◌∙◌}
use mathlib.Core.Logic.{⊎_elim}
use mathlib.Core.Bool.{Bool, true, false}
use mathlib.Core.List.{List, [], ◌∷◌, ◌++◌}
use Prim.Native.Nat.{ℕ, zero, suc, ◌+◌, ◌*◌, ◌/◌, ◌%◌, ◌≤◌, ◌<◌}
use native.Mathlib.Omega.{arith}
use native.Mathlib.Numerals.{add-one}
use native.Mathlib.Decide.{ℕ_discrete}
use lib.ListN.{length, drop}
use Rattle.table.specs.declared.Outcome.TheVariants.{Read}
use Rattle.graph.specs.Words.{row, those_below, is_in}
use Rattle.graph.specs.Graph.{edge}
use Rattle.graph.proofs.Facts.{clash, off_when, other_in}
use Rattle.table.specs.Memory.{no_succ, succ}
use Rattle.table.specs.Reading.{EdgesRead, edge_at, add_edge, edges_at}
use Rattle.table.specs.Writing.{edge_bytes}
use Rattle.table.proofs.Bits.{no_edge}
use Rattle.table.proofs.Ascending.{Asc, empty, picked_out}
use Rattle.table.proofs.Successors.{add_all, Added, added, edge_under, no_rows}
use Rattle.table.proofs.FieldViews.{Ends, edge_view, on_field}
use Rattle.table.proofs.FieldBytes.{at_sum, edge_is}

abbrev pub AllEnds : ℕ → List ℕ → Type 0
AllEnds v succ = (u w : ℕ) → edge succ u w ≡ true → (u < v) × (w < v) × (u ≡ w → ⊥)

-- `k` edges that were added to the successors `old`: their keys, their bytes, and the successors `new`
pub record EdgesAre (v low k : ℕ) (s : List ℕ) (at : ℕ) (old new : List ℕ) : Type 0 where
  pub ks : List ℕ
  pub many : length ks ≡ k
  pub asc : Asc low (16 * v) ks
  pub bytes : drop at s ≡ edge_bytes ks ++ drop (at + 2 * k) s
  pub ends : (key : ℕ) → is_in key ks ≡ true → Ends v key
  pub new_is : new ≡ add_all old ks

pub edges_are : (v : ℕ) → v ≤ 16 → (s : List ℕ) (k at low : ℕ) (succ : List ℕ) (r : EdgesRead) → r.outcome ≡ Read
    → r ≡ edges_at v s k at low succ → EdgesAre v low k s at succ r.succ
unfolding edges_at Asc edge_bytes add_all
edges_are v hv s zero at low succ r h e = record {
  ks = [];
  many = refl;
  asc = tt;
  bytes = at_sum s at (at + 2 * 0) (omega arith);
  ends = λ key x. absurd (clash x (empty key));
  new_is = ap (λ (x : EdgesRead). x.succ) e;
}
edges_are v hv s (suc k) at low succ r h e =
    let g = on_field (λ (x : EdgesRead). x.outcome) (λ o. record { outcome = o; succ = succ }) (λ o. refl)
    (edge_at v low s at) (edge_view v low s at hv) _ r h e in
    let key = g.0 in
    let w = edge_is v low s at key hv g.1 in
    let i = edges_are v hv s k (at + 2) (key + 1) (add_edge succ key) r h g.3 in
    let m = at_sum s (at + 2 + 2 * k) (at + 2 * suc k) (omega arith) in
    record {
      ks = key ∷ i.ks;
      many = ap suc i.many;
      asc = (w.low_is, w.under, asc_suc key (16 * v) i.ks i.asc);
      bytes = w.bytes ∙ ap (λ (z : List ℕ). key / 16 ∷ key % 16 ∷ z) (i.bytes ∙ ap (λ (z : List ℕ). edge_bytes i.ks ++ z) m);
      ends = λ x y. elim (ℕ_discrete x key) [ yes q ↦ rw q g.2 | no q ↦ i.ends x (sym (other_in x key i.ks q) ∙ y) ];
      new_is = i.new_is;
    }
  where
    asc_suc : (k top : ℕ) (ks : List ℕ) → Asc (k + 1) top ks → Asc (suc k) top ks
    asc_suc k top ks h = rw add-one at h

pub slot : (u w : ℕ) → w < 16 → ((16 * u + w) / 16 ≡ u) × ((16 * u + w) % 16 ≡ w)
slot u w h = (omega arith, omega arith)

-- ---- edges that were added to no successors
module _ (v : ℕ) (hv : v ≤ 16) (ks : List ℕ) (ends : (key : ℕ) → is_in key ks ≡ true → Ends v key) where
  low_key : (key : ℕ) → is_in key ks ≡ true → key < 256
  low_key key e = let o = (ends key e).0 in omega arith

  pub only_them : Added no_succ ks
  only_them = added no_succ ks no_rows low_key

  -- each edge is one of them
  pub edge_in_lem : (u w : ℕ) → edge (add_all no_succ ks) u w ≡ true → is_in (16 * u + w) ks ≡ true
  edge_in_lem u w e =
      let q = slot u w (edge_under (add_all no_succ ks) only_them.rows u w e).1 in
      ⊎_elim (λ z. absurd (no_edge ((16 * u + w) / 16) ((16 * u + w) % 16) z)) (λ z. z) (only_them.edges (16 * u + w) (rw (q.0, q.1) e))

  pub all_ends : AllEnds v (add_all no_succ ks)
  all_ends u w e =
      let q = slot u w (edge_under (add_all no_succ ks) only_them.rows u w e).1 in
      let o = ends (16 * u + w) (edge_in_lem u w e) in
      rw (q.0, q.1) at o

  -- and their keys are the keys of the successor bits
  pub keys_are : Asc 0 (16 * v) ks → those_below (16 * v) (λ x. edge (add_all no_succ ks) (x / 16) (x % 16)) ≡ ks
  unfolding those_below row
  keys_are asc = picked_out (λ x. edge (add_all no_succ ks) (x / 16) (x % 16)) (16 * v) 0 (16 * v) ks (omega arith) asc (λ x a b. go x (edge (add_all no_succ ks) (x / 16) (x % 16)) refl)
    where
      go : (x : ℕ) (c : Bool) → edge (add_all no_succ ks) (x / 16) (x % 16) ≡ c → c ≡ is_in x ks
      go x true e = let q : 16 * (x / 16) + x % 16 ≡ x = omega arith in sym (ap (λ (z : ℕ). is_in z ks) (sym q) ∙ edge_in_lem (x / 16) (x % 16) e)
      go x false e = sym (off_when (is_in x ks) (λ z. clash (only_them.there x z) e))
