-- THE CHAIN OF A VERDICT (document 02, M-102): of each file that is read, the longest chain by name of the task that is named.
use mathlib.Core.Path.{◌≡◌, refl, sym, ap, subst, ◌∙◌}
use mathlib.Core.Bool.{Bool}
use mathlib.Core.List.{List, [], ◌∷◌}
use Prim.Native.Nat.{ℕ, zero, suc, ◌≤◌, ◌<◌}
use native.Mathlib.Omega.{arith}
use lib.ListN.{length, get_or, take, length-take}
use lib.IntN.{ℤ}
use lib.Seq.{ext_get_or, get_or-take}
use Rattle.graph.specs.Words.{row}
use Rattle.graph.specs.Graph.{Chain, joined, sum_along}
use Rattle.graph.proofs.Facts.{length_row, row_at, past_end}
use Rattle.graph.proofs.Long.{chain_head}
use Rattle.chains.specs.Chains.{LongestByName}
use Rattle.chains.proofs.Chains.{none_chain, first_chain_lem, first_length}
use Rattle.table.specs.declared.Table.{Table}
use Rattle.table.specs.declared.Outcome.TheVariants.{Read}
use Rattle.table.specs.Memory.{vertices, succ, edge_in, cost}
use Rattle.table.specs.Reading.{read}
use Rattle.table.specs.Good.{GoodTable}
use Rattle.table.proofs.Sound.{read_good}
use Rattle.verdict.specs.declared.Verdict.{Verdict}
use Rattle.verdict.specs.Verdicts.{len, margin, chain, in_places, listed, naming, verdict_on, verdict}
use Rattle.verdict.proofs.Says.{named_below, names}
use Rattle.verdict.proofs.Judged.{verdict_got}

-- what is listed is a chain of the task that is named; its sum is that task's len; and no chain with that sum has a smaller list
pub record NamesChain (t : Table) (v : Verdict) : Type 0 where
  pub below : v.task < t.n
  pub chain : LongestByName (vertices t v.task) (edge_in t v.task) (cost t v.task) (listed v)
  pub its_len : sum_along (cost t v.task) (listed v) ≡ len t v.task
  -- it has one vertex or more, and at most as many as the task; the other places are 255
  pub some : 1 ≤ v.count
  pub few : v.count ≤ vertices t v.task
  pub unused : (i : ℕ) → v.count ≤ i → i < 16 → get_or v.chain i 0 ≡ 255
  pub vertex : (i : ℕ) → i < v.count → get_or v.chain i 0 < vertices t v.task

-- ---- a list in sixteen places
places_are : (c : List ℕ) → length c ≤ 16 → take (length c) (in_places c) ≡ c
unfolding in_places
places_are c h =
    let long : length (take (length c) (row 16 (λ i. get_or c i 255))) ≡ length c =
    length-take (length c) (row 16 (λ i. get_or c i 255)) ∙ omega (arith, length_row 16 (λ i. get_or c i 255)) in
    ext_get_or 255 (take (length c) (row 16 (λ i. get_or c i 255))) c long
    (λ i b. get_or-take (length c) (row 16 (λ i. get_or c i 255)) i 255 (omega (arith, long)) ∙ row_at 16 (λ i. get_or c i 255) i 255 (omega (arith, long)))

places_unused : (c : List ℕ) (i : ℕ) → length c ≤ i → i < 16 → get_or (in_places c) i 0 ≡ 255
unfolding in_places
places_unused c i h b = row_at 16 (λ i. get_or c i 255) i 0 b ∙ past_end c i 255 h

chain_at : (v : ℕ) (E : ℕ → ℕ → Bool) (c : List ℕ) → Chain v E c → (i : ℕ) → i < length c → get_or c i 255 < v
chain_at v E [] p i b = absurd (none_chain p)
chain_at v E (u ∷ []) p zero b = chain_head v E p
chain_at v E (u ∷ []) p (suc i) b = absurd (omega arith)
chain_at v E (u ∷ w ∷ c) p zero b = chain_head v E p
chain_at v E (u ∷ w ∷ c) (joined h e p) (suc i) b = chain_at v E (w ∷ c) p i (omega arith)

places_at : (c : List ℕ) (i : ℕ) → i < 16 → get_or (in_places c) i 0 ≡ get_or c i 255
unfolding in_places
places_at c i b = row_at 16 (λ i. get_or c i 255) i 0 b

module _ (t : Table) (good : GoodTable t) (k : ℕ) (b : k < t.n) where
  -- WHAT `chain` MEANS
  pub chain_named : LongestByName (vertices t k) (edge_in t k) (cost t k) (chain t k)
  unfolding chain edge_in
  chain_named = let g = good.each k b in first_chain_lem (vertices t k) (succ t k) (cost t k) g.v_low g.v_high g.no_cycle

  pub chain_few : length (chain t k) ≤ vertices t k
  unfolding chain edge_in
  chain_few = let g = good.each k b in first_length (vertices t k) (succ t k) (cost t k) g.v_low g.v_high g.no_cycle

  chain_some : 1 ≤ length (chain t k)
  chain_some = go (chain t k) chain_named.chain
    where
      go : (c : List ℕ) → Chain (vertices t k) (edge_in t k) c → 1 ≤ length c
      go [] p = absurd (none_chain p)
      go (u ∷ c) p = omega arith

  -- an answer that names task k and hands on its chain, whatever its number and margin
  listed_is : (number : ℕ) (z : ℤ)
      → listed (record { number = number; place = 0; task = k; margin = z; count = length (chain t k); chain = in_places (chain t k) }) ≡ chain t k
  unfolding listed
  listed_is number z = let v = (good.each k b).v_high in places_are (chain t k) (omega (arith, chain_few))

  pub names_chain : (number : ℕ) (z : ℤ)
      → NamesChain t (record { number = number; place = 0; task = k; margin = z; count = length (chain t k); chain = in_places (chain t k) })
  unfolding len
  names_chain number z = record {
    below = b;
    chain = subst (LongestByName (vertices t k) (edge_in t k) (cost t k)) (sym (listed_is number z)) chain_named;
    its_len = ap (sum_along (cost t k)) (listed_is number z) ∙ chain_named.sum;
    some = chain_some;
    few = chain_few;
    unused = places_unused (chain t k);
    vertex = λ i l.
        let v = (good.each k b).v_high in
        omega (arith, chain_few, places_at (chain t k) i (omega (arith, chain_few)), chain_at (vertices t k) (edge_in t k) (chain t k) chain_named.chain i l);
  }

-- every good table
pub table_chain : (t : Table) → GoodTable t → NamesChain t (verdict_on t)
unfolding naming
table_chain t good =
    subst (NamesChain t) (sym (names t good)) (names_chain t good (verdict_on t).task (named_below t good) (verdict_on t).number (margin t (verdict_on t).task))

-- EVERY FILE THAT IS READ; of one that is not, `Unreadable` (proofs/Says.antt) says that there is no chain
pub verdict_chain : (s : List ℕ) → (read s).outcome ≡ Read → NamesChain (read s).table (verdict s)
verdict_chain s e =
    subst (NamesChain (read s).table) (verdict_got s (read s) refl (verdict_on (read s).table) e refl) (table_chain (read s).table (read_good s e))
