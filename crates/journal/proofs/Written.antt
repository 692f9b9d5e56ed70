-- A row and its bytes, both ways.
use mathlib.Core.Path.{◌≡◌, refl, sym, ap, ◌∙◌}
use mathlib.Core.List.{List, [], ◌∷◌, ◌++◌}
use Prim.Native.Nat.{ℕ, zero, suc, ◌+◌, ◌*◌, ◌/◌, ◌%◌, ◌≤◌, ◌<◌}
use native.Mathlib.Omega.{arith}
use native.Mathlib.Numerals.{add-one}
use native.Mathlib.Nat.{add-zero}
use lib.ListN.{length, get_or, drop, length-drop, length-append}
use lib.Seq.{drop-cons, drop-drop, get_or-drop, drop_at}
use Rattle.graph.specs.Words.{row, row_from}
use Rattle.graph.proofs.Facts.{length_row}
use Rattle.machine.specs.Steps.{task_in, age_in, vertex_in}
use Rattle.machine.proofs.Index.{name_task, name_age, name_vertex, name_of}
use Rattle.journal.specs.Rows.{row_set, row_count, row_task, row_age, row_vertex, row_key, row_end, listed}
use Rattle.journal.specs.Runs.{triple_bytes, row_bytes}
use Rattle.machine.proofs.Filling.{row_same}

-- ---- from a journal to the bytes of its row
next : (s : List ℕ) (at : ℕ) → at < length s → drop at s ≡ get_or s at 0 ∷ drop (at + 1) s
next s at h = drop-cons s at 0 h ∙ ap (λ (k : ℕ). get_or s at 0 ∷ drop k s) (sym (add-one at))

module _ (s : List ℕ) (at : ℕ) where
  task : (i : ℕ) → get_or s (at + 5 + 3 * i) 0 ≡ row_task s at i
  unfolding row_task
  task i = refl

  age : (i : ℕ) → get_or s (at + 6 + 3 * i) 0 ≡ row_age s at i
  unfolding row_age
  age i = refl

  vertex : (i : ℕ) → get_or s (at + 7 + 3 * i) 0 ≡ row_vertex s at i
  unfolding row_vertex
  vertex i = refl

  -- each triple is that of its key
  abbrev Named : ℕ → Type 0
  Named n = (j : ℕ) → j < n → (row_age s at j < 4) × (row_vertex s at j < 16)

  key_task : (n : ℕ) → Named n → (i : ℕ) → i < n → row_task s at i ≡ task_in (row_key s at i)
  unfolding row_key
  key_task n v i h = sym (name_task (row_task s at i) (row_age s at i) (row_vertex s at i) (v i h).0 (v i h).1)

  key_age : (n : ℕ) → Named n → (i : ℕ) → i < n → row_age s at i ≡ age_in (row_key s at i)
  unfolding row_key
  key_age n v i h = sym (name_age (row_task s at i) (row_age s at i) (row_vertex s at i) (v i h).0 (v i h).1)

  key_vertex : (n : ℕ) → Named n → (i : ℕ) → i < n → row_vertex s at i ≡ vertex_in (row_key s at i)
  unfolding row_key
  key_vertex n v i h = sym (name_vertex (row_task s at i) (row_age s at i) (row_vertex s at i) (v i h).0 (v i h).1)

  -- three bytes
  three : (i a b c : ℕ) → i + 3 ≤ length s → get_or s i 0 ≡ a → get_or s (i + 1) 0 ≡ b → get_or s (i + 2) 0 ≡ c → drop i s ≡ a ∷ b ∷ c ∷ drop (i + 3) s
  three i a b c h x y z =
      let m : i + 1 + 1 ≡ i + 2 = omega arith in
      let n : i + 2 + 1 ≡ i + 3 = omega arith in
      next s i (omega arith)
      ∙ ap (◌∷◌ (get_or s i 0)) (next s (i + 1) (omega arith) ∙ ap (λ (k : ℕ). get_or s (i + 1) 0 ∷ drop k s) m
      ∙ ap (◌∷◌ (get_or s (i + 1) 0)) (next s (i + 2) (omega arith) ∙ ap (λ (k : ℕ). get_or s (i + 2) 0 ∷ drop k s) n))
      ∙ ap (λ (k : ℕ). k ∷ get_or s (i + 1) 0 ∷ get_or s (i + 2) 0 ∷ drop (i + 3) s) x
      ∙ ap (λ (k : ℕ). a ∷ k ∷ get_or s (i + 2) 0 ∷ drop (i + 3) s) y
      ∙ ap (λ (k : ℕ). a ∷ b ∷ k ∷ drop (i + 3) s) z

  triples_from : (k i : ℕ) → at + 5 + 3 * (i + k) ≤ length s → Named (i + k)
      → drop (at + 5 + 3 * i) s ≡ triple_bytes (row_from k i (row_key s at)) ++ drop (at + 5 + 3 * (i + k)) s
  unfolding row_from triple_bytes
  triples_from zero i h v = let e : at + 5 + 3 * i ≡ at + 5 + 3 * (i + 0) = omega arith in ap (λ (n : ℕ). drop n s) e
  triples_from (suc k) i h v =
      let n : at + 5 + 3 * i + 3 ≡ at + 5 + 3 * suc i = omega arith in
      let m : at + 5 + 3 * (suc i + k) ≡ at + 5 + 3 * (i + suc k) = omega arith in
      let q : at + 5 + 3 * i + 1 ≡ at + 6 + 3 * i = omega arith in
      let o : at + 5 + 3 * i + 2 ≡ at + 7 + 3 * i = omega arith in
      let l : i < i + suc k = omega arith in
      let r = triples_from k (suc i) (omega arith) (λ j l. v j (omega arith)) in
      three (at + 5 + 3 * i) _ _ _ (omega arith) (task i ∙ key_task (i + suc k) v i l)
      (ap (λ (k : ℕ). get_or s k 0) q ∙ age i ∙ key_age (i + suc k) v i l)
      (ap (λ (k : ℕ). get_or s k 0) o ∙ vertex i ∙ key_vertex (i + suc k) v i l)
      ∙ ap (λ (z : List ℕ). task_in (row_key s at i) ∷ age_in (row_key s at i) ∷ vertex_in (row_key s at i) ∷ z)
      (ap (λ (k : ℕ). drop k s) n ∙ r ∙ ap (λ (c : ℕ). triple_bytes (row_from k (suc i) (row_key s at)) ++ drop c s) m)

  one : (i j : ℕ) → i + 1 ≡ j → i < length s → drop i s ≡ get_or s i 0 ∷ drop j s
  one i j e h = next s i h ∙ ap (λ (k : ℕ). get_or s i 0 ∷ drop k s) e

  low_byte : (a b : ℕ) → a < 256 → a ≡ (a + 256 * b) % 256
  low_byte a b h = omega arith

  high_byte : (a b : ℕ) → a < 256 → b ≡ (a + 256 * b) / 256
  high_byte a b h = omega arith

  -- THE BYTES of a row that lies within the journal, has its mark, and lists age places below 4 and vertices below 16
  module _ (bytes : (k : ℕ) → get_or s k 0 < 256) (whole : row_end s at ≤ length s) (m₁ : get_or s at 0 ≡ 0x4A) (m₂ : get_or s (at + 1) 0 ≡ 0x52)
      (v : Named (row_count s at)) where
    within : at + 5 ≤ length s
    unfolding row_end
    within = omega arith

    mark_bytes : drop at s ≡ 0x4A ∷ 0x52 ∷ drop (at + 2) s
    mark_bytes =
        let w = within in
        one at (at + 1) (omega arith) (omega arith) ∙ ap (λ (z : ℕ). z ∷ drop (at + 1) s) m₁
        ∙ ap (◌∷◌ 0x4A) (one (at + 1) (at + 2) (omega arith) (omega arith) ∙ ap (λ (z : ℕ). z ∷ drop (at + 2) s) m₂)

    low_is : drop (at + 2) s ≡ row_set s at % 256 ∷ drop (at + 3) s
    unfolding row_set
    low_is =
        let w = within in
        one (at + 2) (at + 3) (omega arith) (omega arith)
        ∙ ap (λ (z : ℕ). z ∷ drop (at + 3) s) (low_byte (get_or s (at + 2) 0) (get_or s (at + 3) 0) (bytes (at + 2)))

    high_is : drop (at + 3) s ≡ row_set s at / 256 ∷ drop (at + 4) s
    unfolding row_set
    high_is =
        let w = within in
        one (at + 3) (at + 4) (omega arith) (omega arith)
        ∙ ap (λ (z : ℕ). z ∷ drop (at + 4) s) (high_byte (get_or s (at + 2) 0) (get_or s (at + 3) 0) (bytes (at + 2)))

    count_byte : drop (at + 4) s ≡ length (listed s at) ∷ drop (at + 5) s
    unfolding row_count listed
    count_byte =
        let w = within in
        one (at + 4) (at + 5) (omega arith) (omega arith) ∙ ap (λ (z : ℕ). z ∷ drop (at + 5) s) (sym (length_row (row_count s at) (row_key s at)))

    the_triples : drop (at + 5) s ≡ triple_bytes (listed s at) ++ drop (row_end s at) s
    unfolding row_end listed row
    the_triples =
        let q : at + 5 ≡ at + 5 + 3 * 0 = omega arith in
        let n : at + 5 + 3 * (0 + row_count s at) ≡ at + 5 + 3 * row_count s at = omega arith in
        ap (λ (k : ℕ). drop k s) q ∙ triples_from (row_count s at) 0 (omega arith) (λ j l. v j (omega arith))
        ∙ ap (λ (k : ℕ). triple_bytes (row_from (row_count s at) 0 (row_key s at)) ++ drop k s) n

    pub row_bytes_lem : drop at s ≡ row_bytes (row_set s at) (listed s at) ++ drop (row_end s at) s
    unfolding row_bytes
    row_bytes_lem =
        mark_bytes
        ∙ ap (λ (z : List ℕ). 0x4A ∷ 0x52 ∷ z) low_is
        ∙ ap (λ (z : List ℕ). 0x4A ∷ 0x52 ∷ row_set s at % 256 ∷ z) high_is
        ∙ ap (λ (z : List ℕ). 0x4A ∷ 0x52 ∷ row_set s at % 256 ∷ row_set s at / 256 ∷ z) count_byte
        ∙ ap (λ (z : List ℕ). 0x4A ∷ 0x52 ∷ row_set s at % 256 ∷ row_set s at / 256 ∷ length (listed s at) ∷ z) the_triples

-- ---- from the bytes of a row to its fields
triple_length : (ks : List ℕ) → length (triple_bytes ks) ≡ 3 * length ks
unfolding triple_bytes
triple_length [] = refl
triple_length (k ∷ ks) = let h = triple_length ks in omega arith

pub row_length : (named : ℕ) (keys : List ℕ) → length (row_bytes named keys) ≡ 5 + 3 * length keys
unfolding row_bytes
row_length named keys = let h = triple_length keys in omega arith

triple_task : (ks r : List ℕ) (j : ℕ) → j < length ks → get_or (triple_bytes ks ++ r) (3 * j) 0 ≡ task_in (get_or ks j 0)
unfolding triple_bytes
triple_task [] r j h = absurd (omega arith)
triple_task (k ∷ ks) r zero h = refl
triple_task (k ∷ ks) r (suc j) h =
    let e : 3 * suc j ≡ suc (suc (suc (3 * j))) = omega arith in
    ap (λ (n : ℕ). get_or (triple_bytes (k ∷ ks) ++ r) n 0) e ∙ triple_task ks r j (omega arith)

triple_age : (ks r : List ℕ) (j : ℕ) → j < length ks → get_or (triple_bytes ks ++ r) (3 * j + 1) 0 ≡ age_in (get_or ks j 0)
unfolding triple_bytes
triple_age [] r j h = absurd (omega arith)
triple_age (k ∷ ks) r zero h = refl
triple_age (k ∷ ks) r (suc j) h =
    let e : 3 * suc j + 1 ≡ suc (suc (suc (3 * j + 1))) = omega arith in
    ap (λ (n : ℕ). get_or (triple_bytes (k ∷ ks) ++ r) n 0) e ∙ triple_age ks r j (omega arith)

triple_vertex : (ks r : List ℕ) (j : ℕ) → j < length ks → get_or (triple_bytes ks ++ r) (3 * j + 2) 0 ≡ vertex_in (get_or ks j 0)
unfolding triple_bytes
triple_vertex [] r j h = absurd (omega arith)
triple_vertex (k ∷ ks) r zero h = refl
triple_vertex (k ∷ ks) r (suc j) h =
    let e : 3 * suc j + 2 ≡ suc (suc (suc (3 * j + 2))) = omega arith in
    ap (λ (n : ℕ). get_or (triple_bytes (k ∷ ks) ++ r) n 0) e ∙ triple_vertex ks r j (omega arith)

module _ (named : ℕ) (keys s : List ℕ) (at : ℕ) (rest : List ℕ) (e : drop at s ≡ row_bytes named keys ++ rest) where
  at_byte : (i : ℕ) → get_or s (at + i) 0 ≡ get_or (row_bytes named keys ++ rest) i 0
  at_byte i = sym (get_or-drop at s i 0) ∙ ap (λ (l : List ℕ). get_or l i 0) e

  pub first_mark : get_or s at 0 ≡ 0x4A
  unfolding row_bytes
  first_mark = ap (λ (k : ℕ). get_or s k 0) (sym (add-zero at)) ∙ at_byte 0

  pub second_mark : get_or s (at + 1) 0 ≡ 0x52
  unfolding row_bytes
  second_mark = at_byte 1

  pub set_is : row_set s at ≡ named
  unfolding row_set row_bytes
  set_is = let a : get_or s (at + 2) 0 ≡ named % 256 = at_byte 2 in let b : get_or s (at + 3) 0 ≡ named / 256 = at_byte 3 in omega arith

  pub count_is : row_count s at ≡ length keys
  unfolding row_count row_bytes
  count_is = at_byte 4

  pub task_is : (j : ℕ) → j < length keys → row_task s at j ≡ task_in (get_or keys j 0)
  unfolding row_task row_bytes
  task_is j h =
      let n : at + 5 + 3 * j ≡ at + (5 + 3 * j) = omega arith in
      let m : 5 + 3 * j ≡ suc (suc (suc (suc (suc (3 * j))))) = omega arith in
      ap (λ (k : ℕ). get_or s k 0) n ∙ at_byte (5 + 3 * j) ∙ ap (λ (k : ℕ). get_or (row_bytes named keys ++ rest) k 0) m ∙ triple_task keys rest j h

  pub age_is : (j : ℕ) → j < length keys → row_age s at j ≡ age_in (get_or keys j 0)
  unfolding row_age row_bytes
  age_is j h =
      let n : at + 6 + 3 * j ≡ at + (6 + 3 * j) = omega arith in
      let m : 6 + 3 * j ≡ suc (suc (suc (suc (suc (3 * j + 1))))) = omega arith in
      ap (λ (k : ℕ). get_or s k 0) n ∙ at_byte (6 + 3 * j) ∙ ap (λ (k : ℕ). get_or (row_bytes named keys ++ rest) k 0) m ∙ triple_age keys rest j h

  pub vertex_is : (j : ℕ) → j < length keys → row_vertex s at j ≡ vertex_in (get_or keys j 0)
  unfolding row_vertex row_bytes
  vertex_is j h =
      let n : at + 7 + 3 * j ≡ at + (7 + 3 * j) = omega arith in
      let m : 7 + 3 * j ≡ suc (suc (suc (suc (suc (3 * j + 2))))) = omega arith in
      ap (λ (k : ℕ). get_or s k 0) n ∙ at_byte (7 + 3 * j) ∙ ap (λ (k : ℕ). get_or (row_bytes named keys ++ rest) k 0) m ∙ triple_vertex keys rest j h

  pub key_is : (j : ℕ) → j < length keys → row_key s at j ≡ get_or keys j 0
  unfolding row_key
  key_is j h = let a = task_is j h in let b = age_is j h in let c = vertex_is j h in let d = name_of (get_or keys j 0) in omega arith

  pub listed_is : listed s at ≡ keys
  unfolding listed
  listed_is = let c = count_is in row_same (row_count s at) 0 (row_key s at) keys (sym c) (λ k b. key_is k (omega arith))

  pub whole_row : row_end s at ≤ length s
  unfolding row_end
  whole_row =
      let l = length-drop at s in
      let m : length (drop at s) ≡ length (row_bytes named keys) + length rest = ap length e ∙ length-append (row_bytes named keys) rest in
      let n = row_length named keys in
      let c = count_is in
      omega arith

  pub after_row : drop (row_end s at) s ≡ rest
  unfolding row_end
  after_row =
      let c = count_is in
      let n : at + 5 + 3 * row_count s at ≡ at + (5 + 3 * length keys) = omega arith in
      ap (λ (k : ℕ). drop k s) n ∙ sym (drop-drop (5 + 3 * length keys) at s) ∙ ap (drop (5 + 3 * length keys)) e
      ∙ drop_at (row_bytes named keys) rest (5 + 3 * length keys) (row_length named keys)
