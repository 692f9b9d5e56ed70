-- Laws of the starts: what a vertex that is taken out changes, and how large they grow.
use mathlib.Core.Path.{◌≡◌, refl, sym, ap, ap₂, subst, ◌∙◌}
use mathlib.Core.Bool.{Bool, true, false}
use mathlib.Core.List.{List, [], ◌∷◌}
use Prim.Native.Nat.{ℕ, suc, ◌+◌, ◌*◌, ◌≤◌, ◌<◌, max}
use native.Mathlib.Omega.{arith}
use native.Mathlib.Decide.{ℕ_discrete}
use lib.ListN.{length, get_or, set, length-set}
use lib.Seq.{get_or-set_same, get_or-set_other}
use Rattle.graph.specs.Words.{pick, members, is_in}
use Rattle.graph.specs.Graph.{edge}
use Rattle.graph.specs.Order.{raised, passed, passed_all, best_all}
use Rattle.graph.proofs.Facts.{first_in, other_in, tail_in}
use Rattle.graph.proofs.Members.{members_zero, in_members}

-- ---- the code's loops, vertex by vertex: what is left to do gives the whole
module _ (end : ℕ) where
  pub raised_end : (starts : List ℕ) (rest : ℕ) → rest ≡ 0 → starts ≡ raised starts end (members rest)
  unfolding raised
  raised_end starts rest e = sym (ap (raised starts end) (ap members e ∙ members_zero))

  pub raised_more : (starts : List ℕ) (rest less w m : ℕ) → members rest ≡ w ∷ members less → m ≡ max (get_or starts w 0) end → raised (set starts w m) end (members less) ≡ raised starts end (members rest)
  unfolding raised
  raised_more starts rest less w m q h =
      ap (λ (x : ℕ). raised (set starts w x) end (members less)) h ∙ ap (raised starts end) (sym q)

module _ (succ times : List ℕ) where
  pub passed_all_end : (starts : List ℕ) (rest : ℕ) → rest ≡ 0 → starts ≡ passed_all succ times starts (members rest)
  unfolding passed_all
  passed_all_end starts rest e = sym (ap (passed_all succ times starts) (ap members e ∙ members_zero))

  pub passed_all_more : (starts next : List ℕ) (rest less u t : ℕ) → members rest ≡ u ∷ members less → t ≡ get_or times u 0
      → next ≡ raised starts (get_or starts u 0 + t) (members (get_or succ u 0)) → (next ≡ passed succ times starts u)
      × (passed_all succ times next (members less) ≡ passed_all succ times starts (members rest))
  unfolding passed_all passed
  passed_all_more starts next rest less u t q h n =
      let p : next ≡ passed succ times starts u = n ∙ ap (λ (x : ℕ). raised starts (get_or starts u 0 + x) (members (get_or succ u 0))) h in (
        p,
        ap (λ (l : List ℕ). passed_all succ times l (members less)) p
            ∙ ap (passed_all succ times starts) (sym q),
      )

  pub best_all_end : (starts : List ℕ) (best rest : ℕ) → rest ≡ 0 → best ≡ best_all succ times starts best (members rest)
  unfolding best_all
  best_all_end starts best rest e = sym (ap (best_all succ times starts best) (ap members e ∙ members_zero))

  pub best_all_more : (starts next : List ℕ) (best most rest less u t : ℕ) → members rest ≡ u ∷ members less → t ≡ get_or times u 0 → next ≡ passed succ times starts u
      → most ≡ max best (get_or starts u 0 + t) → best_all succ times next most (members less) ≡ best_all succ times starts best (members rest)
  unfolding best_all
  best_all_more starts next best most rest less u t q h n m =
      ap₂ (λ (l : List ℕ) (b : ℕ). best_all succ times l b (members less)) n (m ∙ ap (λ (x : ℕ). max best (get_or starts u 0 + x)) h)
      ∙ ap (best_all succ times starts best) (sym q)

-- ---- what is raised
pub raised_length : (starts : List ℕ) (end : ℕ) (ws : List ℕ) → length (raised starts end ws) ≡ length starts
unfolding raised
raised_length starts end [] = refl
raised_length starts end (w ∷ ws) =
    raised_length (set starts w (max (get_or starts w 0) end)) end ws ∙ length-set starts w (max (get_or starts w 0) end)

pub raised_at : (starts : List ℕ) (end : ℕ) (ws : List ℕ) (x : ℕ) → x < length starts
    → get_or (raised starts end ws) x 0 ≡ pick (is_in x ws) (max (get_or starts x 0) end) (get_or starts x 0)
unfolding raised is_in
raised_at starts end [] x h = refl
raised_at starts end (w ∷ ws) x h =
    let m : ℕ = max (get_or starts w 0) end in
    let r = raised_at (set starts w m) end ws x (omega (arith, length-set starts w m)) in
    elim (ℕ_discrete x w) [
      | yes e ↦
          let s : get_or (set starts w m) x 0 ≡ max (get_or starts x 0) end = rw e (get_or-set_same starts w m 0 (omega arith)) in
          let i : is_in x (w ∷ ws) ≡ true = subst (λ (z : ℕ). is_in z (w ∷ ws) ≡ true) (sym e) (first_in w ws) in
          r ∙ same (is_in x ws) (get_or (set starts w m) x 0) s ∙ sym (ap (λ (b : Bool). pick b (max (get_or starts x 0) end) (get_or starts x 0)) i)
      | no d ↦
          r ∙ ap (λ (s : ℕ). pick (is_in x ws) (max s end) s) (get_or-set_other starts w x m 0 d)
          ∙ sym (ap (λ (b : Bool). pick b (max (get_or starts x 0) end) (get_or starts x 0)) (other_in x w ws d))
    ]
  where
    same : (b : Bool) (s : ℕ) → s ≡ max (get_or starts x 0) end → pick b (max s end) s ≡ max (get_or starts x 0) end
    same true s e = omega arith
    same false s e = e

-- ---- one vertex taken out
module _ (succ times starts : List ℕ) (size : length starts ≡ 16) (u : ℕ) where
  pub passed_length : length (passed succ times starts u) ≡ 16
  unfolding passed
  passed_length = raised_length starts (get_or starts u 0 + get_or times u 0) (members (get_or succ u 0)) ∙ size

  pub passed_at : (x : ℕ) → x < 16
      → get_or (passed succ times starts u) x 0 ≡ pick (edge succ u x) (max (get_or starts x 0) (get_or starts u 0 + get_or times u 0)) (get_or starts x 0)
  unfolding passed edge
  passed_at x h =
      raised_at starts (get_or starts u 0 + get_or times u 0) (members (get_or succ u 0)) x (omega arith)
      ∙ ap (λ (b : Bool). pick b (max (get_or starts x 0) (get_or starts u 0 + get_or times u 0)) (get_or starts x 0)) (in_members (get_or succ u 0) x h)

  -- one that u does not lead to starts as before
  pub passed_other : (x : ℕ) → x < 16 → edge succ u x ≡ false → get_or (passed succ times starts u) x 0 ≡ get_or starts x 0
  passed_other x h e = passed_at x h ∙ rw e refl

  pub passed_on : (x : ℕ) → x < 16 → edge succ u x ≡ true
      → get_or (passed succ times starts u) x 0 ≡ max (get_or starts x 0) (get_or starts u 0 + get_or times u 0)
  passed_on x h e = passed_at x h ∙ rw e refl

-- ---- how large they grow: by less than 2 ^ 32 with each vertex that is taken out
abbrev pub Room : List ℕ → ℕ → ℕ → Type 0
Room starts n most = (w : ℕ) → w < 16 → get_or starts w 0 + 4294967296 * n ≤ most

module _ (succ times : List ℕ) where
  pub passed_room : (starts : List ℕ) → length starts ≡ 16 → (u n most : ℕ) → u < 16 → get_or times u 0 < 4294967296 → Room starts (suc n) most
      → Room (passed succ times starts u) n most
  passed_room starts size u n most b small r w h = go (edge succ u w) (passed_at succ times starts size u w h)
    where
      go : (d : Bool) → get_or (passed succ times starts u) w 0 ≡ pick d (max (get_or starts w 0) (get_or starts u 0 + get_or times u 0)) (get_or starts w 0)
          → get_or (passed succ times starts u) w 0 + 4294967296 * n ≤ most
      go true e = omega (arith, r w h, r u b)
      go false e = omega (arith, r w h)

  pub passed_all_room : ((u : ℕ) → get_or times u 0 < 4294967296) → (starts : List ℕ) → length starts ≡ 16 → (us : List ℕ)
      → ((u : ℕ) → is_in u us ≡ true → u < 16) → (n most : ℕ) → Room starts (length us + n) most → Room (passed_all succ times starts us) n most
  unfolding passed_all
  passed_all_room small starts size [] b n most r = λ w h. omega (arith, r w h)
  passed_all_room small starts size (u ∷ us) b n most r =
      passed_all_room small (passed succ times starts u) (passed_length succ times starts size u) us (λ x i. b x (tail_in x u us i)) n most
      (passed_room starts size u (length us + n) most (b u (first_in u us)) (small u) (λ w h. omega (arith, r w h)))
