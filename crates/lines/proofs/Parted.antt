-- Parts of a line: by what is tested of them, a dash for nothing, one vertex behind another.
use mathlib.Core.Path.{◌≡◌, refl, sym, ap, ◌∙◌}
use mathlib.Core.Bool.{Bool, true, false}
use mathlib.Core.List.{List, [], ◌∷◌, ◌++◌, append-nil, append_assoc}
use Prim.Native.Nat.{ℕ, ◌+◌, ◌/◌, ◌%◌, ◌^◌, ◌≤◌, ◌<◌}
use native.Mathlib.Omega.{arith}
use native.Mathlib.Numerals.{add-one}
use lib.Dec.{eqb, ltb}
use lib.ListN.{length, get_or, take}
use lib.Seq.{take-suc, take_all}
use borrow.Author.Tests.{eq-eqb, ne_eqb, ltb-true, ltb-false}
use Rattle.graph.specs.Words.{pick, bit}
use Rattle.text.specs.Text.{text, decimal}
use Rattle.text.specs.declared.page.Page.{Page}
use Rattle.text.specs.Page.{Adds}
use Rattle.text.proofs.Putting.{said}
use Rattle.text.proofs.Pages.{then, same, still}
use Rattle.machine.specs.declared.Triple.{Triple}
use Rattle.machine.specs.declared.Reply.{Reply}
use Rattle.machine.specs.declared.Answer.{Answer}
use Rattle.lines.specs.Lines.{or_dash, vertex_text, vertices_text, slot_in, work_in, went_text, miss_text, refusal_text, answer_text}

-- ---- a job whose slot is in the set of those that are live, or is not
module _ (live : ℕ) (work : List ℕ) (c slot : ℕ) (e : slot ≡ slot_in c) where
  pub work_shown : live / 2 ^ slot % 2 ≡ 1 → text " " ++ decimal (c / 4) ++ ((text "." ++ decimal (c % 4)) ++ (text ":" ++ decimal (get_or work slot 0))) ≡ work_in live work c
  unfolding work_in bit
  work_shown h = rw (← e, eq-eqb (live / 2 ^ slot % 2) 1 h) (simp append_assoc)

  pub work_hidden : (live / 2 ^ slot % 2 ≡ 1 → ⊥) → [] ≡ work_in live work c
  unfolding work_in bit
  work_hidden h = rw (← e, ne_eqb (live / 2 ^ slot % 2) 1 h)

-- ---- a vertex, a refusal, an answer, by what is tested of them
pub vertex_none : (p : Triple) → p.task ≡ 255 → [] ≡ vertex_text p
unfolding vertex_text
vertex_none p e = said p.task 255 _ _ e

pub vertex_is : (p : Triple) → (p.task ≡ 255 → ⊥) → text " " ++ decimal p.task ++ ((text "." ++ decimal p.age) ++ (text "." ++ decimal p.vertex)) ≡ vertex_text p
unfolding vertex_text
vertex_is p e = rw (ne_eqb p.task 255 e) (simp append_assoc)

pub refusal_none : (r : Reply) → r.task ≡ 255 → text " refuse " ++ decimal r.number ≡ refusal_text r
unfolding refusal_text
refusal_none r e = rw (eq-eqb r.task 255 e) (sym (append-nil (text " refuse " ++ decimal r.number)))

pub refusal_is : (r : Reply) → (r.task ≡ 255 → ⊥) → text " refuse " ++ decimal r.number ++ (text " task " ++ decimal r.task) ≡ refusal_text r
unfolding refusal_text
refusal_is r e = rw (ne_eqb r.task 255 e)

module _ (a : Answer) (live : ℕ) (work : List ℕ) where
  pub answer_went : a.reply.number ≡ 0 → went_text a live work ≡ answer_text a live work
  unfolding answer_text
  answer_went e = rw (eq-eqb a.reply.number 0 e)

  pub answer_missed : a.reply.number ≡ 34 → went_text a live work ++ (text " miss " ++ decimal a.reply.task) ≡ answer_text a live work
  unfolding answer_text miss_text
  answer_missed e =
      let n : a.reply.number ≡ 0 → ⊥ = λ (f : a.reply.number ≡ 0). omega arith in
      rw (ne_eqb a.reply.number 0 n, eq-eqb a.reply.number 34 e) (sym (append_assoc (went_text a live work) (text " miss ") (decimal a.reply.task)))

  pub answer_refused : (a.reply.number ≡ 0 → ⊥) → (a.reply.number ≡ 34 → ⊥) → refusal_text a.reply ≡ answer_text a live work
  unfolding answer_text
  answer_refused e f = rw (ne_eqb a.reply.number 0 e, ne_eqb a.reply.number 34 f)

-- ---- a dash where nothing was put: one is put too where the page was full before, and is cut off
pub dashed : {n : ℕ} {a b c : Page n} (l : List ℕ) → Adds a b l → Adds b c (pick (eqb b.len a.len) (text " -") []) → Adds a c (or_dash l)
unfolding or_dash
dashed {n} {a} {b} {c} [] x y =
    let q : b.len ≡ a.len = omega (arith, x.len) in
    same (then x y) (rw (eq-eqb b.len a.len q))
dashed {n} {a} {b} {c} (d ∷ l) x y = go (ltb a.len (length a.bytes)) refl
  where
    go : (t : Bool) → ltb a.len (length a.bytes) ≡ t → Adds a c (d ∷ l)
    go true e =
        let h = ltb-true a.len (length a.bytes) e in
        let q : b.len ≡ a.len → ⊥ = λ (r : b.len ≡ a.len). omega (arith, x.len) in
        same (then x y) (rw (ne_eqb b.len a.len q) (append-nil (d ∷ l)))
    go false e = still x y (ltb-false a.len (length a.bytes) e)

-- ---- vertex after vertex
-- those of one list, then those of another
both_lists : (l m : List Triple) → vertices_text (l ++ m) ≡ vertices_text l ++ vertices_text m
unfolding vertices_text
both_lists [] m = refl
both_lists (q ∷ l) m = ap (λ (x : List ℕ). vertex_text q ++ x) (both_lists l m) ∙ sym (append_assoc (vertex_text q) (vertices_text l) (vertices_text m))

after_one : (l : List Triple) (p : Triple) → vertices_text l ++ vertex_text p ≡ vertices_text (l ++ (p ∷ []))
unfolding vertices_text
after_one l p = ap (λ (x : List ℕ). vertices_text l ++ x) (sym (append-nil (vertex_text p))) ∙ sym (both_lists l (p ∷ []))

pub one_vertex : (l : List Triple) (j : ℕ) (d : Triple) → j < length l → vertices_text (take j l) ++ vertex_text (get_or l j d) ≡ vertices_text (take (j + 1) l)
one_vertex l j d h =
    after_one (take j l) (get_or l j d) ∙ ap vertices_text (sym (take-suc l j d h)) ∙ ap (λ (k : ℕ). vertices_text (take k l)) (sym (add-one j))

pub no_vertex : (l : List Triple) → [] ≡ vertices_text (take 0 l)
unfolding vertices_text
no_vertex l = refl

pub all_vertices : (l : List Triple) (j : ℕ) → length l ≤ j → vertices_text (take j l) ≡ vertices_text l
all_vertices l j h = ap vertices_text (take_all j l h)
