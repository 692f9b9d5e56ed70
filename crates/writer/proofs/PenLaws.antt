-- What a pen puts, part behind part.
use mathlib.Core.Path.{◌≡◌, refl, sym, ap, ◌∙◌}
use mathlib.Core.List.{List, [], ◌∷◌, ◌++◌}
use Prim.Native.Nat.{ℕ, ◌+◌}
use native.Mathlib.Omega.{arith}
use lib.ListN.{length, length-append}
use lib.Seq.{sets, length-sets}
use Rattle.table.specs.declared.Task.{Task}
use Rattle.table.specs.Writing.{bytes4, edge_bytes}
use Rattle.checks.specs.Checking.{keys_of}
use Rattle.writer.specs.Putting.{cost_bytes, task_bytes, HasRoom, Puts}
use Rattle.writer.specs.declared.writing.Pen.{Pen}
use Rattle.writer.proofs.PutLaws.{sets_then}

-- two parts, one behind the other
pub puts_then : {p q r : Pen} {xs ys : List ℕ} → Puts p q xs → Puts q r ys → Puts p r (xs ++ ys)
puts_then {p} {q} {r} {xs} {ys} f g =
    let m = length-append xs ys in
    let a = f.at in
    let b = g.at in
    record {
      same = g.same ∙ f.same;
      buffer = g.buffer ∙ sets_then xs ys p.buffer.now q.buffer.now p.at q.at f.buffer a;
      at = omega arith;
    }

-- room for both is room for the first, and when it is put for the other
pub room_first : {p : Pen} {xs : List ℕ} (ys : List ℕ) → HasRoom p (xs ++ ys) → HasRoom p xs
room_first {p} {xs} ys h =
    let m = length-append xs ys in
    let k = h.fits in
    record { fits = omega arith }

pub room_rest : {p q : Pen} {xs ys : List ℕ} → HasRoom p (xs ++ ys) → Puts p q xs → HasRoom q ys
room_rest {p} {q} {xs} {ys} h f =
    let m = length-append xs ys in
    let n = ap length f.buffer ∙ length-sets p.buffer.now p.at xs in
    let a = f.at in
    let k = h.fits in
    record { fits = omega arith }

-- a pen that has to put all, from p on, is at q, and has the rest to put
pub record ToPut (p q : Pen) (all rest : List ℕ) : Type 0 where
  pub same : q.buffer.ghost_name ≡ p.buffer.ghost_name
  pub long : length q.buffer.now ≡ length p.buffer.now
  pub at : q.at + length rest ≡ p.at + length all
  pub buffer : sets q.buffer.now q.at rest ≡ sets p.buffer.now p.at all

pub begun : {p : Pen} {all rest : List ℕ} → rest ≡ all → ToPut p p all rest
begun {p} {all} {rest} e = record {
  same = refl;
  long = refl;
  at = ap (λ (l : List ℕ). p.at + length l) e;
  buffer = ap (sets p.buffer.now p.at) e;
}

-- the next part is put
pub went_on : {p q r : Pen} {all before part rest : List ℕ} → ToPut p q all before → before ≡ part ++ rest → Puts q r part → ToPut p r all rest
went_on {p} {q} {r} {all} {before} {part} {rest} g e w =
    let n = ap length e in
    let m = length-append part rest in
    let a = g.at in
    let b = w.at in
    record {
      same = w.same ∙ g.same;
      long = ap length w.buffer ∙ length-sets q.buffer.now q.at part ∙ g.long;
      at = omega arith;
      buffer = sets_then part rest q.buffer.now r.buffer.now q.at r.at w.buffer w.at ∙ ap (sets q.buffer.now q.at) (sym e) ∙ g.buffer;
    }

-- nothing is left to put
pub all_put : {p q : Pen} {all rest : List ℕ} → ToPut p q all rest → rest ≡ [] → Puts p q all
all_put {p} {q} {all} {rest} g e =
    let n = ap length e in
    let a = g.at in
    record {
      same = g.same;
      buffer = ap (sets q.buffer.now q.at) (sym e) ∙ g.buffer;
      at = omega arith;
    }

-- there is room for the next part
pub has_room : {p q : Pen} {all before part : List ℕ} (rest : List ℕ) → ToPut p q all before → before ≡ part ++ rest → HasRoom p all → HasRoom q part
has_room {p} {q} {all} {before} {part} rest g e h =
    let n = ap length e in
    let m = length-append part rest in
    let a = g.at in
    let l = g.long in
    let k = h.fits in
    record { fits = omega arith }

-- a task's parts: whatever number its head gives for e, they need as much room
pub task_parts : {p : Pen} (a : Task) (costs : List ℕ) (slot e : ℕ) → HasRoom p (task_bytes a costs slot)
    → HasRoom p ((0x54 ∷ 0x4B ∷ a.v ∷ e ∷ []) ++ (bytes4 a.d ++ (bytes4 a.t ++ (cost_bytes costs slot a.v ++ edge_bytes (keys_of a.v a.succ)))))
unfolding task_bytes
task_parts a costs slot e h = record { fits = h.fits }
