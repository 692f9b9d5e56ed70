-- Every line fits its buffer: at most 86 bytes for opening, 1,905 for a tick.
use mathlib.Core.Path.{◌≡◌}
use mathlib.Core.Bool.{Bool, true, false}
use mathlib.Core.List.{List, [], ◌∷◌, ◌++◌}
use Prim.Native.Nat.{ℕ, ◌*◌, ◌/◌, ◌%◌, ◌^◌, ◌≤◌, ◌<◌}
use native.Mathlib.Omega.{arith}
use native.Mathlib.Nat.{mul-suc}
use lib.Dec.{eqb}
use lib.ListN.{length, get_or, length-append}
use Rattle.graph.specs.Words.{pick, bit, in_order}
use Rattle.text.specs.Text.{text, newline, decimal}
use Rattle.text.proofs.Decimal.{decimal_short, decimal_length}
use Rattle.text.proofs.Putting.{joined_most}
use Rattle.table.specs.declared.Outcome.{Outcome}
use Rattle.table.specs.declared.Outcome.TheVariants.{Read, Short, Mark, Range, Ticks, Order, Edge, Cycle, Extra}
use Rattle.table.specs.declared.Table.{Table}
use Rattle.table.specs.Numbers.{number, place}
use Rattle.table.specs.Reading.{when_read, read}
use Rattle.machine.specs.declared.Triple.{Triple}
use Rattle.machine.specs.declared.Reply.{Reply}
use Rattle.machine.specs.declared.Answer.{Answer}
use Rattle.lines.specs.Lines.{refuse_line, opened_line, open_line_read, open_line, or_dash, number_in, numbers_in, vertex_text, vertices_text, slot_in, work_in, left_text, went_text, miss_text, refusal_text, answer_text, tick_line}

-- ---- opening
refuse_most : (o : Outcome) → length (refuse_line o) ≤ 86
unfolding refuse_line text newline
refuse_most o = simp length-append (omega (arith, (decimal_length (number o)).1, (decimal_length (place o)).1))

opened_most : (clock : ℕ) (t : Table) → length (opened_line clock t) ≤ 86
unfolding opened_line text newline
opened_most clock t = simp length-append (omega (arith, (decimal_length clock).1, (decimal_length t.m).1, (decimal_length t.n).1))

-- THE FIRST LINE'S LENGTH
pub open_most : (s : List ℕ) (clock : ℕ) → length (open_line s clock) ≤ 86
unfolding open_line open_line_read
open_most s clock = go (read s).outcome
  where
    go : (o : Outcome) → length (when_read o refuse_line (λ _. opened_line clock (read s).table)) ≤ 86
    go Read = opened_most clock (read s).table
    go (Short p) = refuse_most (Short p)
    go (Mark p) = refuse_most (Mark p)
    go (Range p) = refuse_most (Range p)
    go (Ticks p) = refuse_most (Ticks p)
    go (Order p) = refuse_most (Order p)
    go (Edge p) = refuse_most (Edge p)
    go (Cycle p) = refuse_most (Cycle p)
    go (Extra p) = refuse_most (Extra p)

-- ---- a tick's parts
dash_most : (l : List ℕ) (k : ℕ) → length l ≤ k → 2 ≤ k → length (or_dash l) ≤ k
unfolding or_dash text
dash_most [] k h i = i
dash_most (b ∷ l) k h i = h

number_most : (set i : ℕ) → i < 16 → length (number_in set i) ≤ 3
unfolding number_in text
number_most set i h = go (bit set i)
  where
    go : (b : Bool) → length (pick b (text " " ++ decimal i) []) ≤ 3
    go true = simp length-append (omega (arith, decimal_short 1 i (omega arith)))
    go false = omega arith

numbers_most : (set : ℕ) → length (numbers_in set) ≤ 48
unfolding numbers_in in_order
numbers_most set = dash_most (in_order 16 (number_in set)) 48 (joined_most 16 0 3 (number_in set) (λ j b. number_most set j (omega arith))) (omega arith)

-- what the types of a tick's answer say of its numbers
unfoldable pub SmallTriples : List Triple → Type 0
SmallTriples [] = Unit {0}
SmallTriples (p ∷ l) = (p.task < 2 ^ 8) × (p.age < 2 ^ 8) × (p.vertex < 2 ^ 8) × SmallTriples l

pub record TypedAnswer (a : Answer) : Type 0 where
  pub number_byte : a.reply.number < 2 ^ 8
  pub task_byte : a.reply.task < 2 ^ 8
  pub eight : length a.ran ≡ 8
  pub small : SmallTriples a.ran

vertex_most : (p : Triple) → p.task < 2 ^ 8 → p.age < 2 ^ 8 → p.vertex < 2 ^ 8 → length (vertex_text p) ≤ 12
unfolding vertex_text text
vertex_most p i a h = go (eqb p.task 255)
  where
    go : (b : Bool) → length (pick b [] (text " " ++ decimal p.task ++ text "." ++ decimal p.age ++ text "." ++ decimal p.vertex)) ≤ 12
    go true = omega arith
    go false = simp length-append (omega (arith, decimal_short 2 p.task (omega arith), decimal_short 2 p.age (omega arith), decimal_short 2 p.vertex (omega arith)))

vertices_most : (l : List Triple) → SmallTriples l → length (vertices_text l) ≤ 12 * length l
unfolding vertices_text SmallTriples
vertices_most [] s = omega arith
vertices_most (p ∷ l) s = simp length-append (omega (arith, vertex_most p s.0 s.1 s.2, vertices_most l s.3, mul-suc 12 (length l)))

-- any number of 64 bits may be left
work_most : (live : ℕ) (work : List ℕ) (c : ℕ) → c < 64 → length (work_in live work c) ≤ 26
unfolding work_in text
work_most live work c h = go (bit live (slot_in c))
  where
    go : (b : Bool) → length (pick b (text " " ++ decimal (c / 4) ++ text "." ++ decimal (c % 4) ++ text ":" ++ decimal (get_or work (slot_in c) 0)) []) ≤ 26
    go true = simp length-append (omega (arith, decimal_short 1 (c / 4) (omega arith), decimal_short 0 (c % 4) (omega arith), (decimal_length (get_or work (slot_in c) 0)).1))
    go false = omega arith

left_most : (live : ℕ) (work : List ℕ) → length (left_text live work) ≤ 1669
unfolding left_text in_order text
left_most live work =
    let r = dash_most (in_order 64 (work_in live work)) 1664 (joined_most 64 0 26 (work_in live work) (λ j b. work_most live work j (omega arith))) (omega arith) in
    simp length-append (omega (arith, r))

module _ (a : Answer) (typed : TypedAnswer a) (live : ℕ) (work : List ℕ) where
  went_most : length (went_text a live work) ≤ 1824
  unfolding went_text text
  went_most =
      let r = dash_most (vertices_text a.ran) 96 (omega (arith, vertices_most a.ran typed.small, typed.eight)) (omega arith) in
      simp length-append (omega (arith, r, numbers_most a.finished, left_most live work))

  miss_most : length (miss_text a live work) ≤ 1833
  unfolding miss_text text
  miss_most = simp length-append (omega (arith, went_most, decimal_short 2 a.reply.task (omega (arith, typed.task_byte))))

refusal_most : (r : Reply) → r.number < 2 ^ 8 → r.task < 2 ^ 8 → length (refusal_text r) ≤ 20
unfolding refusal_text text
refusal_most r i h = go (eqb r.task 255)
  where
    go : (b : Bool) → length (text " refuse " ++ decimal r.number ++ pick b [] (text " task " ++ decimal r.task)) ≤ 20
    go true = simp length-append (omega (arith, decimal_short 2 r.number (omega arith)))
    go false = simp length-append (omega (arith, decimal_short 2 r.number (omega arith), decimal_short 2 r.task (omega arith)))

answer_most : (a : Answer) → TypedAnswer a → (live : ℕ) (work : List ℕ) → length (answer_text a live work) ≤ 1833
unfolding answer_text
answer_most a t live work = go (eqb a.reply.number 0) (eqb a.reply.number 34)
  where
    go : (b c : Bool) → length (pick b (went_text a live work) (pick c (miss_text a live work) (refusal_text a.reply))) ≤ 1833
    go true c = omega (arith, went_most a t live work)
    go false true = miss_most a t live work
    go false false = omega (arith, refusal_most a.reply t.number_byte t.task_byte)

-- A TICK'S LINE'S LENGTH
pub tick_most : (clock named : ℕ) (a : Answer) (live : ℕ) (work : List ℕ) → clock < 2 ^ 32 → TypedAnswer a → length (tick_line clock named a live work) ≤ 1905
unfolding tick_line text newline
tick_most clock named a live work h t = simp length-append (omega (arith, decimal_short 9 clock (omega arith), numbers_most named, answer_most a t live work))
