-- The numbers of an answer that a function was handed are numbers of their types.
use mathlib.Core.List.{List, [], ◌∷◌}
use mir.Val.{Val}
use denote.Shadow.{shadow}
use denote.Array.{each}
use Rattle.machine.specs.declared.Triple.{Triple}
use Rattle.machine.specs.declared.Answer.{Answer}
use Rattle.machine.specs.contracts.Triple as triple-type
use Rattle.machine.specs.contracts.Answer as answer-type
use Rattle.lines.proofs.Length.{SmallTriples, TypedAnswer}

abbrev AllTold : List Triple → List Val → Type 0
AllTold l us = shadow (each (triple-type.the_row).Denot (triple-type.the_row).own_val l us)

all_small : (l : List Triple) (us : List Val) → AllTold l us → SmallTriples l
unfolding SmallTriples
all_small [] us p = tt
all_small (a ∷ l) [] p = absurd p
all_small (a ∷ l) (u ∷ us) p = (p.0.1.1.0.1, p.0.1.1.1.0.1, p.0.1.1.1.1.0.1, all_small l us p.1)

-- from what a function is told of an answer that is its parameter
pub typed_answer : (a : Answer) (us : List Val) → shadow ((answer-type.the_row).own_val a us) → TypedAnswer a
typed_answer a us p =
    let r = p.1.1.0 in
    let s = p.1.1.1.0 in
    record {
      number_byte = r.1.1.0.1;
      task_byte = r.1.1.1.1.0.1;
      eight = s.1.0.1;
      small = all_small a.ran s.0 s.1.1;
    }
