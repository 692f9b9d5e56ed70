-- The row of waits is the state's, and past the sixteenth no number is named.
use Rattle.std.proofs.Common.{◌≡◌, ℕ, Bool, false, ◌&&◌, ltb, List, length, get_or, Some, None, sym, ap, ◌∙◌, arith, rules}
use native.Mathlib.Decide.{dec_lt}
use Rattle.graph.specs.Words.{bit}
use Rattle.graph.proofs.Facts.{row_at}
use Rattle.graph.proofs.Bits.{bit_past}
use Rattle.machine.specs.declared.TaskState.{TaskState}
use Rattle.machine.specs.States.{idle, task_of, wait}
use Rattle.machine.specs.Rows.{no_task}
use Rattle.machine.proofs.Found.{lowest_same}
use Rattle.machine.proofs.Filling.{length_mapped}
use Rattle.machine.proofs.Apart.{inside}
use Rattle.machine.proofs.ticking.first_early.Goals as goal

pub returns : goal.returns
unfolding wait task_of
returns c =
    let a = c.args in
    let n : length a.st.tasks ≡ 16 = search (rules, length_mapped) in
    c.first_early.ensures
    ∙ lowest_same a.n _ _ Some None (λ i b. elim (dec_lt i 16) [
      | yes h ↦ ap (λ (w : ℕ). bit a.named i && ltb 0 w) (ap (λ (l : List ℕ). get_or l i 0) c.waits_of.ensures ∙ row_at 16 _ i 0 h ∙ ap (λ (x : TaskState). x.wait) (inside a.st.tasks i no_task idle (omega arith)))
      | no h ↦
          let off : bit a.named i ≡ false = bit_past a.named 16 i (omega arith) (omega arith) in
          ap (λ (x : Bool). x && ltb 0 (get_or c.waits_of.result i 0)) off ∙ sym (ap (λ (x : Bool). x && ltb 0 (wait a.st i)) off)
    ])
