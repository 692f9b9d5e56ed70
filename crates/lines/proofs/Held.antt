-- What a program needs to hold: the first 5,061 bytes of a table are enough for opening, for a tick and for all lines of a run.
use mathlib.Core.Path.{◌≡◌, refl, ap, ap₂, ◌∙◌}
use mathlib.Core.List.{List, [], ◌∷◌, ◌++◌}
use Prim.Native.Nat.{ℕ}
use lib.Dec.{eqb}
use lib.ListN.{take}
use Rattle.graph.specs.Words.{pick}
use Rattle.table.specs.declared.Loaded.{Loaded}
use Rattle.table.proofs.Prefix.{read_prefix}
use Rattle.machine.specs.declared.State.{State}
use Rattle.machine.specs.declared.Opened.{Opened}
use Rattle.machine.specs.declared.Ticked.{Ticked}
use Rattle.machine.specs.States.{open_read, opening}
use Rattle.machine.specs.Steps.{own_choice}
use Rattle.machine.specs.Ticking.{tick_read, tick_by, tick}
use Rattle.lines.specs.Lines.{open_line_read, open_line}
use Rattle.lines.specs.Watching.{ticked_line, ticks_text, run_text}

pub opening_prefix : (s : List ℕ) (clock : ℕ) → opening (take 5061 s) clock ≡ opening s clock
unfolding opening
opening_prefix s clock = ap (λ (r : Loaded). open_read r clock) (read_prefix s)

pub tick_prefix : (s : List ℕ) (st : State) (named : ℕ) → tick (take 5061 s) st named ≡ tick s st named
unfolding tick tick_by
tick_prefix s st named = ap (λ (r : Loaded). tick_read own_choice r st named) (read_prefix s)

pub open_line_prefix : (s : List ℕ) (clock : ℕ) → open_line (take 5061 s) clock ≡ open_line s clock
unfolding open_line
open_line_prefix s clock = ap (λ (r : Loaded). open_line_read r clock) (read_prefix s)

ticks_prefix : (s : List ℕ) (st : State) (sets : List ℕ) → ticks_text (take 5061 s) st sets ≡ ticks_text s st sets
unfolding ticks_text
ticks_prefix s st [] = refl
ticks_prefix s st (named ∷ more) =
    ap (λ (t : Ticked). ticked_line st named t ++ ticks_text (take 5061 s) t.state more) (tick_prefix s st named)
    ∙ ap (λ (l : List ℕ). ticked_line st named (tick s st named) ++ l) (ticks_prefix s (tick s st named).state more)

pub run_prefix : (s : List ℕ) (clock : ℕ) (sets : List ℕ) → run_text (take 5061 s) clock sets ≡ run_text s clock sets
unfolding run_text
run_prefix s clock sets =
    ap₂ (λ (l : List ℕ) (o : Opened). l ++ pick (eqb o.reply.number 0) (ticks_text (take 5061 s) o.state sets) []) (open_line_prefix s clock) (opening_prefix s clock)
    ∙ ap (λ (l : List ℕ). open_line s clock ++ pick (eqb (opening s clock).reply.number 0) l []) (ticks_prefix s (opening s clock).state sets)
