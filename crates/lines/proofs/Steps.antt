-- A step in memory from its parts; numbers of four bytes by their bytes; the first 5,061 bytes of a table are enough for a step.
use mathlib.Core.Path.{◌≡◌, ap, ap₂, ◌∙◌}
use mathlib.Core.List.{List}
use Prim.Native.Nat.{ℕ, ◌+◌, ◌*◌, ◌/◌, ◌%◌}
use lib.ListN.{get_or}
use lib.Seq.{get_or-drop}
use Rattle.machine.specs.declared.State.{State}
use Rattle.machine.specs.declared.Opened.{Opened}
use Rattle.machine.specs.declared.Ticked.{Ticked}
use Rattle.graph.specs.Words.{set_of}
use Rattle.machine.specs.States.{live, opening}
use Rattle.machine.specs.Ticking.{tick}
use Rattle.text.specs.declared.page.Page.{Page}
use Rattle.lines.specs.Lines.{open_line, tick_line, line_of}
use Rattle.lines.specs.Watching.{number2, number4, ticked_line, shown_opening, shown_tick}

pub four_bytes : (b : List ℕ) → get_or b 0 0 + 256 * get_or b 1 0 + 65536 * (get_or b 2 0 + 256 * get_or b 3 0) ≡ number4 b
unfolding number4 number2
four_bytes b = rw (get_or-drop 2 b 0 0, get_or-drop 2 b 1 0)

pub opening_shown : (s : List ℕ) (clock : ℕ) (l : Page 2048) (o : Opened) → l ≡ line_of (open_line s clock) → o ≡ opening s clock
    → (record { line = l; number = o.reply.number; state = o.state }) ≡ shown_opening s clock
unfolding shown_opening
opening_shown s clock l o e f = ap₂ (λ (x : Page 2048) (y : Opened). record { line = x; number = y.reply.number; state = y.state }) e f

-- the line of the live jobs and the work left after the tick
pub tick_shown : (s : List ℕ) (st : State) (named : ℕ) (l : Page 2048) (t : Ticked) (set : ℕ) → l ≡ line_of (tick_line st.clock named t.answer set t.state.work)
    → set ≡ set_of 64 (λ s. live t.state (s % 16) (s / 16)) → t ≡ tick s st named → (record { line = l; number = t.answer.reply.number; state = t.state }) ≡ shown_tick s st named
unfolding shown_tick ticked_line
tick_shown s st named l t set e f h =
    let k = e ∙ ap (λ (x : ℕ). line_of (tick_line st.clock named t.answer x t.state.work)) f in
    ap (λ (x : Page 2048). record { line = x; number = t.answer.reply.number; state = t.state }) k
    ∙ ap (λ (y : Ticked). record { line = line_of (ticked_line st named y); number = y.answer.reply.number; state = y.state }) h
