-- The two cases of opening a file, and of a tick on one: it is refused, or it is read.
use Rattle.std.proofs.Common.{◌≡◌, ℕ, List, sym, refl, ap, ◌∙◌}
use Rattle.table.specs.declared.Outcome.TheVariants.{Read}
use Rattle.table.specs.declared.Loaded.{Loaded}
use Rattle.table.specs.Numbers.{number, place}
use Rattle.table.specs.Reading.{read}
use Rattle.table.specs.Good.{GoodTable}
use Rattle.table.proofs.PartLaws.{told_other, not_read}
use Rattle.table.proofs.Sound.{read_good}
use Rattle.machine.specs.declared.Phase.TheVariants.{Running}
use Rattle.machine.specs.declared.Reply.{Reply}
use Rattle.machine.specs.declared.State.{State}
use Rattle.machine.specs.declared.Opened.{Opened}
use Rattle.machine.specs.declared.Ticked.{Ticked}
use Rattle.machine.specs.States.{zeros, unopened, open_read, opening}
use Rattle.machine.specs.Steps.{own_choice}
use Rattle.machine.specs.Ticking.{refuse, tick_on, tick_read, tick_by, tick}

module _ (s : List ℕ) (clock : ℕ) (l : Loaded) (h : l ≡ read s) where
  pub open_stop : (r : Opened) → (l.outcome ≡ Read → ⊥) → r ≡ unopened l.outcome → r ≡ opening s clock
  unfolding opening open_read
  open_stop r n q = q ∙ rw (← h) (not_read l.outcome unopened _ n)

  pub open_got : (y : Reply) (st : State) → l.outcome ≡ Read → y ≡ record { number = 0; place = 0; task = 255 } → st ≡ zeros clock Running
      → record { reply = y; state = st } ≡ opening s clock
  unfolding opening open_read
  open_got y st e i q = rw (← h, e, i, q)

pub ruleset open-laws = (told_other, open_stop, open_got)

module _ (s : List ℕ) (st : State) (named : ℕ) (l : Loaded) (h : l ≡ read s) where
  pub tick_stop : (y : Reply) (r : Ticked) → (l.outcome ≡ Read → ⊥) → y ≡ record { number = number l.outcome; place = place l.outcome; task = 255 }
      → r ≡ refuse st y.number y.place y.task → r ≡ tick s st named
  unfolding tick tick_by tick_read
  tick_stop y r none a q =
      q ∙ ap (λ (z : Reply). refuse st z.number z.place z.task) a ∙ rw (← h) (not_read l.outcome (λ o. refuse st (number o) (place o) 255) _ none)

  -- a table that was read is good
  pub tick_good : l.outcome ≡ Read → GoodTable l.table
  tick_good e = rw h (read_good s (ap (λ (x : Loaded). x.outcome) (sym h) ∙ e))

  pub tick_got : (r : Ticked) → l.outcome ≡ Read → r ≡ tick_on own_choice l.table st named → r ≡ tick s st named
  unfolding tick tick_by tick_read
  tick_got r e q = q ∙ rw (← h, e) refl

pub ruleset tick-laws = (told_other, tick_stop, tick_good, tick_got)
