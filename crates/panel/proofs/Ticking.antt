-- The cases of a tick over the C face: a state that is one, and bytes that are refused or read beside one that is not.
use mathlib.Core.Path.{◌≡◌, refl, sym, ap, ap₂, ◌∙◌}
use mathlib.Core.Logic.{⊎_elim}
use mathlib.Core.Bool.{Bool, true, false}
use mathlib.Core.List.{List}
use Prim.Native.Nat.{ℕ}
use Rattle.table.specs.declared.Outcome.TheVariants.{Read}
use Rattle.table.specs.declared.Loaded.{Loaded}
use Rattle.table.specs.Numbers.{number, place}
use Rattle.table.specs.Reading.{read}
use Rattle.table.proofs.PartLaws.{told_other, not_read}
use Rattle.machine.specs.Ticking.{refuse, tick_read, tick_by, tick}
use Rattle.machine.proofs.Refusing.{read_or_not}
use Rattle.panel.specs.declared.FaceState.{FaceState}
use Rattle.panel.specs.declared.TickedFace.{TickedFace}
use Rattle.panel.specs.States.{face_of, state_of, is_proper}
use Rattle.panel.specs.Answers.{answer_face, ticked_face, refused_face, tick_answer}

module _ (s : List ℕ) (f : FaceState) (named : ℕ) where
  -- ---- a face state that is a state
  module _ (back : face_of (state_of f) ≡ f) (proper : is_proper f ≡ true) where
    refused_there : (k p : ℕ) → ticked_face (refuse (state_of f) k p 255) ≡ refused_face f k p
    unfolding answer_face ticked_face refuse refused_face
    refused_there k p = ap (λ (g : FaceState). refused_face g k p) back

    when_refused : ((read s).outcome ≡ Read → ⊥) → ticked_face (tick s (state_of f) named) ≡ tick_answer s f named
    unfolding tick tick_by tick_read tick_answer
    when_refused h =
        ap ticked_face (sym (not_read (read s).outcome _ _ h)) ∙ refused_there _ _ ∙ not_read (read s).outcome (λ o. refused_face f (number o) (place o)) _ h

    when_read_lem : (read s).outcome ≡ Read → ticked_face (tick s (state_of f) named) ≡ tick_answer s f named
    unfolding tick_answer
    when_read_lem e = rw (e, proper) refl

    pub ticks_proper : ticked_face (tick s (state_of f) named) ≡ tick_answer s f named
    ticks_proper = ⊎_elim when_read_lem when_refused (read_or_not (read s).outcome)

  -- ---- one that is none: reading's numbers, then 30
  module _ (l : Loaded) (h : l ≡ read s) (b : Bool) (is : b ≡ is_proper f) (off : b ≡ false) where
    pub unfit_stop : (n p : ℕ) (r : TickedFace) → (l.outcome ≡ Read → ⊥) → n ≡ number l.outcome → p ≡ place l.outcome → r ≡ refused_face f n p
        → r ≡ tick_answer s f named
    unfolding tick_answer
    unfit_stop n p r none j k q =
        q ∙ ap₂ (refused_face f) j k ∙ rw (← h) (not_read l.outcome (λ o. refused_face f (number o) (place o)) _ none)

    pub unfit_got : (r : TickedFace) → l.outcome ≡ Read → r ≡ refused_face f 30 0 → r ≡ tick_answer s f named
    unfolding tick_answer
    unfit_got r e q = q ∙ rw (← h, e, ← is, off) refl

pub ruleset unfit-laws = (told_other, unfit_stop, unfit_got)
