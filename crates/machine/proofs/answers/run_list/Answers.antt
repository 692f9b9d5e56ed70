-- Each place by itself: a vertex of the list, or none.
use Rattle.std.proofs.Common.{◌≡◌, ℕ, ◌%◌, ◌<◌, ◌≤◌, Bool, min, ltb, length, get_or, sym, ap, ap₂, ◌∙◌, rules, tests, arith, lt-ltb, le-ltb}
use native.Mathlib.Decide.{dec_lt}
use Rattle.graph.specs.Words.{pick}
use Rattle.graph.proofs.Facts.{length_row, row_at}
use Rattle.machine.specs.declared.Triple.{Triple}
use Rattle.machine.specs.declared.Chosen.{Chosen}
use Rattle.machine.specs.Steps.{listed}
use Rattle.machine.specs.Ticking.{nobody, triple_of, run_list}
use Rattle.machine.proofs.Filling.{row_ext}
use Rattle.machine.proofs.Made.{made_row}
use Rattle.machine.proofs.answers.run_list.Goals as goal

abbrev place_in : Chosen → ℕ → Triple
place_in a j = pick (ltb j a.count) (triple_of (get_or a.keys j 0 % 1024)) nobody

as_listed : (a : Chosen) (j : ℕ) → j < 8 → place_in a j ≡ pick (ltb j (length (listed a))) (triple_of (get_or (listed a) j 0)) nobody
as_listed a j b =
    let n = length_row (min a.count 8) (λ k. get_or a.keys k 0 % 1024) in
    elim (dec_lt j a.count) [
      | yes l ↦
          let m : j < length (listed a) = omega (arith, n) in
          ap₂ (λ (c : Bool) (k : ℕ). pick c (triple_of k) nobody) (lt-ltb j a.count l ∙ sym (lt-ltb j (length (listed a)) m)) (sym (row_at (min a.count 8) (λ k. get_or a.keys k 0 % 1024) j 0 (omega arith)))
      | no l ↦
          let m : length (listed a) ≤ j = omega (arith, n) in
          ap (λ (c : Bool). pick c (triple_of (get_or a.keys j 0 % 1024)) nobody) (le-ltb j a.count (omega arith))
          ∙ sym (ap (λ (c : Bool). pick c (triple_of (get_or (listed a) j 0)) nobody) (le-ltb j (length (listed a)) m))
    ]

pub returns : goal.returns
unfolding run_list
returns c =
    let a = c.args.chosen in
    made_row _ _ _ 8 nobody (place_in a) (λ i y q b e. (search rules, search (rules, tests))) c.from_fn.ensures.items
    ∙ row_ext 8 nobody (place_in a) _ (λ j b. as_listed a j b)
