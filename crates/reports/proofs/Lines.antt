-- What was found of a task: its figures, with the margin that is reckoned anew.
use mathlib.Core.Path.{◌≡◌, ap, ap₂, ◌∙◌}
use mathlib.Core.Bool.{true}
use Prim.Native.Nat.{ℕ, ◌+◌, ◌*◌, ◌-◌, ◌^◌, ◌≤◌, ◌<◌, min}
use native.Mathlib.Omega.{arith}
use lib.ListN.{get_or}
use lib.IntN.{ℤ, pos, ◌-ℤ◌}
use Rattle.verdict.specs.declared.Findings.{Findings}
use Rattle.reports.specs.Found.{margin_in, figures_in, Printable}

-- numbers of at most fifteen digits are below 2 ^ 53, so `margin_from` takes them as they are
small_min : (x b : ℕ) → x ≤ b → min x b ≡ x
small_min x b h = omega arith

pub found_figures : (f : Findings) → Printable f → (k : ℕ) → k < f.n
    → (z : ℤ) → z ≡ pos (f.m * get_or f.deadlines k 0) -ℤ pos ((f.m - 1) * min (get_or f.lens k 0) (2 ^ 53) + min (get_or f.dues k 0) (2 ^ 53))
    → (w : ℤ) → w ≡ z
    → (record { found = true; vol = get_or f.vols k 0; len = get_or f.lens k 0; due = get_or f.dues k 0; margin = w }) ≡ figures_in f k
unfolding figures_in margin_in
found_figures f p k b z e w r =
    ap (λ (y : ℤ). record { found = true; vol = get_or f.vols k 0; len = get_or f.lens k 0; due = get_or f.dues k 0; margin = y })
    (r ∙ e ∙ ap₂ (λ (x y : ℕ). pos (f.m * get_or f.deadlines k 0) -ℤ pos ((f.m - 1) * x + y))
    (small_min (get_or f.lens k 0) (2 ^ 53) (omega (arith, p.len_short k b)))
    (small_min (get_or f.dues k 0) (2 ^ 53) (omega (arith, p.due_short k b))))
