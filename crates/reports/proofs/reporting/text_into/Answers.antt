use Rattle.std.proofs.Common.{lit<}
use mathlib.Core.Path.{◌≡◌, ap, ap₂, ◌∙◌}
use mathlib.Core.List.{List, ◌++◌}
use Prim.Native.Nat.{ℕ}
use native.Mathlib.Omega.{arith}
use lib.ListN.{length, drop}
use Rattle.reports.specs.Found.{lines_of}
use Rattle.reports.proofs.Reported.{page_text, into_short, into_fits}
use Rattle.reports.proofs.reporting.text_into.Goals as goal

pub lines_of-requires : goal.lines_of-requires
lines_of-requires c = (lit< tt, c.requires)

pub returns-then-words-out : goal.returns-then-words-out
returns-then-words-out c =
    let words = c.text-words.result.now in
    let e : words ≡ lines_of c.args.f = c.text-words.ensures ∙ page_text _ c.requires c.new-page.ensures c.lines_of.ensures in (
      ap length e,
      ap₂ (λ (a b : List ℕ). a ++ drop (length b) c.args.out.now) (c.copy_from_slice.ensures.after ∙ e) e ∙ into_fits _ _ (omega (arith, ap length e)),
    )

pub returns-else-words-out : goal.returns-else-words-out
returns-else-words-out c =
    let words = c.text-words.result.now in
    let e : words ≡ lines_of c.args.f = c.text-words.ensures ∙ page_text _ c.requires c.new-page.ensures c.lines_of.ensures in
    (ap length e, into_short _ _ (omega (arith, ap length e)))
