use Rattle.std.proofs.Common.{◌≡◌, ℕ, ◌<◌, min, List, length, get_or, sym, refl, ap, ◌∙◌, arith, rules}
use Rattle.graph.specs.Words.{Distinct}
use Rattle.graph.proofs.Facts.{length_row, row_at}
use Rattle.machine.specs.Rows.{place_in}
use Rattle.machine.proofs.Taken.{runs_none, runs_one, runs_skip, runs_all}
use Rattle.machine.proofs.Numbering.{places_distinct, rest_by_name, work_by_name}
use Rattle.machine.proofs.lent.run.Invariants.{key_in, places_of}
use Rattle.machine.proofs.lent.run.Goals as goal
use Rattle.machine.proofs.lent.run.Goals.{then-remaining-k-ne0, else-remaining-k-ne0}

key_small : (keys : List ℕ) (j : ℕ) → key_in keys j < 1024
key_small keys j = omega arith

pub loop-j-init : goal.loop-j-init
loop-j-init c = runs_none _ _ _ (search rules) (search rules)

pub loop-j-preserved : goal.loop-j-preserved
loop-j-preserved c =
    let l = c.loop-j in
    let x = c.place_in-k in
    let n = min c.args.chosen.count 8 in
    let ks = c.args.chosen.keys in
    let at = places_of n ks in
    let rest = c.args.remaining.now in
    let size = length_row n (λ j. place_in (key_in ks j)) in
    let below : l.j < n = omega (arith, c.min-j-end.ensures) in
    let here : x.result ≡ get_or at l.j 0 = x.ensures.0 ∙ ap place_in c.from.ensures ∙ sym (row_at n (λ j. place_in (key_in ks j)) l.j 0 below) in
    let once : Distinct at = places_distinct (key_in ks) (key_small ks) n c.requires in
    let b : l.j < length at = omega (arith, size) in
    elim c.if-remaining-k-ne0.branch [
      | then-remaining-k-ne0 w ↦ rw (w.remaining-is, w.work-is) (runs_one at rest c.args.work.now l.j l.remaining l.work l.invariant once x.result b here x.ensures.1 _ _ (omega (arith, w.if-remaining-k-ne0.true)) refl w.saturating_sub.ensures)
      | else-remaining-k-ne0 w ↦ rw (w.remaining-is, w.work-is) (runs_skip at rest c.args.work.now l.j l.remaining l.work l.invariant once x.result b here x.ensures.1 (omega (arith, w.if-remaining-k-ne0.false)))
    ]

pub returns : goal.returns
returns c =
    let l = c.loop-j in
    let ks = c.args.chosen.keys in
    let n = min c.args.chosen.count 8 in
    let rest = c.args.remaining.now in
    let before = c.args.work.now in
    let size = length_row n (λ j. place_in (key_in ks j)) in
    let through : l.j ≡ length (places_of n ks) = omega (arith, size, c.min-j-end.ensures) in
    let ran = runs_all (places_of n ks) rest before l.j l.remaining l.work l.invariant through in
    (rest_by_name (key_in ks) (key_small ks) n rest l.remaining ran.0, work_by_name (key_in ks) (key_small ks) n rest before l.work ran.1)
