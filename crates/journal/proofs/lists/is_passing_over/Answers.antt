use mathlib.Core.Path.{◌≡◌, ap, subst, ◌∙◌}
use mathlib.Core.Bool.{true, ◌||◌, not}
use mathlib.Core.List.{List}
use Prim.Native.Nat.{ℕ}
use lib.ListN.{get_or}
use lib.Dec.{leb, eqb}
use mir.Val.{Fits}
use mir.Syntax.{w16}
use native.Mathlib.Omega.{arith}
use borrow.Author.Rules.{rules}
use Rattle.graph.specs.Words.{all, largest}
use Rattle.journal.specs.Rows.{row_count, listed}
use Rattle.journal.specs.Listing.{all_in, row_slot, Without}
use Rattle.journal.proofs.SetTests.{all_vertices, over_is}
use Rattle.journal.proofs.lists.is_passing_over.Goals as goal

pub unlisted-requires : goal.unlisted-requires
unlisted-requires c = all_vertices _ _ _ c.requires

pub most_left-requires : goal.most_left-requires
most_left-requires c = all_vertices _ _ _ c.requires

pub returns : goal.returns
returns c = λ t st e q.
    let r = c.args.row.now in
    let u = c.unlisted in
    let m = c.most_left in
    let b = r.bytes.now in
    c.is_sooner.ensures
    ∙ ap (λ (l : List ℕ). not (all 64 (λ k. eqb (get_or u.result k 0) 0 || leb m.result (get_or l k 0)))) q
    ∙ over_is t st b r.at (subst (λ (l : List ℕ). all_in l b r.at ≡ true) e c.requires) u.result
    (λ k h. let f : Fits w16 (get_or u.result k 0) = search rules in omega arith)
    (subst (λ (l : List ℕ). Without l (listed b r.at) u.result) e u.ensures) m.result
    (m.ensures ∙ ap (λ (l : List ℕ). largest (row_count b r.at) (λ j. get_or l (row_slot b r.at j) 0)) q)
