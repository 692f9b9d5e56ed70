-- The tests one after the other, each by what the function that makes it says: the first that fails gives the reply (proofs/Telling.antt).
use Rattle.std.proofs.Common.{Bool, Err, ap, ◌∙◌}
use Rattle.machine.specs.declared.Reply.{Reply}
use Rattle.machine.specs.Rows.{refusal_of}
use Rattle.machine.proofs.Telling.{no_30, no_32, no_31, no_33, no_none}
use Rattle.machine.proofs.ticking.refusal.Goals as goal

pub returns-then-not-fits : goal.returns-then-not-fits
returns-then-not-fits c =
    let n = c.args.t.now.n in
    let r = c.args.rows.now in
    ap (λ (x : Reply). Err x) c.of.ensures ∙ no_30 c.fits.result r.phase c.args.named n r.waits c.if-not-fits.true
    ∙ ap (λ (f : Bool). refusal_of f r.phase c.args.named n r.waits) c.fits.ensures

pub returns-in_default : goal.returns-in_default
returns-in_default c =
    let n = c.args.t.now.n in
    let r = c.args.rows.now in
    ap (λ (x : Reply). Err x) c.of-in_default.ensures ∙ no_32 c.fits.result r.phase c.args.named n r.waits c.if-not-fits.false c.in_default.field-0 c.in_default.is
    ∙ ap (λ (f : Bool). refusal_of f r.phase c.args.named n r.waits) c.fits.ensures

pub returns-in-Some : goal.returns-in-Some
returns-in-Some c =
    let n = c.args.t.now.n in
    let r = c.args.rows.now in
    ap (λ (x : Reply). Err x) c.of-in-Some.ensures ∙ no_31 c.fits.result r.phase c.args.named n r.waits c.if-not-fits.false c.in-Running.is c.in-Some.task c.in-Some.ensures
    ∙ ap (λ (f : Bool). refusal_of f r.phase c.args.named n r.waits) c.fits.ensures

pub returns-in-Some-first_early : goal.returns-in-Some-first_early
returns-in-Some-first_early c =
    let n = c.args.t.now.n in
    let r = c.args.rows.now in
    ap (λ (x : Reply). Err x) c.of-in-Some-first_early.ensures
    ∙ no_33 c.fits.result r.phase c.args.named n r.waits c.if-not-fits.false c.in-Running.is c.in_default-first_beyond.ensures c.in-Some-first_early.task c.in-Some-first_early.ensures
    ∙ ap (λ (f : Bool). refusal_of f r.phase c.args.named n r.waits) c.fits.ensures

pub returns : goal.returns
returns c =
    let n = c.args.t.now.n in
    let r = c.args.rows.now in
    no_none c.fits.result r.phase c.args.named n r.waits c.if-not-fits.false c.in-Running.is c.in_default-first_beyond.ensures c.in_default-first_early.ensures
    ∙ ap (λ (f : Bool). refusal_of f r.phase c.args.named n r.waits) c.fits.ensures
