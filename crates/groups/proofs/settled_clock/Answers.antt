-- `settled_clock` meets its contract. The loop's invariant: of the groups met so far the least start is found, and each is after v. Assumes nothing.
use mathlib.Core.Path.{refl, sym, subst}
use Rattle.slot_lists.specs.Lists.{start_at}
use Rattle.groups.specs.Front.{Earliest, stays}
use Rattle.groups.proofs.Laws.{late-on, late-more, earliest-on, earliest-more, settles-none, settles-some}
use Rattle.groups.proofs.Walk.{no_more, group-bounds, group-start, group-on, none_between, walked_on}
use Rattle.groups.proofs.settled_clock.Goals as goal

pub returns-then-start-v : goal.returns-then-start-v
returns-then-start-v c =
    let w = c.loop-g.invariant in
    let next = c.in-Some.ensures.steps in
    let b = group-bounds w next c.requires.1 in
    stays _ _ b.0 b.1 (group-start w next c.word-start.ensures) c.if-start-v.true refl

pub loop-g-preserved : goal.loop-g-preserved
loop-g-preserved c =
    let l = c.loop-g in
    let w = l.invariant in
    let next = c.in-Some.ensures.steps in
    let starts = start_at c.args.t.now in
    let b = group-bounds w next c.requires.1 in
    let here = group-start w next c.word-start.ensures in
    let upto = earliest-on starts w.n _ _ (none_between w next) (group-on w next) w.told.0 in
    let more = earliest-more starts _ _ b.0 b.1 (c.requires.2 _ _ b.0 b.1 here) here l.found upto in
    let after = late-more starts c.args.v _ _ here c.if-start-v.false (late-on starts c.args.v w.n _ (none_between w next) (group-on w next) w.told.1) in
    walked_on w next (subst (Earliest starts _) (sym c.min-found.ensures) more, after)

pub returns-then-found : goal.returns-then-found
returns-then-found c =
    let w = c.loop-g.invariant in
    let starts = start_at c.args.t.now in
    settles-none starts c.args.v _ c.if-found.true (earliest-on starts w.n 64 _ (no_more w c.in-None.ensures.steps.0) w.rest.ends w.told.0)

pub returns : goal.returns
returns c =
    let w = c.loop-g.invariant in
    let starts = start_at c.args.t.now in
    let nil = no_more w c.in-None.ensures.steps.0 in
    settles-some starts c.args.v _ c.if-found.false (earliest-on starts w.n 64 _ nil w.rest.ends w.told.0) (late-on starts c.args.v w.n 64 nil w.rest.ends w.told.1)
