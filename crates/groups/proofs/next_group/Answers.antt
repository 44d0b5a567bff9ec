-- `next_group` meets its contract. The loop's invariant: of the groups met so far the best is found. Assumes nothing.
use mathlib.Core.Path.{sym, subst}
use Rattle.slot_lists.specs.Lists.{start_at}
use Rattle.groups.specs.Front.{Leads}
use Rattle.groups.proofs.Laws.{leads-on, leads-more}
use Rattle.groups.proofs.Walk.{no_more, group-bounds, group-start, group-on, none_between, walked_on}
use Rattle.groups.proofs.next_group.Goals as goal

pub prefer-best-requires : goal.prefer-best-requires
prefer-best-requires c =
    let w = c.loop-g.invariant in
    let next = c.in-Some.ensures.steps in
    let b = group-bounds w next c.requires.1 in
    (c.requires.2 _ _ b.0 b.1 (group-start w next c.word-start.ensures), b.1)

pub loop-g-preserved : goal.loop-g-preserved
loop-g-preserved c =
    let l = c.loop-g in
    let w = l.invariant in
    let next = c.in-Some.ensures.steps in
    let starts = start_at c.args.t.now in
    let b = group-bounds w next c.requires.1 in
    let here = group-start w next c.word-start.ensures in
    let upto = leads-on starts c.args.v w.n _ _ (none_between w next) (group-on w next) w.told in
    let more = leads-more starts c.args.v _ _ b.0 b.1 (c.requires.2 _ _ b.0 b.1 here) here l.best upto in
    walked_on w next (subst (Leads starts c.args.v _) (sym c.prefer-best.ensures) more)

pub returns : goal.returns
returns c =
    let w = c.loop-g.invariant in
    leads-on (start_at c.args.t.now) c.args.v w.n 64 _ (no_more w c.in-None.ensures.steps.0) w.rest.ends w.told
