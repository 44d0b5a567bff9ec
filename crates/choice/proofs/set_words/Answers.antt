-- `set_words` meets its contract. Assumes nothing.
use mathlib.Core.Path.{◌≡◌, refl, sym, ap, ◌∙◌}
use mathlib.Core.Option.{some}
use Prim.Native.Nat.{ℕ}
use native.Mathlib.Nat.{le_refl}
use native.Mathlib.Omega.{arith}
use Rattle.std.specs.declared.iter.Rev.{Rev}
use Rattle.words.specs.declared.SetBits.{SetBits}
use Rattle.rules.specs.Sets.{groups}
use Rattle.table.specs.Means.{meant}
use Rattle.choice.specs.Sweep.{swept}
use Rattle.choice.proofs.Held.{start-early}
use Rattle.choice.proofs.Stored.{held_word, start-there}
use Rattle.choice.proofs.Sweeps.{swept_none, swept_all, swept-fits}
use Rattle.choice.proofs.Walked.{walk-next, walk-on, walk_end}
use Rattle.choice.proofs.set_words.Goals as goal

pub loop-i-init : goal.loop-i-init
loop-i-init c =
    let word : c.into_iter-i-iterator.result.iter.0 ≡ c.word.result = ap (λ (r : Rev SetBits). r.iter.0) c.into_iter-i-iterator.ensures.into_iter_gives ∙ ap (λ (s : SetBits). s.0) c.rev-i-items.ensures.source in
    record { n = groups; few = le_refl groups; left_is = word ∙ c.word.ensures ∙ held_word _ c.requires; done = swept_none _ _ }

pub word-start-requires : goal.word-start-requires
word-start-requires c = omega (arith, (walk-next _ _ c.loop-i.a c.in-Some.ensures.steps c.loop-i.invariant).small, c.requires.sound.room)

pub sweep_group-a-requires : goal.sweep_group-a-requires
sweep_group-a-requires c =
    let l = c.loop-i in
    let i = c.in-Some.i in
    let x = walk-next _ _ l.a c.in-Some.ensures.steps l.invariant in
    let r = start-there c.args.t.now c.requires i x.is ∙ ap some (sym c.word-start.ensures) in
    (start-early (meant c.args.t.now) c.requires.good i _ r, omega (arith, x.small), swept-fits _ _ i l.a x.done x.small)

pub loop-i-preserved : goal.loop-i-preserved
loop-i-preserved c =
    let l = c.loop-i in
    let m = meant c.args.t.now in
    let x = walk-next m.clock m.lanes l.a c.in-Some.ensures.steps l.invariant in
    let i = c.in-Some.i in
    let start = c.word-start.result in
    let r = start-there c.args.t.now c.requires i x.is ∙ ap some (sym c.word-start.ensures) in
    let e : c.sweep_group-a.result ≡ swept start m.clock i l.a = c.sweep_group-a.ensures ∙ ap (λ (v : ℕ). swept start v i l.a) c.clock-v.ensures in
    rw e (walk-on m.clock m.lanes start l.a x r (start-early m c.requires.good i start r))

pub returns : goal.returns
returns c =
    let l = c.loop-i in
    let m = meant c.args.t.now in
    swept_all m.clock m.lanes m refl refl l.a (walk_end m.clock m.lanes _ l.a c.in-None.ensures.steps.0 l.invariant)
