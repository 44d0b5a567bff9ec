-- `set_waiting` meets its contract. Assumes nothing.
use borrow.Author.Rules.{rules}
use Prim.Native.Nat.{◌*◌}
use mathlib.Core.Path.{sym, ap, subst, ◌∙◌}
use mathlib.Core.List.{[]}
use native.Mathlib.Omega.{arith}
use lib.ListN.{drop, length-drop}
use Rattle.plan.specs.Read.{settings}
use Rattle.plan_writer.proofs.Parts.{format_small}
use Rattle.plan_area.specs.Area.{AreaRoom}
use Rattle.editions.proofs.Lent.{tail_all}
use Rattle.editions.proofs.Stored.{long, waiting-stored}
use Rattle.editions.proofs.set_waiting.Goals as goal

pub store-requires : goal.store-requires
store-requires c =
    let s = c in
    let q = c.set_word.new.t in (
      subst AreaRoom (sym (tail_all 16 q)) (omega (arith, length-drop 16 q, long s.args.p.now q [] s.args.edition s.requires.0 c.set_word.ensures, s.requires.0)),
      s.requires.2,
      format_small s.args.plan.format s.requires.3,
    )

pub returns : goal.returns
returns c =
    let s = c in
    let w = c.set_word in
    let a = c.store in
    waiting-stored s.args.p.now w.new.t a.new.area s.args.edition s.requires.0 w.ensures s.requires.1 (omega (arith, s.ranges.edition)) s.args.plan.format (settings s.args.plan) s.args.plan.count s.requires.3 s.requires.2
    a.ensures.0 (a.ensures.1 ∙ ap (drop (65 * 8)) (tail_all 16 w.new.t))
