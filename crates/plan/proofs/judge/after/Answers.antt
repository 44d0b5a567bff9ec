-- `after` meets its contract. Assumes nothing.
use mathlib.Core.Path.{sym, ap}
use Rattle.plan.specs.Judge.{seen_after}
use Rattle.plan.proofs.judge.after.Goals as goal

pub returns-in-Format : goal.returns-in-Format
returns-in-Format c = sym (ap (seen_after c.args.seen) c.in-Format.is)

pub returns-in-Lane : goal.returns-in-Lane
returns-in-Lane c = sym (ap (seen_after c.args.seen) c.in-Lane.is)

pub returns-in-Framing : goal.returns-in-Framing
returns-in-Framing c = sym (ap (seen_after c.args.seen) c.in-Framing.is)

pub returns-in-Shared : goal.returns-in-Shared
returns-in-Shared c = sym (ap (seen_after c.args.seen) c.in-Shared.is)
