use Rattle.std.proofs.Common.{arith, pow_mono}
use Rattle.rules.specs.State.{group}
use Rattle.table.specs.Means.{given_of}
use Rattle.table.proofs.Agrees.{setting-group}
use Rattle.units.proofs.Compare.{is-before}
use Rattle.lane_test.proofs.rest_good.Goals as goal

pub returns-then-lt : goal.returns-then-lt
returns-then-lt c =
    let p = c in
    let s = p in
    let l = s.args.l in
    record {
      below = omega (arith, is-before l.time.0 c.add.result.0 c.if-lt.ensures, p.add.ensures, pow_mono {i = 16} {j = group (given_of l)} (setting-group l s.requires.0).0);
      above = λ h. absurd (omega (arith, s.requires.1));
    }
