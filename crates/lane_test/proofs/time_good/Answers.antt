use Rattle.std.proofs.Common.{arith}
use Rattle.rules.specs.State.{charge}
use Rattle.units.proofs.Compare.{is-not-after, is-after}
use Rattle.lane_test.proofs.time_good.Goals as goal

pub returns-then-le-2 : goal.returns-then-le-2
unfolding charge
returns-then-le-2 c =
    λ t.
    omega (
      arith,
      t.above (omega (arith, c.if-l-eq0.false)),
      is-not-after c.add-3.result.0 c.args.v.0 c.if-le-2.ensures,
      c.add-3.ensures,
      c.add-2.ensures,
      c.line_charge-reach.ensures,
      c.charged.ensures.0,
      c.rounded_start-rounded.ensures.0,
      c.two_slots-window.ensures.0,
    )

pub returns : goal.returns
unfolding charge
returns c =
    record {
      below = omega (arith, is-after c.add.result.0 c.args.l.time.0 c.if-le.ensures, c.add.ensures, c.two_slots-window.ensures.0);
      above = λ h.
          omega (
            arith,
            is-after c.add-3.result.0 c.args.v.0 c.if-le-2.ensures,
            c.add-3.ensures,
            c.add-2.ensures,
            c.line_charge-reach.ensures,
            c.charged.ensures.0,
            c.rounded_start-rounded.ensures.0,
            c.two_slots-window.ensures.0,
          );
    }
