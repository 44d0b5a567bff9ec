use Rattle.lane_test.proofs.Setting.{says-yes, says-no}
use mathlib.Core.Path.{ap}
use mathlib.Core.Bool.{not}
use Rattle.lane_test.proofs.pace_good.Goals as goal

pub rate_good-rated-requires : goal.rate_good-rated-requires
rate_good-rated-requires c = (c.requires.0.numbers.weight_low, c.requires.0.numbers.weight_high, c.requires.1)

pub returns-then-not-rated : goal.returns-then-not-rated
returns-then-not-rated c = λ p. says-no c.rate_good-rated.result c.rate_good-rated.ensures (ap not c.if-not-rated.true) p.rated

pub group_good-grouped-requires : goal.group_good-grouped-requires
group_good-grouped-requires c =
    let a = c.requires.0 in
    (a.numbers.longest_low, a.numbers.longest_high, says-yes c.rate_good-rated.result c.rate_good-rated.ensures (ap not c.if-not-rated.false), a.numbers.weight_low, a.numbers.weight_high, a.framing)

pub returns-then-not-grouped : goal.returns-then-not-grouped
returns-then-not-grouped c = λ p. says-no c.group_good-grouped.result c.group_good-grouped.ensures (ap not c.if-not-grouped.true) p.grouped

pub returns : goal.returns
returns c =
    let one = c in
    record {
      rated = says-yes one.rate_good-rated.result one.rate_good-rated.ensures (ap not one.if-not-rated.false);
      grouped = says-yes c.group_good-grouped.result c.group_good-grouped.ensures (ap not c.if-not-grouped.false);
    }
