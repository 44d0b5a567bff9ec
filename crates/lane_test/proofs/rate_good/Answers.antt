use Rattle.lane_test.proofs.Setting.{rate-not-less, rate-not-more}
use Rattle.units.proofs.PerByte.{rate-unique}
use Rattle.lane_test.proofs.rate_good.Goals as goal

pub returns-then-product-lt-RATE_OF_WEIGHT_ONE : goal.returns-then-product-lt-RATE_OF_WEIGHT_ONE
returns-then-product-lt-RATE_OF_WEIGHT_ONE c = rate-not-less c.args.l.weight c.args.l.rate.0 c.requires.0 c.if-product-lt-RATE_OF_WEIGHT_ONE.true

pub returns-then-product-l : goal.returns-then-product-l
returns-then-product-l c = rate-not-more c.args.l.weight c.args.l.rate.0 c.requires.0 c.if-product-l.true

pub returns : goal.returns
returns c = rate-unique c.args.l.weight c.args.l.rate.0 c.requires.0 c.if-product-lt-RATE_OF_WEIGHT_ONE.false c.if-product-l.false
