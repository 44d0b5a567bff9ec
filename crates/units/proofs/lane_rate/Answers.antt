use mathlib.Core.Path.{refl}
use Rattle.units.specs.Numbers.{per_byte}
use Rattle.units.proofs.PerByte.{rate-ge, rate-le}
use Rattle.units.proofs.lane_rate.Goals as goal

pub returns : goal.returns
unfolding per_byte
returns c = (refl, rate-ge c.args.weight c.requires.0 c.requires.1, rate-le c.args.weight)
