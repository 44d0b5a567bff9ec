-- On the halt's tables its exported calls are the others. Assumes nothing.
use Rattle.zenfrosta.specs.Halts.{HaltCrosses}

pub halt-crosses : HaltCrosses
unfolding HaltCrosses
halt-crosses c t u out r out' own x = record { short = x.short; told = λ room. let a = x.told room in (a.0, a.1.same own, a.2, a.3) }
