use Rattle.lane_test.proofs.Trains.{fit_is, trains-say}
use Rattle.std.proofs.Common.{◌+◌, ◌*◌, ◌/◌, arith}
use Rattle.parts.specs.Parts.{marks_end}
use Rattle.table.specs.Layout.{lengths_cell, length_words}
use Rattle.lane_test.proofs.trains_good.Goals as goal

pub shared_good-requires : goal.shared_good-requires
shared_good-requires c =
    let s = c in
    (omega (arith, s.requires.0, s.requires.1), omega (arith, s.requires.0, s.requires.1), s.requires.2, s.requires.3, fit_is s.args.t.now s.args.k s.args.l s.requires.1 (2 * (marks_end / 8 + 4 * s.args.k)) (4 * (lengths_cell + length_words * s.args.k)) (omega arith) (omega arith) s.requires.4)

pub returns : goal.returns
returns c =
    let s = c in
    trains-say s.args.t.now s.args.k s.args.l s.requires.1 (2 * (marks_end / 8 + 4 * s.args.k)) (4 * (lengths_cell + length_words * s.args.k)) (omega arith) (omega arith) s.requires.4 c.round-round.result c.shared_good.result c.round-round.ensures c.shared_good.ensures
