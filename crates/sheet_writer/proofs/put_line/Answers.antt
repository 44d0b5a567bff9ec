-- `put_line` meets its contract. Assumes nothing.
use mathlib.Core.Path.{◌∙◌}
use native.Mathlib.Omega.{arith}
use Rattle.sheet_writer.proofs.Writing.{line-length, line-stores}
use Rattle.sheet_writer.proofs.put_line.Goals as goal

pub put_figure-p-requires : goal.put_figure-p-requires
put_figure-p-requires c = omega (arith, c.requires, line-length c.args.lane c.args.weight c.args.longest)

pub put_figure-q-requires : goal.put_figure-q-requires
put_figure-q-requires c = omega (arith, c.requires, line-length c.args.lane c.args.weight c.args.longest, c.put_figure-p.ensures.1, c.put_figure-p.auto.a)

pub put_figure-requires : goal.put_figure-requires
put_figure-requires c = omega (arith, c.requires, line-length c.args.lane c.args.weight c.args.longest, c.put_figure-p.ensures.1, c.put_figure-p.auto.a, c.put_figure-q.ensures.1, c.put_figure-q.auto.a)

pub returns : goal.returns
returns c =
    let x = c.put_figure-p.ensures in
    let y = c.put_figure-q.ensures in
    let z = c.put_figure.ensures in (
      z.0 ∙ rw (y.1, y.0, x.1, x.0) (line-stores c.args.a.now c.args.at c.args.lane c.args.weight c.args.longest),
      omega (arith, x.1, y.1, z.1, line-length c.args.lane c.args.weight c.args.longest),
    )
