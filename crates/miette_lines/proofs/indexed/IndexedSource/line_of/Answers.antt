use Rattle.std.proofs.Common.{arith}
use Rattle.miette_lines.proofs.Places.{line_end_mono, line_of_rank}
use Rattle.miette_lines.proofs.indexed.IndexedSource.line_of.Goals as goal

pub rank-requires : goal.rank-requires
rank-requires c = λ i j h g.
    omega (
      arith,
      line_end_mono c.self.inside.bytes.items i j h,
      c.self.inside.index.each i (omega (arith, h, g)),
      c.self.inside.index.each j g,
    )

pub returns-clause-line : goal.returns-clause-line
returns-clause-line c =
    rw (← c.self.view_is)
    (line_of_rank c.self.inside.bytes.items c.args.offset c.rank.result.0 (omega (arith, c.self.inside.index.all))
    (λ k h. omega (arith, c.rank.ensures.below k h, c.self.inside.index.each k (omega (arith, h))))
    (λ k h g. omega (
      arith,
      c.rank.ensures.above k h (omega (arith, g, c.self.inside.index.all)),
      c.self.inside.index.each k (omega (arith, g, c.self.inside.index.all)),
    )))
