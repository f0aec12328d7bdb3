use Rattle.std.proofs.Common.{arith, refl}
use Rattle.miette_positions.proofs.plain.after_plain.Goals as goal

pub returns-clause-passed : goal.returns-clause-passed
returns-clause-passed c = record {
  many = c.plain_at-many.result;
  few = c.plain_at-many.ensures.few;
  within = c.plain_at-many.ensures.within;
  printable = c.plain_at-many.ensures.printable;
  is = refl;
}

pub returns-clause-within : goal.returns-clause-within
returns-clause-within c = record {
  offset = c.plain_at-many.ensures.within;
  line = omega (arith, c.requires.line);
  column = omega (arith, c.requires.column);
}
