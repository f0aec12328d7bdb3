use Rattle.std.proofs.Common.{IsAscii, subst, sym}
use Rattle.std.proofs.lemmas.Str.{IsAscii-drop, IsCharBoundary-from_ascii}
use Rattle.miette_runs.proofs.runs.codes.AsciiCodes.from.Goals as goal

pub range_from-requires : goal.range_from-requires
range_from-requires c = λ _.
    IsCharBoundary-from_ascii c.args.self.text.now c.args.n c.args.self.ascii c.requires

pub invariant_of-result : goal.invariant_of-result
invariant_of-result c = record {
  ascii = subst IsAscii (sym c.range_from.ensures.value) (IsAscii-drop c.args.self.text.now c.args.n c.args.self.ascii);
}
