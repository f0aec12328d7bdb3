use Rattle.std.proofs.Common.{◌≡◌, IsAscii, rules, subst, sym, take}
use Rattle.std.proofs.lemmas.Str.{IsAscii-take, IsCharBoundary-from_ascii}
use Rattle.miette_runs.proofs.runs.codes.AsciiCodes.front.Goals as goal

pub range-requires-clause-end_boundary : goal.range-requires-clause-end_boundary
range-requires-clause-end_boundary c =
    IsCharBoundary-from_ascii c.args.self.text.now c.args.n c.args.self.ascii c.requires

pub invariant_of-result : goal.invariant_of-result
invariant_of-result c =
    let text = c.args.self.text.now in
    let cut : c.range.result.now ≡ take c.args.n text = search rules in
    record { ascii = subst IsAscii (sym cut) (IsAscii-take text c.args.n c.args.self.ascii) }
