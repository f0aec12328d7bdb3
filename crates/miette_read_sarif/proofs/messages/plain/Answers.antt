use Rattle.std.proofs.lemmas.Str.{IsCharBoundary-after_ascii}
use Rattle.miette_read_sarif.proofs.messages.plain.Goals as goal

pub range-requires-clause-end_boundary : goal.range-requires-clause-end_boundary
range-requires-clause-end_boundary c =
    IsCharBoundary-after_ascii c.args.text.now 0 c.utf8.text c.requires.inside c.requires.ascii

pub range_from-requires : goal.range_from-requires
range_from-requires c = λ _. IsCharBoundary-after_ascii c.args.text.now 0 c.utf8.text c.requires.inside c.requires.ascii
