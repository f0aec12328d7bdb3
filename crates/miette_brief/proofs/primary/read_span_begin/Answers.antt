use Rattle.std.proofs.Common.{Some}
use Rattle.miette_tree.specs.views.Owned.{ref_source}
use Rattle.miette_brief.proofs.KnownPlaces.{start_of}
use Rattle.miette_brief.proofs.primary.read_span_begin.Goals as goal

pub read_begin-requires : goal.read_begin-requires
read_begin-requires g c = start_of (Some (ref_source g.S.SourceCode.source c.args.source))
