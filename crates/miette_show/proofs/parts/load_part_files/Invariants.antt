use Rattle.std.proofs.Common.{All, map, take}
use Rattle.miette_show_rows.specs.rules.Looking.{Goes}
use Rattle.miette_show.specs.views.LoggedRow.{AreKnown}
use Rattle.miette_show.proofs.parts.load_part_files.Given as goal

-- all that the parts that are passed name is known
abbrev pub invariant-loop-part : goal.invariant-loop-part
invariant-loop-part g l = record {
  known : All (AreKnown l.held.from (g.F.FileLoader.knows l.files))
      (map (λ part. part.items) (take l.part-index l.part-items));
  goes : Goes (g.F.Files.found l.initial.files) (g.F.FileLoader.knows l.initial.files) (g.F.Files.found l.files)
      (g.F.FileLoader.knows l.files);
}
