use Rattle.std.proofs.Common.{All, take}
use Rattle.miette_read.specs.views.Values.{texts}
use Rattle.miette_show_rows.specs.rules.Looking.{Goes}
use Rattle.miette_show_rows.proofs.loader.load_names.Given as goal

-- the names that are passed are known
abbrev pub invariant-loop-name : goal.invariant-loop-name
invariant-loop-name g l = record {
  known : All (g.F.FileLoader.knows l.files) (texts (take l.name-index l.names));
  goes : Goes (g.F.Files.found l.initial.files) (g.F.FileLoader.knows l.initial.files) (g.F.Files.found l.files)
      (g.F.FileLoader.knows l.files);
}
