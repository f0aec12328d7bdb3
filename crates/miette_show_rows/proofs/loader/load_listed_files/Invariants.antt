use Rattle.std.proofs.Common.{All, map, string_bytes, take}
use Rattle.miette_show_rows.specs.rules.Looking.{Goes}
use Rattle.miette_show_rows.proofs.loader.load_listed_files.Given as goal

-- the names that are passed are known
abbrev pub invariant-loop-name : goal.invariant-loop-name
invariant-loop-name g l = record {
  known : All (g.F.FileLoader.knows l.files) (map string_bytes (take l.name-index l.names));
  goes : Goes (g.F.Files.found l.initial.files) (g.F.FileLoader.knows l.initial.files) (g.F.Files.found l.files)
      (g.F.FileLoader.knows l.files);
}
