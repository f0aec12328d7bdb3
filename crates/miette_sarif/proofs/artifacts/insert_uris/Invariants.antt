use Rattle.std.proofs.Common.{◌≡◌, map, drop}
use Rattle.std.specs.Str.{bytes_eq}
use Rattle.indexmap.specs.IndexSet.{insert_all}
use Rattle.miette_sarif.specs.rules.Artifacts.{uri_of}
use Rattle.miette_sarif.specs.views.Findings.{source_names_of, texts_of}
use Rattle.miette_sarif.proofs.artifacts.insert_uris.Given as goal

abbrev pub invariant-loop-source : goal.invariant-loop-source
invariant-loop-source l = insert_all bytes_eq (texts_of l.uris.keys)
    (map (uri_of l.untitled.keys) (source_names_of (drop l.source-index l.names)))
    ≡ insert_all bytes_eq (texts_of l.fn.uris.keys) (map (uri_of l.untitled.keys) (source_names_of l.names))
