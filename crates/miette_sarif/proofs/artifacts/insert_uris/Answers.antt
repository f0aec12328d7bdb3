use Rattle.std.proofs.Common.{◌+◌, ap, drop, map, string_bytes}
use Rattle.miette_sarif.specs.rules.Artifacts.{uri_of}
use Rattle.miette_sarif.specs.views.Findings.{source_name_of, source_names_of, texts_of}
use Rattle.miette_sarif.proofs.Gathers.{next_at}
use Rattle.miette_sarif.proofs.Keys.{all_inserted}
use Rattle.miette_sarif.proofs.artifacts.insert_uris.Goals as goal

pub loop-source-preserved : goal.loop-source-preserved
loop-source-preserved c =
    let l = c.loop-source in
    let uri = uri_of c.args.untitled.now.keys in
    all_inserted (texts_of l.uris.keys) (texts_of c.insert_text.new.texts.keys) (string_bytes c.in_ok-uri.uri) _
    (map uri (source_names_of (drop l.source-index c.args.names.now)))
    (map uri (source_names_of (drop (l.source-index + 1) c.args.names.now))) _
    c.in_ok-insert_text.ensures.texts c.in_ok-uri.ensures
    (ap (map uri) (next_at source_name_of c.args.names.now l.source-index _ c.loop-source-test.true)) l.invariant
