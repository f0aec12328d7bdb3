use Rattle.std.proofs.Common.{ap, map, string_bytes, ◌∙◌}
use Rattle.std.specs.Prelude.{not}
use Rattle.miette_sarif.proofs.Keys.{any_texts, insert_texts}
use Rattle.miette_lsp.proofs.Putting.{inside_texts, there_in_texts}
use Rattle.miette_lsp.proofs.documents.place_of_uri.Goals as goal

pub returns-clause-new : goal.returns-clause-new
returns-clause-new c = c.in_ok-at.ensures.added ∙ ap not (any_texts c.args.uri c.args.uris.now.keys)

pub returns-clause-uris : goal.returns-clause-uris
returns-clause-uris c =
    ap (map string_bytes) c.in_ok-at.ensures.keys ∙ insert_texts c.args.uris.now.keys c.args.uri

pub returns-clause-inside : goal.returns-clause-inside
returns-clause-inside c = inside_texts _ _ c.in_ok-at.ensures.within

pub returns-clause-there : goal.returns-clause-there
returns-clause-there c =
    let stored = c.in_ok-at.ensures.stored in
    (string_bytes stored.0, there_in_texts c.insert_full.new.self.keys c.in_ok-at.at.0 stored.0 stored.1, stored.2)
