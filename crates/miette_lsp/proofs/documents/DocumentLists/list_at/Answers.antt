use Rattle.std.proofs.Common.{string_bytes}
use Rattle.miette_lsp.proofs.Putting.{is_at}
use Rattle.miette_sarif.specs.views.Findings.{texts_of}
use Rattle.miette_lsp.proofs.documents.DocumentLists.list_at.Goals as goal

pub returns : goal.returns
returns c =
    let old = c.args.self.now in
    is_at (texts_of old.uris.keys) (texts_of c.place_of_uri.new.uris.keys) (string_bytes c.args.uri) old.lists.items
    c.begin_list.new.lists.items c.in_ok-at.at c.in_ok-at.is_new c.requires c.in_ok-at.ensures.new
    c.in_ok-at.ensures.uris c.in_ok-at.ensures.inside c.in_ok-at.ensures.there c.in_ok-begin_list.ensures
