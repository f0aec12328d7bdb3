use Rattle.std.proofs.Common.{◌∙◌, ap, sym}
use Rattle.std.specs.Prelude.{position}
use Rattle.miette_language_server.proofs.Places.{found_out, is_named, none_out}
use Rattle.miette_language_server.proofs.documents.remove_document.Goals as goal

pub returns-in-Some : goal.returns-in-Some
returns-in-Some c =
    let docs = c.args.documents.now.items in
    let uri = c.args.uri.now in
    c.remove.ensures.items
    ∙ sym (found_out docs uri c.in-Some.at
    (sym (c.in-Some.ensures.at ∙ ap (position (is_named uri)) c.as_slice.ensures.value)))

pub returns-in-None : goal.returns-in-None
returns-in-None c =
    let docs = c.args.documents.now.items in
    let uri = c.args.uri.now in
    sym (none_out docs uri (sym (c.in-None.ensures.at ∙ ap (position (is_named uri)) c.as_slice.ensures.value)))
