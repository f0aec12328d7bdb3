use Rattle.std.proofs.Common.{◌≡◌, ◌++◌, ◌∷◌, [], ◌∙◌, ap, sym, rules}
use Rattle.std.specs.Prelude.{position}
use Rattle.miette_language_server.proofs.Places.{is_named, put_after, put_found}
use Rattle.miette_language_server.proofs.documents.put_document.Goals as goal

pub returns-in-Some : goal.returns-in-Some
returns-in-Some c =
    let docs = c.args.documents.now.items in
    let document = c.args.document in
    sym (put_found docs document c.in-Some.at (sym (c.in-Some.ensures.at
    ∙ ap (position (is_named c.uri.result.now)) c.as_slice.ensures.value
    ∙ ap (λ u. position (is_named u) docs) c.uri.ensures)))

pub returns-in_ok-push-in-None : goal.returns-in_ok-push-in-None
returns-in_ok-push-in-None c =
    let docs = c.args.documents.now.items in
    let document = c.args.document in
    let pushed : c.push.new.self.items ≡ docs ++ document ∷ [] = search rules in
    pushed ∙ sym (put_after docs document (sym (c.in-None.ensures.at
    ∙ ap (position (is_named c.uri.result.now)) c.as_slice.ensures.value
    ∙ ap (λ u. position (is_named u) docs) c.uri.ensures)))
