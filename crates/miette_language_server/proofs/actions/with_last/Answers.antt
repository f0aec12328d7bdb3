use Rattle.std.proofs.Common.{◌≡◌, ◌++◌, ◌∷◌, [], ◌∙◌, ap, map}
use Rattle.std.proofs.lemmas.List.{map-append}
use Rattle.serde_json.specs.View.{view}
use Rattle.miette_language_server.proofs.actions.with_last.Goals as goal

pub returns : goal.returns
returns c =
    let values = c.args.list.items in
    let items : c.push.new.list.items ≡ values ++ c.args.last ∷ [] = c.in_ok-push.ensures.ok in
    ap (map view) items ∙ map-append view values (c.args.last ∷ [])
