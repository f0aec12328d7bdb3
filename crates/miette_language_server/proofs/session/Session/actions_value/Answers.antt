use Rattle.std.proofs.Common.{◌≡◌, ◌∙◌, ap, map, rules}
use Rattle.std.specs.Prelude.{codes}
use Rattle.std.specs.Option.{option_copied}
use Rattle.serde_json.specs.View.{view}
use Rattle.miette_language_server.specs.rules.Actions.{actions_in}
use Rattle.miette_language_server.specs.rules.Documents.{document_in}
use Rattle.miette_language_server.specs.rules.Members.{region_at}
use Rattle.miette_language_server.specs.rules.Values.{list_value}
use Rattle.miette_language_server.proofs.session.Session.actions_value.Goals as goal

pub returns : goal.returns
returns c =
    let s = c.args.self.now in
    let d = view c.args.message.now in
    let document : option_copied c.document_in-document.result ≡ document_in s.documents d = search rules in
    let region : c.region_at-region.result ≡ region_at (codes "/params/range") d = search rules in
    let list : map view c.in_ok-actions.actions.items
    ≡ actions_in s.width (option_copied c.document_in-document.result) c.region_at-region.result = search rules in
    c.list_value.ensures ∙ ap list_value (list ∙ ap (λ o. actions_in s.width o c.region_at-region.result) document
    ∙ ap (λ r. actions_in s.width (document_in s.documents d) r) region)
