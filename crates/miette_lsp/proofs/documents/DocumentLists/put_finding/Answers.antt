use Rattle.std.proofs.Common.{Some, ap, string_bytes, sym, ◌∙◌}
use Rattle.std.proofs.lemmas.Result.{on_ok_weaker}
use Rattle.std.specs.Option.{option_map}
use Rattle.miette_lsp.proofs.Grouping.{lists_fit, none_found, one_put}
use Rattle.miette_lsp.specs.views.DocumentLists.{document_lists_of}
use Rattle.miette_sarif.specs.rules.Artifacts.{uri_of}
use Rattle.miette_sarif.specs.views.Artifacts.{artifacts_view}
use Rattle.miette_sarif.specs.views.Findings.{finding_of, source_name_of}
use Rattle.miette_lsp.proofs.documents.DocumentLists.put_finding.Goals as goal

pub list_at-requires : goal.list_at-requires
list_at-requires c =
    lists_fit c.args.tool.now (artifacts_view c.args.artifacts.now).untitled (document_lists_of c.args.self.now)
    c.requires

pub push_to-requires : goal.push_to-requires
push_to-requires c = c.in_ok-at-in-Some.ensures.within

pub returns-in_ok-at-in-Some : goal.returns-in_ok-at-in-Some
returns-in_ok-at-in-Some c =
    let untitled = (artifacts_view c.args.artifacts.now).untitled in
    let is = ap (option_map (uri_of untitled)) (sym c.mark_source.ensures ∙ ap (option_map source_name_of) c.in-Some.is)
    ∙ ap Some (sym c.in_ok-uri-in-Some.ensures) in
    on_ok_weaker c.push_to.result (λ put fs are. one_put c.args.tool.now untitled fs (finding_of c.args.finding.now)
    (string_bytes c.in_ok-uri-in-Some.uri) c.in_ok-at-in-Some.at (document_lists_of c.args.self.now)
    (document_lists_of c.list_at.new.self) c.push_to.new.lists.items are is c.in_ok-at-in-Some.ensures put)
    c.push_to.ensures

pub returns-in-None : goal.returns-in-None
returns-in-None c = λ fs are.
    let untitled = (artifacts_view c.args.artifacts.now).untitled in
    none_found c.args.tool.now untitled fs (finding_of c.args.finding.now) (document_lists_of c.args.self.now) are
    (ap (option_map (uri_of untitled)) (sym c.mark_source.ensures ∙ ap (option_map source_name_of) c.in-None.is))
