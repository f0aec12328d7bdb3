use Rattle.std.proofs.Common.{◌≡◌, ℕ, ◌++◌, Bor, Global, List, String, ap, codes, map, string_bytes, sym, ◌∙◌}
use Rattle.std.specs.List.{filter_map}
use Rattle.std.proofs.lemmas.List.Elements.{filter_map-append}
use Rattle.serde_json.specs.Data.{Data}
use Rattle.serde_json.specs.View.{view}
use Rattle.serde_json.specs.declared.value.Value.{Value}
use Rattle.miette_read.specs.rules.Members.{member_objects}
use Rattle.miette_read.specs.rules.Places.{Annotation}
use Rattle.miette_read.specs.views.Values.{values_behind}
use Rattle.miette_read_sarif.specs.rules.Results.{result_annotations}
use Rattle.miette_read_sarif.specs.rules.Wholes.{FileAnnotations, bare_file, whole_file}
use Rattle.miette_read_sarif.specs.views.RunContexts.{run_context}
use Rattle.miette_read_sarif.proofs.context.RunContext.result_file_annotations.Goals as goal

abbrev made : List Annotation → List (List ℕ) → List (List ℕ) → FileAnnotations
made told wholes bares = record { told = told; wholes = wholes; bares = bares }

pub returns : goal.returns
returns g c =
    let context = run_context g.F.Files.found c.args.self.now in
    let r = view c.args.finding.now in
    let own : List Data = member_objects (codes "locations") r in
    let related : List Data = member_objects (codes "relatedLocations") r in
    let bare = bare_file context in
    let own_bare : map string_bytes c.push_bare.new.list.items ≡ filter_map bare own =
    c.in_ok-push_bare.ensures
    ∙ ap (λ (names : List (String Global)). map string_bytes names ++ filter_map bare
    (values_behind c.as_slice-2.result.now))
    c.new-bares.ensures.items
    ∙ ap (λ (vs : List (Bor Value)). filter_map bare (values_behind vs)) c.as_slice-2.ensures.value
    ∙ ap (filter_map bare) c.in_ok-own.ensures in
    let all_bare : map string_bytes c.push_bare-2.new.list.items ≡ filter_map bare (own ++ related) =
    c.in_ok-push_bare-2.ensures
    ∙ ap (λ names. names ++ filter_map bare (values_behind c.as_slice-3.result.now)) own_bare
    ∙ ap (λ (vs : List (Bor Value)). filter_map bare own ++ filter_map bare (values_behind vs))
    c.as_slice-3.ensures.value
    ∙ ap (λ ds. filter_map bare own ++ filter_map bare ds) c.in_ok-related.ensures
    ∙ sym (filter_map-append bare own related) in
    let wholes : map string_bytes c.in_ok-wholes.wholes.items ≡ filter_map (whole_file context) own =
    c.in_ok-wholes.ensures
    ∙ ap (λ (vs : List (Bor Value)). filter_map (whole_file context) (values_behind vs)) c.as_slice.ensures.value
    ∙ ap (filter_map (whole_file context)) c.in_ok-own.ensures in
    ap (λ it. made it (map string_bytes c.in_ok-wholes.wholes.items) (map string_bytes c.push_bare-2.new.list.items))
    c.in_ok-told.ensures
    ∙ ap (λ it. made (result_annotations context r) it (map string_bytes c.push_bare-2.new.list.items)) wholes
    ∙ ap (made (result_annotations context r) (filter_map (whole_file context) own)) all_bare
