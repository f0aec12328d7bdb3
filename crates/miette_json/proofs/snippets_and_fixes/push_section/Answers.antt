use Rattle.std.proofs.lemmas.Result.{on_ok_weaker}
use Rattle.miette_json.proofs.JsonAttached.{name_found, section_put}
use Rattle.miette_tree.specs.views.Owned.{ref_source}
use Rattle.miette_json.proofs.snippets_and_fixes.push_section.Goals as goal

pub returns : goal.returns
returns g c =
    let source = ref_source g.S.SourceCode.source c.args.source in
    let labels = c.args.labels.now in
    let named = c.source_file_name.ensures in
    on_ok_weaker c.end_object.result (λ h. record {
      fault = named.fault;
      possible = named.possible;
      written = section_put source labels named.fault c.source_file_name.result.now _ _ _ _ _ _
          (name_found source labels _ named) c.in_ok-begin_object.ensures c.in_ok-string_member.ensures
          c.in_ok-key.ensures c.in_ok-push_labels.ensures h;
    }) c.end_object.ensures
