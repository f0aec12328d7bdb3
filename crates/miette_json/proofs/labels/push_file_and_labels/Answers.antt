use Rattle.std.proofs.Common.{codes, ap, ◌∙◌}
use Rattle.std.proofs.lemmas.Result.{on_ok_weaker}
use Rattle.miette_json.specs.rules.Json.{array}
use Rattle.miette_json.specs.rules.JsonReport.{labels_json}
use Rattle.miette_json.specs.rules.Writing.{with_key, with_optional_text, with_value}
use Rattle.miette_json.proofs.labels.push_file_and_labels.Goals as goal

pub returns : goal.returns
returns g c =
    let named = c.file_name_for.ensures in
    on_ok_weaker c.push_labels.result (λ h. record {
      fault = named.fault;
      possible = named.possible;
      written = h ∙ ap (with_value (array (labels_json c.args.labels.now))) (c.in_ok-key.ensures
          ∙ ap (with_key (codes "labels")) (c.in_ok-optional_string_member.ensures
          ∙ ap (λ o. with_optional_text (codes "filename") o c.args.json.now) named.is));
    }) c.push_labels.ensures
