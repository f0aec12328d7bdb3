use Rattle.std.proofs.Common.{ap, codes, ◌∙◌}
use Rattle.std.proofs.lemmas.Result.{on_ok_weaker}
use Rattle.miette_json.proofs.WrittenSteps.{five_steps}
use Rattle.miette_json.specs.rules.Writing.{closed, opened, with_key, with_value}
use Rattle.miette_sarif.specs.rules.Objects.{object_of}
use Rattle.miette_sarif.specs.rules.Places.{line_pairs}
use Rattle.miette_sarif.specs.rules.Results.{inserted}
use Rattle.miette_sarif.specs.steps.Members.{with_pairs}
use Rattle.miette_sarif.specs.views.Findings.{replacement_value_of}
use Rattle.miette_sarif.proofs.results.push_replacement.Goals as goal

pub returns : goal.returns
returns c =
    let item = replacement_value_of c.args.item.now in
    on_ok_weaker c.end_object.result (five_steps (opened 123) (with_key (codes "deletedRegion"))
    (with_value (object_of (line_pairs item.deleted))) (with_pairs (inserted item.text)) (closed 125) _ _ _ _ _ _
    c.in_ok-begin_object.ensures c.in_ok-key.ensures c.in_ok-push_stretch.ensures (c.in_ok-push_inserted.ensures
    ∙ ap (λ t. with_pairs (inserted t) c.push_stretch.new.json) c.as_str.ensures.value)) c.end_object.ensures
