use Rattle.std.proofs.Common.{ap, codes, ◌-◌, ◌∙◌}
use Rattle.std.proofs.lemmas.Result.{on_ok_weaker}
use Rattle.miette_json.proofs.WrittenSteps.{six_steps}
use Rattle.miette_json.specs.rules.Json.{number}
use Rattle.miette_json.specs.rules.Writing.{closed, opened, with_key, with_value}
use Rattle.miette_sarif.specs.rules.Places.{line_pairs, snippet_pairs}
use Rattle.miette_sarif.specs.steps.Members.{with_pairs}
use Rattle.miette_sarif.specs.views.Findings.{area_of}
use Rattle.miette_sarif.proofs.places.push_area.Goals as goal

pub returns : goal.returns
returns c =
    let area = area_of c.args.area.now in
    let s = area.stretch in
    on_ok_weaker c.end_object.result (six_steps (opened 123) (with_pairs (line_pairs s))
    (λ p. with_value (number s.start.offset) (with_key (codes "byteOffset") p))
    (λ p. with_value (number (s.end.offset - s.start.offset)) (with_key (codes "byteLength") p))
    (with_pairs (snippet_pairs area.snippet)) (closed 125) _ _ _ _ _ _ _ c.in_ok-begin_object.ensures
    c.in_ok-push_lines.ensures c.in_ok-number_member.ensures (c.in_ok-number_member-2.ensures
    ∙ ap (λ n. with_value (number n) (with_key (codes "byteLength") c.number_member.new.self))
    c.saturating_sub-length.ensures) c.in_ok-push_snippet.ensures) c.end_object.ensures
