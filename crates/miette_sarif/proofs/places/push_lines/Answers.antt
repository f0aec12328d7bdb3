use Rattle.std.proofs.Common.{codes, ◌+◌}
use Rattle.std.proofs.lemmas.Result.{on_ok_weaker}
use Rattle.miette_json.proofs.WrittenSteps.{four_steps}
use Rattle.miette_json.specs.rules.Json.{number}
use Rattle.miette_json.specs.rules.Writing.{with_key, with_value}
use Rattle.miette_sarif.proofs.places.push_lines.Goals as goal

pub returns : goal.returns
returns c =
    let s = c.args.stretch.now in
    on_ok_weaker c.push_ordinal-4.result (four_steps
    (λ p. with_value (number (s.start.position.line + 1)) (with_key (codes "startLine") p))
    (λ p. with_value (number (s.start.position.column + 1)) (with_key (codes "startColumn") p))
    (λ p. with_value (number (s.end.position.line + 1)) (with_key (codes "endLine") p))
    (λ p. with_value (number (s.end.position.column + 1)) (with_key (codes "endColumn") p)) _ _ _ _ _
    c.in_ok-push_ordinal.ensures c.in_ok-push_ordinal-2.ensures c.in_ok-push_ordinal-3.ensures) c.push_ordinal-4.ensures
