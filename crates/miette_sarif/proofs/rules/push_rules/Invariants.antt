use Rattle.std.proofs.Common.{drop, ◌≡◌}
use Rattle.miette_json.specs.rules.Writing.{opened, with_items}
use Rattle.miette_sarif.specs.rules.Codes.{rule_values_of}
use Rattle.miette_sarif.specs.rules.Objects.{items_of}
use Rattle.miette_sarif.specs.views.Rules.{codes_seen, uri_at}
use Rattle.miette_sarif.proofs.rules.push_rules.Given as goal

abbrev pub invariant-loop-code : goal.invariant-loop-code
invariant-loop-code l =
    with_items (items_of (rule_values_of (codes_seen (drop l.code-index l.codes)) (uri_at l.uris))) l.json
    ≡ with_items (items_of (rule_values_of (codes_seen l.codes) (uri_at l.uris))) (opened 91 l.fn.json)
