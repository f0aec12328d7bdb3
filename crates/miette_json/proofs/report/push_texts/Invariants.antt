use Rattle.std.proofs.Common.{◌≡◌, string_bytes, map, drop}
use Rattle.miette_json.specs.rules.JsonReport.{strings}
use Rattle.miette_json.specs.rules.Writing.{with_items}
use Rattle.miette_json.proofs.report.push_texts.Given as goal

abbrev pub invariant-loop-text : goal.invariant-loop-text
invariant-loop-text l =
    with_items (strings (map string_bytes (drop l.text-index l.texts))) l.json
    ≡ with_items (strings (map string_bytes l.texts)) l.fn.json
