use Rattle.std.proofs.Common.{◌≡◌, drop}
use Rattle.miette_json.specs.rules.JsonReport.{edits_json}
use Rattle.miette_json.specs.rules.Writing.{opened, with_items}
use Rattle.miette_json.proofs.snippets_and_fixes.push_edits.Given as goal

abbrev pub invariant-loop-edit : goal.invariant-loop-edit
invariant-loop-edit l =
    with_items (edits_json (drop l.edit-index l.edits)) l.json ≡ with_items (edits_json l.edits) (opened 91 l.fn.json)
