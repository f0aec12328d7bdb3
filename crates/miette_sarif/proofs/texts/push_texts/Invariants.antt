use Rattle.std.proofs.Common.{drop, ◌≡◌}
use Rattle.miette_json.specs.rules.Writing.{opened}
use Rattle.miette_sarif.specs.steps.Members.{with_texts}
use Rattle.miette_sarif.specs.views.Findings.{texts_of}
use Rattle.miette_sarif.proofs.texts.push_texts.Given as goal

abbrev pub invariant-loop-text : goal.invariant-loop-text
invariant-loop-text l =
    with_texts (texts_of (drop l.text-index l.texts)) l.json ≡ with_texts (texts_of l.texts) (opened 91 l.fn.json)
