use Rattle.std.proofs.Common.{◌∙◌, Some, ap, map, sym}
use Rattle.serde_json.specs.View.{view}
use Rattle.miette_program.specs.rules.JobText.{IsGiven}
use Rattle.miette_protocol.specs.rules.Reading.{Source}
use Rattle.miette_protocol.specs.views.Diagnostic.{meaning_of}
use Rattle.miette_tree.specs.views.Report.{tree_of}
use Rattle.miette_show.specs.rules.ShownRow.{value_trees}
use Rattle.miette_show.specs.rules.ValueKinds.{failure_of}
use Rattle.miette_show.proofs.TextSteps.{value_said}
use Rattle.miette_show.proofs.message.value_text.Goals as goal

pub returns-clause-text : goal.returns-clause-text
returns-clause-text g c =
    let value = view c.args.value.now in
    let tree = tree_of meaning_of (λ (it : Source). it) in
    value_said (IsGiven g.H.Highlighter.is_blank g.H.Highlighter.may_follow c.args.handler.now)
    (value_trees c.args.from (g.F.Files.found c.args.files.now) value) (failure_of c.args.from value)
    c.value_kind.result _ c.in_ok-error.error _
    (c.in-Ok.ensures.ok ∙ ap (λ l. Some (map tree l)) (sym c.as_slice.ensures.value)) c.in_ok-error.ensures.texts
    c.value_kind.ensures
