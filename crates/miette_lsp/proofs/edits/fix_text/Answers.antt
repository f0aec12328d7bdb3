use Rattle.std.proofs.Common.{ap, ◌∙◌}
use Rattle.miette_json.proofs.WrittenParts.{whole_written}
use Rattle.miette_json.specs.rules.Writing.{with_value}
use Rattle.miette_lsp.specs.rules.Diagnostics.{lsp_fix_value}
use Rattle.miette_sarif.specs.views.Artifacts.{artifacts_view}
use Rattle.miette_sarif.specs.views.Findings.{applicable_fix_of}
use Rattle.miette_lsp.proofs.edits.fix_text.Goals as goal

pub returns : goal.returns
returns c =
    let value = lsp_fix_value (artifacts_view c.args.artifacts.now).untitled (applicable_fix_of c.args.fix.now) in
    c.into_text.ensures ∙ whole_written value c.push_fix.new.json
    (c.in_ok-push_fix.ensures ∙ ap (with_value value) c.new-json.ensures)
