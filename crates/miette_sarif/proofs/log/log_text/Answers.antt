use Rattle.std.proofs.Common.{ap, ◌∙◌}
use Rattle.miette_json.proofs.WrittenParts.{whole_written}
use Rattle.miette_json.specs.rules.Writing.{with_value}
use Rattle.miette_sarif.specs.rules.Log.{log}
use Rattle.miette_sarif.specs.views.Findings.{sarif_findings_of}
use Rattle.miette_sarif.specs.views.Tool.{tool_view}
use Rattle.miette_sarif.proofs.log.log_text.Goals as goal

pub returns : goal.returns
returns c =
    let value = log (tool_view c.args.tool.now) (sarif_findings_of c.args.findings.now) in
    c.into_text.ensures ∙ whole_written value c.push_log.new.json
    (c.in_ok-push_log.ensures ∙ ap (with_value value) c.new-json.ensures)
