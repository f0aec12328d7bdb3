-- The text of a log reads back.
use Rattle.std.proofs.Common.{ℕ, ◌≤◌, List, Option, ap, subst, ◌∙◌, arith, option_and_then}
use Rattle.json.specs.Tree.{depth}
use Rattle.serde_json.specs.Read.{max_depth, read}
use Rattle.miette_json.specs.rules.Denotes.{Denotes}
use Rattle.miette_json.specs.rules.Json.{Json}
use Rattle.miette_protocol.specs.rules.Reading.{Source}
use Rattle.miette_sarif.specs.rules.Log.{ToolName, log}
use Rattle.miette_sarif.specs.rules.LogText.{IsLogOf}
use Rattle.miette_read_sarif.specs.rules.Logs.{sarif_trees}
use Rattle.miette_tree.specs.rules.Tree.{Trees}
use Rattle.miette_read_laws.specs.laws.Data.{NumbersFit}
use Rattle.miette_read_laws.specs.laws.Reading.{ReadsBack}
use Rattle.miette_read_laws.specs.laws.Sources.{AreFilesOf}
use Rattle.miette_read_laws.proofs.Gathered.{findings_over}
use Rattle.miette_read_laws.proofs.Shallow.{log_within}
use Rattle.miette_read_laws.proofs.Spelled.{outline, spelling_read}
use Rattle.miette_read_laws.proofs.Whole.{log_read}

pub text_read : (files : List ℕ → Option Source) (tool : ToolName) (reports : Trees) (text : List ℕ) (value : Json)
    → IsLogOf tool reports text → Denotes text value → NumbersFit value → AreFilesOf files reports
    → ReadsBack files reports text
text_read files tool reports text value is means fit there =
    let written : Json = log tool is.findings in
    let fits : NumbersFit written = subst NumbersFit (is.only value means) fit in
    let nests = log_within tool is.findings in
    let shallow : depth (outline written) ≤ max_depth = omega (arith, nests) in
    record {
      findings = is.findings;
      found = is.found;
      trees = ap (λ bytes. option_and_then (sarif_trees files) (read bytes)) is.spelled
          ∙ (ap (option_and_then (sarif_trees files)) (spelling_read written fits shallow)
          ∙ log_read files tool is.findings (findings_over files reports is.findings there is.found));
    }
