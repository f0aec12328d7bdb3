-- The reports of the findings, one each, and their log.
use Rattle.std.specs.Prelude.{ℕ, List, [], ◌∷◌, Some, None, map, unwrap_or}
use Rattle.miette_protocol.specs.views.Diagnostic.{message_alone}
use Rattle.miette_protocol.specs.views.Meaning.{Meaning}
use Rattle.miette_protocol.specs.rules.Reading.{named_source, plain_source}
use Rattle.miette_tree.specs.rules.Tree.{Tree, Trees, single_report, no_trees, trees, with_fixes, with_related}
use Rattle.miette_tree.specs.rules.Tree.{with_source}
use Rattle.miette_lint.specs.rules.FindingWithFixes.{FindingWithFixes, coded_findings}
use Rattle.miette_protocol.specs.declared.protocol.Severity.TheVariants.{Warning}
use Rattle.miette_lsp.specs.rules.LogWords.{tool_called}
use Rattle.miette_sarif.specs.rules.LogText.{log_text}
use Rattle.miette_tree.specs.rules.Diagnosis.{plain_diagnosis}

-- A finding as a warning. Its text is the message; its label has no text.
abbrev pub finding_meaning : FindingWithFixes → Meaning
finding_meaning it = record (message_alone (unwrap_or it.label.text [])) {
  code = Some it.code;
  severity = Some Warning;
  labels = Some (record it.label { text = None } ∷ []);
}

-- the report of a finding, with its proposed fix
abbrev pub finding_tree : FindingWithFixes → Tree
finding_tree it = with_fixes it.fixes (single_report (plain_diagnosis (finding_meaning it)))

-- The reports of findings in an input with this name. The first report has the source; the others are related to it and
-- inherit the source.
abbrev pub finding_trees : List ℕ → List ℕ → List FindingWithFixes → Trees
finding_trees name input [] = no_trees
finding_trees name input (it ∷ its) =
    trees (with_source (named_source (plain_source input) name None)
    (with_related (trees (map finding_tree its)) (finding_tree it)) ∷ [])

-- the log of all findings in an input, with a result for each
abbrev pub lint_log : List ℕ → List ℕ → ℕ → List ℕ → List ℕ
lint_log tool name width input =
    log_text (tool_called tool) (finding_trees name input (coded_findings input width))
