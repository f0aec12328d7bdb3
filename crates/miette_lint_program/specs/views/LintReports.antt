-- What the program `lint` writes of a source.
use Rattle.std.specs.Prelude.{◌≡◌, ℕ, Bool, true, false, List, [], ◌∷◌, ◌++◌, Some, codes, decimal, length}
use Rattle.std.specs.Prelude.{⊤, encode_utf8_all, if◌then◌else◌, string_bytes}
use Rattle.miette_lines.specs.rules.Lists.{is_nil}
use Rattle.miette_protocol.specs.views.Diagnostic.{message_alone}
use Rattle.miette_tree.specs.rules.Tree.{Tree, Trees, more_trees, no_trees, with_fix}
use Rattle.miette_brief.specs.declared.form.BriefForm.TheVariants.{Github}
use Rattle.miette_brief.specs.rules.Report as rows
use Rattle.miette_protocol.specs.views.Meaning.{Label, Meaning}
use Rattle.miette_protocol.specs.declared.protocol.Severity.TheVariants.{Warning}
use Rattle.miette_graphical_rules.specs.rules.Answers.{unlisted}
use Rattle.miette_graphical_rules.specs.rules.Snippets.{whole_drawing}
use Rattle.miette_graphical_rules.specs.rules.Text.{report_text}
use Rattle.miette_draw.specs.rules.Pictures.{draw_settings, over_input}
use Rattle.miette_language_server.specs.rules.Serving.{served}
use Rattle.miette_lint.specs.rules.FindingWithFixes.{FindingWithFixes, coded_findings}
use Rattle.miette_lint.specs.rules.Findings.{findings_of}
use Rattle.miette_lint.specs.rules.Fixes.{fixed_text}
use Rattle.miette_lint.specs.rules.Combined.{combined_proposal}
use Rattle.miette_lint_program.specs.rules.Logs.{finding_trees, lint_log}
use Rattle.miette_lint_program.specs.rules.Words.{Check, Request, Written, brief, check, diff, fixed, github, graphical}
use Rattle.miette_lint_program.specs.rules.Words.{sarif, serve}
use Rattle.miette_lint_program.specs.declared.lint.Verdict.{Verdict}
use Rattle.miette_lint_program.specs.declared.lint.Verdict.TheVariants.{Clean, Found, RemainingFindings}

abbrev pub count_text : ℕ → List ℕ
count_text n = decimal n ++ codes " findings"

-- a warning with these labels; its message says how many there are
abbrev pub warning : List Label → Meaning
warning found = record (message_alone (count_text (length found))) { severity = Some Warning; labels = Some found }

-- GitHub workflow commands
abbrev pub commands_settings : rows.BriefSettings
commands_settings = record rows.default_brief_settings { form = Github }

-- the commands of reports, one after another
abbrev pub commands_of : Trees → List ℕ
commands_of no_trees = []
commands_of (more_trees t ts) = rows.brief commands_settings t rows.unlisted ++ commands_of ts

abbrev pub label_of : FindingWithFixes → Label
label_of it = it.label

-- ---- what is found in a source, as a report

-- the graphical report, with source lines cut at this many columns
abbrev pub picture : ℕ → Tree → List ℕ
picture width t = encode_utf8_all (report_text whole_drawing (draw_settings (Some width)) t unlisted)

-- the brief report
abbrev pub rows_text : Tree → List ℕ
rows_text t = rows.brief rows.default_brief_settings t rows.unlisted

-- a text, if there are findings
abbrev pub where_found : List Label → List ℕ → List ℕ
where_found [] text = []
where_found (l ∷ ls) text = text

-- The report of these findings, in this form. The graphical and the brief report are those of one warning with all
-- labels; `--diff` adds one fix of all proposed edits. Commands and logs have a warning for each finding. `--fix` has a
-- graphical report of the remaining findings. If nothing was found, only a log has a text.
abbrev pub report_in : Written → List ℕ → ℕ → List ℕ → List Label → List ℕ
report_in graphical name width source found = where_found found (picture width (over_input name (warning found) source))
report_in brief name width source found = where_found found (rows_text (over_input name (warning found) source))
report_in github name width source found =
    where_found found (commands_of (finding_trees name source (coded_findings source width)))
report_in (sarif tool) name width source found = lint_log tool name width source
report_in diff name width source found =
    where_found found (picture width
    (with_fix (combined_proposal source width) (over_input name (warning found) source)))
report_in fixed name width source found = where_found found (picture width (over_input name (warning found) source))

-- the report on a source
abbrev pub report_on : Check → List ℕ → List ℕ
report_on it source = report_in it.output it.name it.width source (findings_of source it.width)

-- ---- what comes of an input

abbrev pub is_fix : Written → Bool
is_fix fixed = true
is_fix _ = false

-- the source that is checked: the input, or its fixed text
abbrev pub source_of : Check → List ℕ → List ℕ
source_of it input = if is_fix it.output then fixed_text input else input

-- the output: the report on the input, or its fixed text
abbrev pub text_of : Check → List ℕ → List ℕ
text_of it input = if is_fix it.output then fixed_text input else report_on it input

-- whether nothing was found
abbrev pub is_clean : Check → List ℕ → Bool
is_clean it input = is_nil (findings_of (source_of it input) it.width)

-- What was found: nothing, findings whose report was written, or findings in the fixed text, with their report.
abbrev pub IsVerdict : Verdict → Check → List ℕ → Type 0
IsVerdict Clean it input = is_clean it input ≡ true
IsVerdict Found it input = is_clean it input ≡ false
IsVerdict (RemainingFindings text) it input =
    (is_clean it input ≡ false) × (string_bytes text ≡ report_on it (fixed_text input))

-- findings remain only in a fixed text
abbrev pub IsVerdictIn : Written → Verdict → Type 0
IsVerdictIn output Clean = ⊤
IsVerdictIn output Found = is_fix output ≡ false
IsVerdictIn output (RemainingFindings text) = is_fix output ≡ true

-- the exit code of a check: 0 if nothing was found
abbrev pub check_status : Check → List ℕ → ℕ
check_status it input = if is_clean it input then 0 else 1

-- the exit code of a request
abbrev pub request_status : Request → List ℕ → ℕ
request_status (check it) input = check_status it input
request_status (serve width) input = (served width input).status
