-- The arguments for one log of all reports, and its text.
use Rattle.std.specs.Prelude.{ℕ, List, [], ◌∷◌, Option, Some, None, bytes_eq, codes, if◌then◌else◌, option_map}
use Rattle.std.specs.Prelude.{option_and_then}
use Rattle.miette_devices.specs.declared.output_form.OutputForm.{OutputForm}
use Rattle.miette_devices.specs.declared.output_form.OutputForm.TheVariants as output
use Rattle.miette_devices.specs.rules.OutputForms.{form_named}
use Rattle.miette_tree.specs.rules.Tree.{Trees}
use Rattle.miette_lsp.specs.rules.LspText.{lsp_text}
use Rattle.miette_sarif.specs.rules.Log.{ToolName}
use Rattle.miette_sarif.specs.rules.LogText.{log_text}
use Rattle.miette_lsp.specs.declared.logs.LogForm.{LogForm}
use Rattle.miette_lsp.specs.declared.logs.LogForm.TheVariants.{Sarif, Lsp}

-- the log of a tool of this name
pub record LogRequest : Type 0 where
  pub form : LogForm
  pub tool : List ℕ

-- the log that a form of output is
abbrev pub log_form : OutputForm → Option LogForm
log_form output.Sarif = Some Sarif
log_form output.Lsp = Some Lsp
log_form other = None

unfoldable pub of_tool : List ℕ → List ℕ → Option LogRequest
of_tool word tool =
    option_map (λ form. record { form = form; tool = tool }) (option_and_then log_form (form_named word))

-- The log that the arguments ask for, with the program as its tool, or the tool after `--tool`, before or after the
-- argument of the log. None for any other arguments.
abbrev pub logging_of : List ℕ → List (List ℕ) → Option LogRequest
logging_of program [] = None
logging_of program (word ∷ []) = of_tool word program
logging_of program (first ∷ second ∷ []) = None
logging_of program (first ∷ second ∷ third ∷ []) =
    if bytes_eq first (codes "--tool") then of_tool third second
    else if bytes_eq second (codes "--tool") then of_tool first third else None
logging_of program (first ∷ second ∷ third ∷ fourth ∷ words) = None

-- a tool of which the log has only the name
abbrev pub tool_called : List ℕ → ToolName
tool_called name = record { name = name; version = None; information = None }

-- the log of these reports: SARIF, or the list for editors
abbrev pub text_by : LogForm → List ℕ → Trees → List ℕ
text_by Sarif tool ts = log_text (tool_called tool) ts
text_by Lsp tool ts = lsp_text tool ts

abbrev pub logged_text : LogRequest → Trees → List ℕ
logged_text asked ts = text_by asked.form asked.tool ts
