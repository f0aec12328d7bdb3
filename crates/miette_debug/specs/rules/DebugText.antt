-- The text of the debug report.
use Rattle.std.specs.Prelude.{◌≡◌, ℕ, List, [], ◌∷◌, ◌++◌, Option, Some, None, IfSome, codes}
use Rattle.std.specs.Fmt.{debug_list, debug_str}
use Rattle.miette_protocol.specs.rules.DebugForms.{label_form}
use Rattle.miette_protocol.specs.views.Meaning.{Label}
use Rattle.miette_tree.specs.rules.Diagnosis.{Diagnosis}
use Rattle.miette_protocol.specs.declared.protocol.Severity.{Severity}
use Rattle.miette_protocol.specs.declared.protocol.Severity.TheVariants.{Advice, Warning, Error}
use Rattle.miette_tree.specs.rules.Tree.{Tree, head, cause_of, causes_of}
use Rattle.miette_tree.specs.rules.DiagnosticParts.{given_labels}

-- A text in quotes, with its escapes, as `{:?}` writes it. It is unspecified for a text that isn't all ASCII.
abbrev pub IsQuoted : List ℕ → List ℕ → Type 0
IsQuoted text quoted = IfSome (debug_str text) (λ form. quoted ≡ form)

-- a field after another, `, name: "text"`
pub record IsShown (name text shown : List ℕ) : Type 0 where
  pub quoted : List ℕ
  pub is_quoted : IsQuoted text quoted
  pub is : shown ≡ codes ", " ++ (name ++ (codes ": " ++ quoted))

-- the field of a part; empty if the part is missing
abbrev pub IsField : List ℕ → Option (List ℕ) → List ℕ → Type 0
IsField name None field = field ≡ []
IsField name (Some text) field = IsShown name text field

-- the name of a severity's variant, if one is set
abbrev pub severity_variant : Option Severity → Option (List ℕ)
severity_variant None = None
severity_variant (Some Error) = Some (codes "Error")
severity_variant (Some Warning) = Some (codes "Warning")
severity_variant (Some Advice) = Some (codes "Advice")

-- the labels in brackets, as `{:?}` writes them; unspecified if a label's text isn't all ASCII
abbrev pub AreFormed : List Label → List ℕ → Type 0
AreFormed labels form = IfSome (debug_list label_form labels) (λ text. form ≡ text)

-- one field for all labels; none for an empty list
abbrev pub IsLabelsField : List Label → List ℕ → Type 0
IsLabelsField [] field = field ≡ []
IsLabelsField (l ∷ ls) field = (form : List ℕ) × AreFormed (l ∷ ls) form × IsShown (codes "labels") form field

-- the nearest cause, if there is one
abbrev pub nearest_cause : List (List ℕ) → Option (List ℕ)
nearest_cause [] = None
nearest_cause (cause ∷ further) = Some cause

-- the fields of code, severity, url and help; missing ones are left out
pub record AreFields (m : Diagnosis) (fields : List ℕ) : Type 0 where
  pub code : List ℕ
  pub severity : List ℕ
  pub url : List ℕ
  pub help : List ℕ
  pub is_code : IsField (codes "code") m.code code
  pub is_severity : IsField (codes "severity") (severity_variant m.severity) severity
  pub is_url : IsField (codes "url") m.url url
  pub is_help : IsField (codes "help") m.help help
  pub is : fields ≡ code ++ (severity ++ (url ++ help))

-- `Diagnostic { message: "m", code: "c", severity: "Warning", url: "u", help: "h", labels: "..", caused by: "b" }` and
-- a line feed; missing fields are left out
pub record IsDebugText (t : Tree) (text : List ℕ) : Type 0 where
  pub message : List ℕ
  pub fields : List ℕ
  pub labels : List ℕ
  pub cause : List ℕ
  pub is_message : IsQuoted (head t).message message
  pub are_fields : AreFields (head t) fields
  pub are_labels : IsLabelsField (given_labels (head t).labels) labels
  pub is_cause : IsField (codes "caused by") (nearest_cause (causes_of (cause_of t))) cause
  pub is : text ≡ codes "Diagnostic { message: " ++ (message ++ (fields ++ (labels ++ (cause ++ (codes " }" ++ 10
      ∷ [])))))
