-- How a log's results include the texts of reports.
use Rattle.std.specs.Prelude.{◌≡◌, ◌⊎◌, ⊤, ℕ, true, List, [], ◌∷◌, ◌++◌, codes, Option, Some, None, IfSome}
use Rattle.std.specs.Prelude.{unwrap_or}
use Rattle.std.specs.List.{AllByRecursion, Contains, flat_map}
use Rattle.miette_fixes.specs.rules.Edits.{FixModel}
use Rattle.miette_json.specs.rules.Json.{Json, string}
use Rattle.miette_protocol.specs.rules.Reading.{Source}
use Rattle.miette_protocol.specs.views.Meaning.{Label}
use Rattle.miette_sarif.specs.rules.Codes.{rule_value}
use Rattle.miette_sarif.specs.rules.FindingList.{level}
use Rattle.miette_sarif.specs.rules.Messages.{doubled, row}
use Rattle.miette_sarif.specs.rules.Proposals.{applicable}
use Rattle.miette_sarif.specs.rules.Uris.{address_uri, name_uri}
use Rattle.miette_tree.specs.rules.Diagnosis.{Diagnosis}
use Rattle.miette_tree.specs.rules.DiagnosticParts.{given_labels}
use Rattle.miette_tree.specs.rules.Tree.{Tree, tree, Cause, diagnostic, texts, causes_of, cause_of, effective, head}
use Rattle.miette_tree.specs.rules.Tree.{Trees, no_trees, more_trees}
use Rattle.miette_sarif.specs.laws.Values.{StandsIn, list_at, value_at}

-- ---- reports

-- a report and its effective source: its own, else the one that it inherits
pub record Printed : Type 0 where
  pub source : Option Source
  pub report : Tree

-- a report and its related reports, depth first; the first argument is the inherited source
abbrev mutual
  pub printed : Option Source → Tree → List Printed
  printed inherited (tree m s c r) =
      record { source = effective s inherited; report = tree m s c r } ∷ all_printed (effective s inherited) r

  pub all_printed : Option Source → Trees → List Printed
  all_printed inherited no_trees = []
  all_printed inherited (more_trees t ts) = printed inherited t ++ all_printed inherited ts

-- ---- a log

abbrev pub results_in : Json → List Json
results_in log = flat_map (list_at (codes "results")) (list_at (codes "runs") log)

abbrev pub rules_in : Json → List Json
rules_in log = flat_map (λ run. list_at (codes "rules") (value_at (codes "driver") (value_at (codes "tool") run)))
    (list_at (codes "runs") log)

-- ---- what a result says

-- an empty code counts as none
abbrev pub TellsCode : Json → List ℕ → Type 0
TellsCode result code = (code ≡ []) ⊎ (value_at (codes "ruleId") result ≡ string code)

-- the url is a line of the message, or the help address of the rule with the report's code
abbrev pub TellsUrl : Json → Json → Option (List ℕ) → List ℕ → Type 0
TellsUrl log result code url = StandsIn result (row (codes "see: ") url)
    ⊎ Contains (rules_in log) (rule_value (unwrap_or code []) (Some (address_uri url)))

-- the name of a source that always reads, as a URI; an empty name counts as none
abbrev pub NamesSource : Json → Option Source → Type 0
NamesSource result None = ⊤
NamesSource result (Some s) =
    s.always_reads ≡ true → IfSome s.name (λ name. (name ≡ []) ⊎ StandsIn result (name_uri name))

-- the text and the source of a label
abbrev pub TellsLabel : Json → Option Source → Label → Type 0
TellsLabel result over label =
    IfSome label.text (λ words. StandsIn result (doubled words)) × NamesSource result over

-- a fix without edits, or whose edits can't be applied to these bytes, or whose result is not UTF-8
abbrev pub CannotBeApplied : List ℕ → FixModel → Type 0
CannotBeApplied bytes fix = (fix.edits ≡ []) ⊎ (applicable bytes fix.edits ≡ None)

-- A fix is included by its message, the texts of its edits and its source, or by a line with its message. If the source
-- always reads, that line occurs only if the fix can't be applied.
abbrev pub TellsFix : Json → Option Source → FixModel → Type 0
TellsFix result over fix =
    (StandsIn result (doubled fix.message) × AllByRecursion (λ edit. StandsIn result edit.text) fix.edits
    × NamesSource result over) ⊎ (StandsIn result (row (codes "fix: ") fix.message)
    × IfSome over (λ s. s.always_reads ≡ true → CannotBeApplied s.bytes fix))

-- the labels of a diagnostic, over its source and its further ones, and its fixes
pub record TellsPlaces (result : Json) (over : Option Source) (m : Diagnosis) : Type 0 where
  pub labels : AllByRecursion (TellsLabel result over) (given_labels m.labels)
  pub further : AllByRecursion
      (λ section. AllByRecursion (TellsLabel result (Some section.source)) section.labels) m.snippets
  pub fixes : AllByRecursion (TellsFix result over) m.fixes

-- the same for all causes; each uses its own source, else the given one
abbrev pub TellsCauses : Json → Option Source → Cause → Type 0
TellsCauses result over (texts ts) = ⊤
TellsCauses result over (diagnostic (tree m s c r)) =
    TellsPlaces result (effective s over) m × TellsCauses result over c

pub record Tells (log : Json) (it : Printed) (result : Json) : Type 0 where
  pub severity : value_at (codes "level") result ≡ string (level (head it.report).severity)
  pub code : IfSome (head it.report).code (TellsCode result)
  pub message : StandsIn result (doubled (head it.report).message)
  pub causes : AllByRecursion (λ words. StandsIn result (row (codes "caused by: ") words))
      (causes_of (cause_of it.report))
  pub help : IfSome (head it.report).help (λ words. StandsIn result (row (codes "help: ") words))
  pub url : IfSome (head it.report).url (TellsUrl log result (head it.report).code)
  pub places : TellsPlaces result it.source (head it.report)
  pub cause_places : TellsCauses result it.source (cause_of it.report)
