-- Quick fixes in a range of a document, as code actions of the Language Server Protocol (3.17).
use Rattle.std.specs.Prelude.{◌≡◌, ℕ, List, [], ◌∷◌, ◌++◌, Bool, ◌&&◌, Option, Some, None, codes, flat_map}
use Rattle.std.specs.Prelude.{if◌then◌else◌, map}
use Rattle.std.specs.List.{AllByRecursion}
use Rattle.serde_json.specs.Data.{Data, boolean, member, no_members, object, string}
use Rattle.miette_fixes.specs.rules.Edits.{FixModel, Replacement, is_machine_applicable}
use Rattle.miette_lint.specs.rules.FindingWithFixes.{FindingWithFixes, coded_findings}
use Rattle.miette_lint.specs.rules.Combined.{combined_proposal}
use Rattle.miette_positions.specs.declared.position.Region.{Region}
use Rattle.miette_positions.specs.declared.position.PositionEncoding.TheVariants.{Utf16}
use Rattle.miette_positions.specs.rules.Regions.{EncodedSource, span_of}
use Rattle.miette_positions.specs.rules.Stops.{is_until}
use Rattle.miette_language_server.specs.rules.Diagnostics.{diagnostic_value, utf16_positions}
use Rattle.miette_language_server.specs.rules.Documents.{OpenDocument}
use Rattle.miette_language_server.specs.rules.Values.{edits_value, list_value, part}

-- whether two regions share a position; ends count
abbrev pub touches : Region → Region → Bool
touches a b = is_until a.start b.end && is_until b.start a.end

-- the workspace edit of one document
abbrev pub changes_value : List ℕ → Data → Data
changes_value uri edits = object (member (codes "changes") (object (member uri edits no_members)) no_members)

-- the quick fix of a diagnostic
abbrev pub action_value : List ℕ → EncodedSource → Data → FixModel → Data
action_value uri source diagnostic fix = object (member (codes "diagnostics") (list_value (diagnostic ∷ []))
    (member (codes "edit") (changes_value uri (edits_value source fix.edits))
    (member (codes "isPreferred") (boolean (is_machine_applicable fix.applicability))
    (member (codes "kind") (string (codes "quickfix"))
    (member (codes "title") (string fix.message) no_members)))))

-- the quick fix of all findings; its title says how many of them it resolves
abbrev pub joint_value : List ℕ → EncodedSource → FixModel → Data
joint_value uri source fix = object (member (codes "edit") (changes_value uri (edits_value source fix.edits))
    (member (codes "kind") (string (codes "quickfix"))
    (member (codes "title") (string (codes "fix " ++ fix.message)) no_members)))

-- quick fixes of a finding that touches this region
abbrev pub actions_at : List ℕ → EncodedSource → Region → FindingWithFixes → List Data
actions_at uri source region c = if touches (part source c.label.span) region
    then map (action_value uri source (diagnostic_value uri source c)) c.fixes else []

-- quick fixes of all findings that touch a region
abbrev pub own_actions : ℕ → List ℕ → List ℕ → Region → List Data
own_actions width uri text region = flat_map (actions_at uri (utf16_positions text) region) (coded_findings text width)

-- the quick fix of all findings, for lines of at most `width` columns
abbrev pub joint_of : List ℕ → EncodedSource → ℕ → Data
joint_of uri source width = joint_value uri source (combined_proposal source.source width)

-- these quick fixes, and if there are any, the one for all findings
abbrev pub with_joint : List ℕ → EncodedSource → ℕ → List Data → List Data
with_joint uri source width [] = []
with_joint uri source width (d ∷ ds) = (d ∷ ds) ++ joint_of uri source width ∷ []

abbrev pub actions : ℕ → List ℕ → List ℕ → Region → List Data
actions width uri text region = with_joint uri (utf16_positions text) width (own_actions width uri text region)

-- none if the document isn't open or if no range is given
abbrev pub actions_in : ℕ → Option OpenDocument → Option Region → List Data
actions_in width None region = []
actions_in width (Some document) None = []
actions_in width (Some document) (Some region) = actions width document.uri document.text region

-- ---- what a client is asked to change

-- the range of an edit covers exactly the bytes that the edit replaces
abbrev pub HasItsPart : List ℕ → Replacement → Type 0
HasItsPart text edit = span_of Utf16 text (part (utf16_positions text) edit.span) ≡ Some edit.span

abbrev pub HasItsParts : List ℕ → FixModel → Type 0
HasItsParts text fix = AllByRecursion (HasItsPart text) fix.edits
