-- Findings of `lint` in a document, as diagnostics of the Language Server Protocol (3.17).
use Rattle.std.specs.Prelude.{ℕ, ℤ, List, [], ◌∷◌, Option, Some, None, codes, map}
use Rattle.std.specs.Option.{unwrap_or}
use Rattle.serde_json.specs.Data.{Data, Members, member, no_members, number, object, string, unsigned}
use Rattle.serde_json.specs.Find.{of_integer}
use Rattle.miette_fixes.specs.rules.Edits.{FixModel}
use Rattle.miette_lint.specs.rules.FindingWithFixes.{FindingWithFixes, coded_findings}
use Rattle.miette_positions.specs.declared.position.PositionEncoding.TheVariants.{Utf16}
use Rattle.miette_positions.specs.rules.Regions.{EncodedSource}
use Rattle.miette_language_server.specs.rules.Documents.{OpenDocument}
use Rattle.miette_language_server.specs.rules.Values.{fix_value, list_value, part, range_value}

-- a text whose columns are UTF-16 code units
abbrev pub utf16_positions : List ℕ → EncodedSource
utf16_positions text = record { source = text; encoding = Utf16 }

-- the proposed fixes of a finding
abbrev pub fixes_value : List ℕ → EncodedSource → List FixModel → Data
fixes_value uri source fixes =
    object (member (codes "fixes") (list_value (map (fix_value uri source) fixes)) no_members)

-- the members that all diagnostics have, from the message on
abbrev pub told : EncodedSource → FindingWithFixes → Members
told source c = member (codes "message") (string (unwrap_or c.label.text []))
    (member (codes "range") (range_value (part source c.label.span))
    (member (codes "severity") (number (unsigned 2))
    (member (codes "source") (string (codes "lint")) no_members)))

abbrev pub coded_value : List ℕ → Members → Data
coded_value code rest = object (member (codes "code") (string code) rest)

-- a diagnostic without fixes
abbrev pub plain_value : EncodedSource → FindingWithFixes → Data
plain_value source c = coded_value c.code (told source c)

-- a diagnostic with fixes
abbrev pub fixable_value : List ℕ → EncodedSource → FindingWithFixes → Data
fixable_value uri source c =
    coded_value c.code (member (codes "data") (fixes_value uri source c.fixes) (told source c))

-- the first value without fixes, else the second
abbrev pub by_fixes : List FixModel → Data → Data → Data
by_fixes [] plain fixable = plain
by_fixes (fix ∷ fixes) plain fixable = fixable

-- findings are warnings
abbrev pub diagnostic_value : List ℕ → EncodedSource → FindingWithFixes → Data
diagnostic_value uri source c = by_fixes c.fixes (plain_value source c) (fixable_value uri source c)

-- all findings in a text with lines of at most `width` columns
abbrev pub diagnostics : ℕ → List ℕ → List ℕ → List Data
diagnostics width uri text = map (diagnostic_value uri (utf16_positions text)) (coded_findings text width)

-- ---- as the client gets them

abbrev pub version_members : Option ℤ → Members
version_members None = no_members
version_members (Some version) = member (codes "version") (number (of_integer version)) no_members

-- the diagnostics of the document with this URI, and its version
abbrev pub publish_params : List ℕ → Option ℤ → List Data → Data
publish_params uri version list = object (member (codes "diagnostics") (list_value list)
    (member (codes "uri") (string uri) (version_members version)))

abbrev pub diagnostics_of : ℕ → OpenDocument → Data
diagnostics_of width document =
    publish_params document.uri document.version (diagnostics width document.uri document.text)
