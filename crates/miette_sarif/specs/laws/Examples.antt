-- Example logs.
use Rattle.std.specs.Prelude.{ℕ, List, [], ◌∷◌, ◌++◌, codes, false, true, Option, Some, None, option_map}
use Rattle.miette_json.specs.rules.Json.{json_text}
use Rattle.miette_protocol.specs.rules.Reading.{Source, Span}
use Rattle.miette_protocol.specs.views.Meaning.{Label}
use Rattle.miette_tree.specs.rules.Tree.{Tree, no_trees, texts, tree}
use Rattle.miette_sarif.specs.rules.Findings.{SourceName}
use Rattle.miette_sarif.specs.rules.Log.{ToolName}
use Rattle.miette_sarif.specs.rules.Marks.{area_in}
use Rattle.miette_sarif.specs.rules.Places.{region}

abbrev pub lint : ToolName
lint = record { name = codes "lint"; version = None; information = None }

abbrev pub span : ℕ → ℕ → Span
span offset len = record { offset = offset; len = len }

abbrev pub label : Span → List ℕ → Label
label at text = record { text = Some text; span = at; primary = false; context = None }

abbrev pub named : List ℕ → List ℕ → Source
named name bytes = record { bytes = bytes; name = Some name; language = None; always_reads = true }

-- a report with a label on the second of three lines
abbrev pub bad_file : Tree
bad_file =
    tree (record {
      message = codes "oops!";
      code = Some (codes "oops::my::bad");
      severity = None;
      help = Some (codes "try doing it better next time?");
      url = Some (codes "https://x.org/bad");
      labels = Some (label (span 9 4) (codes "This bit here") ∷ []);
      snippets = [];
      fixes = [];
    }) (Some (named (codes "bad_file.rs") (codes "source\n  text\n    here"))) (texts []) no_trees

abbrev pub bad_file_log : List ℕ
bad_file_log =
    codes "{\"$schema\": \"https://docs.oasis-open.org/sarif/sarif/v2.1.0/errata01/os/schemas/sarif-schema-2.1.0.json\""
    ++ codes ",\"version\": \"2.1.0\",\"runs\": [{\"tool\": {\"driver\": {\"name\": \"lint\","
    ++ codes "\"rules\": [{\"id\": \"oops::my::bad\",\"helpUri\": \"https://x.org/bad\"}]}},"
    ++ codes "\"columnKind\": \"utf16CodeUnits\",\"newlineSequences\": [\"\\r\\n\",\"\\n\",\"\\r\"],"
    ++ codes "\"artifacts\": [{\"location\": {\"uri\": \"bad_file.rs\"}}],"
    ++ codes "\"results\": [{\"ruleId\": \"oops::my::bad\",\"ruleIndex\": 0,\"level\": \"error\","
    ++ codes "\"message\": {\"text\": \"oops!\\nhelp: try doing it better next time?\"},"
    ++ codes "\"locations\": [{\"physicalLocation\": {\"artifactLocation\": {\"uri\": \"bad_file.rs\",\"index\": 0},"
    ++ codes "\"region\": {\"startLine\": 2,\"startColumn\": 3,\"endLine\": 2,\"endColumn\": 7,"
    ++ codes "\"byteOffset\": 9,\"byteLength\": 4,\"snippet\": {\"text\": \"text\"}}},"
    ++ codes "\"message\": {\"text\": \"This bit here\"}}]}]}]}"

abbrev pub source : ℕ → List ℕ → SourceName
source number name = record { name = name; number = number }

-- the text of a label's region
abbrev pub region_text : List ℕ → Span → Option (List ℕ)
region_text bytes at = option_map (λ area. json_text (region area)) (area_in bytes at)

-- a character past U+FFFF, and `b`
abbrev pub after_emoji : List ℕ
after_emoji = 0xF0 ∷ 0x9F ∷ 0x98 ∷ 0x80 ∷ 98 ∷ []
