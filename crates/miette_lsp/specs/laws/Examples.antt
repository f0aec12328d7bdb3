-- Example lists.
use Rattle.std.specs.Prelude.{ℕ, List, [], ◌∷◌, ◌++◌, codes, true, Option, Some, None}
use Rattle.std.specs.Option.{option_map}
use Rattle.miette_fixes.specs.declared.applicability.Applicability.TheVariants.{MaybeIncorrect}
use Rattle.miette_fixes.specs.rules.Edits.{FixModel}
use Rattle.miette_protocol.specs.declared.protocol.Severity.TheVariants.{Advice, Warning}
use Rattle.miette_tree.specs.rules.Tree.{Tree, no_trees, texts, tree, trees}
use Rattle.miette_sarif.specs.laws.Examples.{label, named, source, span}
use Rattle.miette_sarif.specs.rules.Findings.{Finding, SarifLocation, SourceName}

-- the list of the report in the example log
abbrev pub bad_file_list : List ℕ
bad_file_list =
    codes "[{\"uri\": \"bad_file.rs\",\"diagnostics\": [{\"range\": {\"start\": {\"line\": 1,\"character\": 2},"
    ++ codes "\"end\": {\"line\": 1,\"character\": 6}},\"severity\": 1,\"code\": \"oops::my::bad\","
    ++ codes "\"codeDescription\": {\"href\": \"https://x.org/bad\"},\"source\": \"lint\","
    ++ codes "\"message\": \"oops!\\nThis bit here\\nhelp: try doing it better next time?\"}]}]"

-- `f = 😀: x`, in which `x` is at UTF-16 code unit 8 and byte 10
abbrev pub after_emoji : List ℕ
after_emoji = codes "f = " ++ (0xF0 ∷ 0x9F ∷ 0x98 ∷ 0x80 ∷ codes ": x")

-- a related report whose label is refused
abbrev pub gone : Tree
gone =
    tree (record {
      message = codes "in the same call";
      code = None;
      severity = Some Advice;
      help = None;
      url = None;
      labels = Some (label (span 90 1) (codes "gone") ∷ []);
      snippets = [];
      fixes = [];
    }) None (texts []) no_trees

abbrev pub a_number : FixModel
a_number = record {
  message = codes "a number";
  applicability = MaybeIncorrect;
  edits = record { span = span 10 1; text = codes "1" } ∷ [];
}

-- two sources, a fix, and a related report that inherits its source
abbrev pub integer : Tree
integer =
    tree (record {
      message = codes "expected `{integer}`";
      code = None;
      severity = Some Warning;
      help = None;
      url = None;
      labels = Some (label (span 0 1) [] ∷ record (label (span 10 1) (codes "this is text")) { primary = true } ∷ []);
      snippets = record {
        source = named (codes "b.rs") (codes "let b: {\n}");
        labels = label (span 3 7) (codes "defined here") ∷ [];
      } ∷ [];
      fixes = a_number ∷ [];
    }) (Some (named (codes "my dir/a.rs") after_emoji)) (texts []) (trees (gone ∷ []))

abbrev pub integer_list : List ℕ
integer_list =
    codes "[{\"uri\": \"my%20dir/a.rs\",\"diagnostics\": [{\"range\": {\"start\": {\"line\": 0,\"character\": 8},"
    ++ codes "\"end\": {\"line\": 0,\"character\": 9}},\"severity\": 2,\"source\": \"lint\","
    ++ codes "\"message\": \"expected `{integer}`\\nthis is text\",\"relatedInformation\": [{\"location\": "
    ++ codes "{\"uri\": \"b.rs\",\"range\": {\"start\": {\"line\": 0,\"character\": 3},"
    ++ codes "\"end\": {\"line\": 1,\"character\": 1}}},\"message\": \"defined here\"}],\"data\": {\"fixes\": ["
    ++ codes "{\"title\": \"a number\",\"applicability\": \"maybe-incorrect\",\"uri\": \"my%20dir/a.rs\","
    ++ codes "\"edits\": [{\"range\": {\"start\": {\"line\": 0,\"character\": 8},"
    ++ codes "\"end\": {\"line\": 0,\"character\": 9}},\"newText\": \"1\"}]}]}},"
    ++ codes "{\"range\": {\"start\": {\"line\": 0,\"character\": 0},\"end\": {\"line\": 0,\"character\": 0}},"
    ++ codes "\"severity\": 3,\"source\": \"lint\",\"message\": \"in the same call\\ngone\"}]}]"

-- ---- findings in several sources

abbrev pub in_source : SourceName → SarifLocation
in_source s = record { place = Some (record { source = s; area = None }); text = [] }

-- a finding in a source without a region, or in no source
abbrev pub finding_in_source : Option SourceName → List ℕ → Finding
finding_in_source over message = record {
  code = [];
  level = codes "error";
  message = message;
  causes = [];
  help = None;
  url = None;
  primary = option_map in_source over;
  locations = [];
  fixes = [];
  unapplied = [];
}

abbrev pub in_two : List Finding
in_two = finding_in_source (Some (source 0 (codes "a"))) (codes "1") ∷ finding_in_source None (codes "2")
    ∷ finding_in_source (Some (source 1 [])) (codes "3") ∷ finding_in_source (Some (source 0 (codes "a"))) (codes "4")
    ∷ []

-- the diagnostic of such a finding
abbrev pub located_diagnostic_text : List ℕ → List ℕ
located_diagnostic_text message = codes "{\"range\": {\"start\": {\"line\": 0,\"character\": 0},"
    ++ codes "\"end\": {\"line\": 0,\"character\": 0}},\"severity\": 1,\"source\": \"lint\","
    ++ codes "\"message\": \"" ++ message ++ codes "\"}"
