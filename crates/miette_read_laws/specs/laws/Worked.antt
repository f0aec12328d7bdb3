-- An example of a log that is read back.
use Rattle.std.specs.Prelude.{ℕ, List, [], ◌∷◌, ◌++◌, codes, true, Option, Some, None, if◌then◌else◌}
use Rattle.std.specs.Str.{bytes_eq}
use Rattle.miette_protocol.specs.declared.protocol.Severity.TheVariants.{Advice}
use Rattle.miette_protocol.specs.rules.Reading.{Source}
use Rattle.miette_protocol.specs.views.Meaning.{Label}
use Rattle.miette_tree.specs.rules.Tree.{Tree, no_trees, texts, tree}
use Rattle.miette_fixes.specs.declared.applicability.Applicability.TheVariants.{MachineApplicable, Unspecified}
use Rattle.miette_fixes.specs.rules.Edits.{Replacement}
use Rattle.miette_sarif.specs.laws.Examples.{label, named, span}

-- Two lines of text.
abbrev pub bytes : List ℕ
bytes = codes "a {b}" ++ 10 ∷ codes "c"

abbrev pub file : Source
file = named (codes "src/a.x") bytes

-- The file is found by its name.
abbrev pub found : List ℕ → Option Source
found name = if bytes_eq name (codes "src/a.x") then Some file else None

abbrev pub edit : List ℕ → Replacement
edit text = record { span = span 3 1; text = text }

-- A report with two labels and a fix.
abbrev pub given : Tree
given =
    tree (record {
      message = codes "no {b} here";
      code = Some (codes "braces");
      severity = Some Advice;
      help = Some (codes "see [this](https://x.org)");
      url = Some (codes "https://x.org/braces");
      labels = Some (label (span 6 1) (codes "there") ∷ label (span 2 3) (codes "{b}") ∷ []);
      snippets = [];
      fixes = record { message = codes "write c"; applicability = MachineApplicable; edits = edit (codes "c") ∷ [] }
          ∷ [];
    }) (Some file) (texts (codes "why" ∷ [])) no_trees

abbrev pub primary : Label → Label
primary l = record l { primary = true }

-- The first label by offset is the primary one. Causes and help are lines of the message.
abbrev pub kept : Tree
kept =
    tree (record {
      message = (codes "no {b} here" ++ 10 ∷ codes "caused by: why") ++ 10 ∷ codes "help: see this";
      code = Some (codes "braces");
      severity = Some Advice;
      help = None;
      url = Some (codes "https://x.org/braces");
      labels = Some (primary (label (span 2 3) (codes "{b}")) ∷ label (span 6 1) (codes "there") ∷ []);
      snippets = [];
      fixes = record { message = codes "write c"; applicability = Unspecified; edits = edit (codes "c") ∷ [] } ∷ [];
    }) (Some file) (texts []) no_trees
