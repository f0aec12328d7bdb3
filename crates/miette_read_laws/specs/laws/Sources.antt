-- The files that a log is read over have the texts of the reports' sources.
use Rattle.std.specs.Prelude.{◌≡◌, ⊤, ℕ, ◌++◌, List, Option, None, IfSome, codes, decimal}
use Rattle.std.specs.List.{AllByRecursion}
use Rattle.miette_protocol.specs.rules.Reading.{Source}
use Rattle.miette_read.specs.rules.Members.{nonempty_text}
use Rattle.miette_sarif.specs.rules.Uris.{name_uri}
use Rattle.miette_read_sarif.specs.rules.Uris.{uri_file_name}
use Rattle.miette_tree.specs.rules.Diagnosis.{Section}
use Rattle.miette_tree.specs.rules.Tree.{Cause, Tree, Trees, diagnostic, more_trees, no_trees, texts, tree}

-- ---- the sources of reports

abbrev pub AllOwn : (Source → Type 0) → Option Source → List Section → Type 0
AllOwn P own sections = IfSome own P × AllByRecursion (λ (section : Section). P section.source) sections

-- The sources of causes that are diagnostics.
abbrev pub AllOfCauses : (Source → Type 0) → Cause → Type 0
AllOfCauses P (texts ts) = ⊤
AllOfCauses P (diagnostic (tree m s c r)) = AllOwn P s m.snippets × AllOfCauses P c

-- All sources of a report, its causes and its related reports satisfy the predicate.
abbrev mutual
  pub AllSources : (Source → Type 0) → Tree → Type 0
  AllSources P (tree m s c r) = AllOwn P s m.snippets × AllOfCauses P c × EachOfAll P r

  pub EachOfAll : (Source → Type 0) → Trees → Type 0
  EachOfAll P no_trees = ⊤
  EachOfAll P (more_trees t ts) = AllSources P t × EachOfAll P ts

-- ---- files

-- If a file is found by the source's name in the log, it has the source's text.
abbrev pub HasText : (List ℕ → Option Source) → Source → Type 0
HasText files s = IfSome (nonempty_text s.name) (λ name. IfSome (files (uri_file_name (name_uri name)))
    (λ file. file.bytes ≡ s.bytes))

-- Unnamed sources are called `untitled:1` and so on in a log. No file has such a name.
pub record AreFilesOf (files : List ℕ → Option Source) (ts : Trees) : Type 0 where
  pub texts : EachOfAll (HasText files) ts
  pub untitled : (k : ℕ) → files (codes "untitled:" ++ decimal k) ≡ None
