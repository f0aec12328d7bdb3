-- Trees and settings without escapes.
use Rattle.std.specs.Prelude.{List, Option, IfSome}
use Rattle.std.specs.List.{AllByRecursion}
use Rattle.miette_runs.specs.rules.Runs.{Fragment, HaveNoEscape}
use Rattle.miette_style.specs.rules.Themes.{Characters}
use Rattle.miette_fixes.specs.rules.Edits.{FixModel}
use Rattle.miette_protocol.specs.views.Meaning.{Label}
use Rattle.miette_tree.specs.rules.Diagnosis.{Diagnosis, Section}
use Rattle.miette_snippet_laws.specs.laws.Clean.{IsClean, IsCleanText, IsCleanLabel, IsCleanSource, AreCleanDrawings}
use Rattle.miette_tree.specs.rules.Tree.{Tree, tree, Cause, diagnostic, texts, Trees, no_trees, more_trees}
use Rattle.miette_graphical_rules.specs.rules.GraphicalSettings.{GraphicalSettings}

-- ---- settings

-- the printed characters of a theme: those of frames and underlines, and the icons
pub record AreCleanCharacters (c : Characters) : Type 0 where
  pub drawings : AreCleanDrawings c
  pub error : IsClean c.error
  pub warning : IsClean c.warning
  pub advice : IsClean c.advice

-- the same for settings, with the text of links and the footer
abbrev pub AreCleanSettings : GraphicalSettings → Type 0
AreCleanSettings s = AreCleanCharacters s.theme.characters × IsClean s.link_text × IfSome s.footer IsClean

-- ---- trees

abbrev pub AreCleanLabels : Option (List Label) → Type 0
AreCleanLabels labels = IfSome labels (AllByRecursion IsCleanLabel)

-- for a further source with its labels
abbrev pub IsCleanSection : Section → Type 0
IsCleanSection section = IsCleanSource section.source × AllByRecursion IsCleanLabel section.labels

-- for a fix: its message and the texts of its edits
pub record IsCleanFix (fix : FixModel) : Type 0 where
  pub message : IsCleanText fix.message
  pub texts : AllByRecursion (λ edit. IsClean edit.text) fix.edits

pub record IsCleanMeaning (m : Diagnosis) : Type 0 where
  pub message : IsCleanText m.message
  pub code : IfSome m.code IsCleanText
  pub help : IfSome m.help IsCleanText
  pub url : IfSome m.url IsCleanText
  pub labels : AreCleanLabels m.labels
  pub snippets : AllByRecursion IsCleanSection m.snippets
  pub fixes : AllByRecursion IsCleanFix m.fixes

-- for every text of a tree, and every source with its name
abbrev mutual
  pub IsCleanTree : Tree → Type 0
  IsCleanTree (tree m s c r) = IsCleanMeaning m × IfSome s IsCleanSource × IsCleanCause c × AreCleanTrees r

  pub IsCleanCause : Cause → Type 0
  IsCleanCause (diagnostic t) = IsCleanTree t
  IsCleanCause (texts ts) = AllByRecursion IsCleanText ts

  pub AreCleanTrees : Trees → Type 0
  AreCleanTrees no_trees = Unit {0}
  AreCleanTrees (more_trees t ts) = IsCleanTree t × AreCleanTrees ts

-- ---- snippets

abbrev pub HaveNoEscapes : List (List Fragment) → Type 0
HaveNoEscapes = AllByRecursion HaveNoEscape
