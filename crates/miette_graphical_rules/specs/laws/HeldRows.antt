-- Where a report's text contains the snippets and fixes of a printed diagnostic: as they are, or inside a report that
-- is wrapped under an arrow, level by level.
use Rattle.std.specs.Prelude.{◌≡◌, ◌⊎◌, ℕ, zero, suc, Bool, if◌then◌else◌, List, [], ◌∷◌, ◌++◌, Option, Some}
use Rattle.std.specs.Prelude.{encode_utf8_all, true, false}
use Rattle.std.specs.List.{Contains}
use Rattle.miette_runs.specs.rules.Cutting.{trim_leading_feeds, trim_trailing_feeds}
use Rattle.miette_runs.specs.rules.Runs.{Fragment, print}
use Rattle.miette_protocol.specs.declared.protocol.Severity.{Severity}
use Rattle.miette_tree.specs.rules.Tree.{Tree, tree, Cause, diagnostic, texts, Trees, no_trees, more_trees}
use Rattle.miette_graphical_rules.specs.rules.Answers.{DiagnosticAnswer, Answers}
use Rattle.miette_graphical_rules.specs.rules.DiagnosticText.{Drawing, ShownFix, fixes_text, line_feed, rows_text}
use Rattle.miette_graphical_rules.specs.rules.DiagnosticText.{under_arrow}
use Rattle.miette_graphical_rules.specs.rules.Indents.{narrow_settings}
use Rattle.miette_graphical_rules.specs.rules.PossibleAnswers.{AreAnswers}
use Rattle.miette_graphical_rules.specs.rules.PrintedDiagnostics.{PrintedDiagnostic}
use Rattle.miette_graphical_rules.specs.rules.GraphicalSettings.{GraphicalSettings}
use Rattle.miette_graphical_rules.specs.rules.Text.{are_last, ends_there, report_text}
use Rattle.miette_graphical_rules.specs.laws.Alike.{answer_at}
use Rattle.miette_graphical_rules.specs.laws.Paths.{Step, to_cause, to_related, printed_at}

-- ---- the arrows on a path

-- An arrow: the severity of the report it is in, whether it is the last one there, and whether it leads to a related
-- report or to a cause.
pub record Arrow : Type 0 where
  pub outer : Option Severity
  pub is_last : Bool
  pub is_related : Bool

-- the arrow of a related report, if these are nested
abbrev pub nested_arrow : Bool → Option Severity → Trees → List Arrow
nested_arrow nested outer ts =
    if nested then record { outer = outer; is_last = are_last ts; is_related = true } ∷ [] else []

abbrev mutual
  -- from the causes of a report of this severity, each of which has an arrow
  pub cause_arrows : Bool → Option Severity → Cause → List Step → List Arrow
  cause_arrows nested outer (texts ts) path = []
  cause_arrows nested outer (diagnostic (tree m own c r)) [] =
      record { outer = outer; is_last = ends_there c; is_related = false } ∷ []
  cause_arrows nested outer (diagnostic (tree m own c r)) (to_cause ∷ path) = cause_arrows nested outer c path
  cause_arrows nested outer (diagnostic (tree m own c r)) (to_related k ∷ path) =
      record { outer = outer; is_last = ends_there c; is_related = false } ∷ related_arrows nested m.severity r k path

  -- from the related report with this index, which has an arrow if it is nested
  pub related_arrows : Bool → Option Severity → Trees → ℕ → List Step → List Arrow
  related_arrows nested outer no_trees k path = []
  related_arrows nested outer (more_trees (tree m own c r) ts) zero [] = nested_arrow nested outer ts
  related_arrows nested outer (more_trees (tree m own c r) ts) zero (to_cause ∷ path) =
      cause_arrows nested m.severity c path
  related_arrows nested outer (more_trees (tree m own c r) ts) zero (to_related k ∷ path) =
      nested_arrow nested outer ts ++ related_arrows nested m.severity r k path
  related_arrows nested outer (more_trees t ts) (suc k) path = related_arrows nested outer ts k path

-- the arrows on a path from the outermost report, outer ones first
abbrev pub arrows_at : GraphicalSettings → Tree → List Step → List Arrow
arrows_at s (tree m own c r) [] = []
arrows_at s (tree m own c r) (to_cause ∷ path) = cause_arrows s.related_as_nested m.severity c path
arrows_at s (tree m own c r) (to_related k ∷ path) = related_arrows s.related_as_nested m.severity r k path

-- ---- parts of a text

-- empty, or ending with a line feed
abbrev pub EndsRow : List ℕ → Type 0
EndsRow text = (text ≡ []) ⊎ ((before : List ℕ) × (text ≡ before ++ line_feed))

-- a part of a text that begins at the start of a row
pub record StartsRowIn (part text : List ℕ) : Type 0 where
  pub front : List ℕ
  pub back : List ℕ
  pub whole : text ≡ front ++ part ++ back
  pub begins : EndsRow front

-- an inner report's text as it is wrapped: without line feeds at its beginning, and for a related report without those
-- at its end
abbrev pub cut_text : Arrow → List ℕ → List ℕ
cut_text arrow inner = if arrow.is_related then trim_trailing_feeds (trim_leading_feeds inner) else trim_leading_feeds
    inner

-- A text contains a drawing: as it is if there is no arrow. Otherwise it contains an inner report under the first
-- arrow, and that report contains the drawing under the other arrows, in the settings below the first.
abbrev pub HoldsUnder : List Arrow → GraphicalSettings → (GraphicalSettings → List ℕ) → List ℕ → Type 0
HoldsUnder [] s drawn text = StartsRowIn (drawn s) text
HoldsUnder (arrow ∷ arrows) s drawn text =
    (inner : List ℕ) × StartsRowIn (under_arrow s arrow.outer arrow.is_last (cut_text arrow inner)) text
    × HoldsUnder arrows (narrow_settings s arrow.outer arrow.is_last) drawn inner

-- ---- the snippets and the fixes of a report

-- the rows of a printed diagnostic for an answer and any settings
abbrev pub snippet_rows_at : Drawing → PrintedDiagnostic → DiagnosticAnswer → GraphicalSettings → List (List Fragment)
snippet_rows_at drawing p answer s = drawing.rows s p.source p.meaning answer

abbrev pub snippets_text_at : Drawing → PrintedDiagnostic → DiagnosticAnswer → GraphicalSettings → List ℕ
snippets_text_at drawing p answer s = rows_text (snippet_rows_at drawing p answer s)

-- the text of its fixes
abbrev pub fixes_text_at : Drawing → PrintedDiagnostic → DiagnosticAnswer → GraphicalSettings → List ℕ
fixes_text_at drawing p answer s = fixes_text s (drawing.fixes s p.source p.meaning answer)

-- A text contains the snippets at each path, under the arrows on it.
abbrev pub HoldsSnippets : Drawing → GraphicalSettings → Tree → Answers → List ℕ → Type 0
HoldsSnippets drawing s t a text = (path : List Step) (p : PrintedDiagnostic) → printed_at s t path ≡ Some p →
    HoldsUnder (arrows_at s t path) s (snippets_text_at drawing p (answer_at a path)) text

-- and the fixes
abbrev pub HoldsFixes : Drawing → GraphicalSettings → Tree → Answers → List ℕ → Type 0
HoldsFixes drawing s t a text = (path : List Step) (p : PrintedDiagnostic) → printed_at s t path ≡ Some p →
    HoldsUnder (arrows_at s t path) s (fixes_text_at drawing p (answer_at a path)) text

-- Without an arrow on the path, each row of a snippet is a line of these bytes.
abbrev pub HoldsRows : Drawing → GraphicalSettings → Tree → Answers → List ℕ → Type 0
HoldsRows drawing s t a bytes = (path : List Step) (p : PrintedDiagnostic) → printed_at s t path ≡ Some p →
    arrows_at s t path ≡ [] → (row : List Fragment) → Contains (snippet_rows_at drawing p (answer_at a path) s) row →
    StartsRowIn (encode_utf8_all (print row ++ line_feed)) bytes

-- Without an arrow on the path, each row below a fix's message is a line of these bytes.
abbrev pub HoldsFixRows : Drawing → GraphicalSettings → Tree → Answers → List ℕ → Type 0
HoldsFixRows drawing s t a bytes = (path : List Step) (p : PrintedDiagnostic) → printed_at s t path ≡ Some p →
    arrows_at s t path ≡ [] → (fix : ShownFix) (row : List Fragment) →
    Contains (drawing.fixes s p.source p.meaning (answer_at a path)) fix → Contains fix.rows row →
    StartsRowIn (encode_utf8_all (print row ++ line_feed)) bytes

-- The bytes of a report under some answers, which contain the snippets and fixes of each printed diagnostic.
pub record IsHoldingText (drawing : Drawing) (s : GraphicalSettings) (blank : Bool) (t : Tree) (bytes : List ℕ)
    : Type 0 where
  pub answers : Answers
  pub are : AreAnswers s blank t answers
  pub text : bytes ≡ encode_utf8_all (report_text drawing s t answers)
  pub holds : HoldsSnippets drawing s t answers (report_text drawing s t answers)
  pub fixes : HoldsFixes drawing s t answers (report_text drawing s t answers)
  pub rows_stand : HoldsRows drawing s t answers bytes
  pub fix_rows_stand : HoldsFixRows drawing s t answers bytes
