-- The text of a whole report.
use Rattle.std.specs.Prelude.{ℕ, Bool, true, false, List, [], ◌∷◌, ◌++◌, chars, Option, if◌then◌else◌}
use Rattle.miette_runs.specs.rules.Runs.{print}
use Rattle.miette_lines.specs.rules.Lists.{is_nil}
use Rattle.miette_runs.specs.rules.Cutting.{trim_leading_feeds, trim_trailing_feeds}
use Rattle.miette_tree.specs.rules.Diagnosis.{Diagnosis}
use Rattle.miette_protocol.specs.rules.Reading.{Source}
use Rattle.miette_tree.specs.rules.Tree.{effective, Tree, tree, Cause, diagnostic, texts, Trees, no_trees, more_trees}
use Rattle.miette_protocol.specs.declared.protocol.Severity.{Severity}
use Rattle.miette_graphical_rules.specs.rules.GraphicalSettings.{GraphicalSettings}
use Rattle.miette_graphical_rules.specs.rules.Answers.{DiagnosticAnswer, Answers, RelatedAnswers, own_answer}
use Rattle.miette_graphical_rules.specs.rules.Answers.{cause_answers}
use Rattle.miette_graphical_rules.specs.rules.Answers.{related_answers, first_answers, later_answers}
use Rattle.miette_graphical_rules.specs.rules.Indents.{narrow_settings}
use Rattle.miette_graphical_rules.specs.rules.DiagnosticText.{Drawing, header, message_text, help_text, footer_text}
use Rattle.miette_graphical_rules.specs.rules.DiagnosticText.{fixes_text, title_text, rows_text, under_arrow}

abbrev pub ends_there : Cause → Bool
ends_there (diagnostic t) = false
ends_there (texts ts) = is_nil ts

abbrev pub are_last : Trees → Bool
are_last no_trees = true
are_last (more_trees t ts) = false

abbrev pub only_if : Bool → List ℕ → List ℕ
only_if true text = text
only_if false text = []

-- Below the header: message, causes, drawing, related reports.
abbrev pub body_over : GraphicalSettings → Diagnosis → List ℕ → List ℕ → List ℕ → List ℕ
body_over s m drawn causes related = message_text s m ++ causes ++ drawn ++ related

-- the part between a diagnostic's causes and its related reports: its snippets, help and fixes
abbrev pub drawn_text : Drawing → GraphicalSettings → Diagnosis → Option Source → DiagnosticAnswer → List ℕ
drawn_text drawing s m source answer =
    rows_text (drawing.rows s source m answer) ++ help_text s m.help
    ++ fixes_text s (drawing.fixes s source m answer)

-- A report inside another one, without its causes and without line feeds at its beginning.
abbrev pub inner_over : GraphicalSettings → Diagnosis → List ℕ → List ℕ → List ℕ
inner_over s m drawn related = trim_leading_feeds (print (header s m) ++ body_over s m drawn [] related)

abbrev pub inner_text : Drawing → GraphicalSettings → Diagnosis → Option Source → DiagnosticAnswer → List ℕ → List ℕ
inner_text drawing s m source answer related = inner_over s m (drawn_text drawing s m source answer) related

abbrev pub cause_texts : GraphicalSettings → Option Severity → List (List ℕ) → List ℕ
cause_texts s outer [] = []
cause_texts s outer (x ∷ xs) = under_arrow s outer (is_nil xs) (chars x) ++ cause_texts s outer xs

abbrev mutual
  -- The causes of a report of this severity: plain texts, or a diagnostic and its own causes.
  pub causes_text : Drawing → GraphicalSettings → Option Severity → Option Source → Cause → Answers → List ℕ
  causes_text drawing s outer inherited (texts ts) a = cause_texts s outer ts
  causes_text drawing s outer inherited (diagnostic (tree m own c r)) a =
      under_arrow s outer (ends_there c)
      (inner_text drawing (narrow_settings s outer (ends_there c)) m (effective own inherited) (own_answer a)
      (related_text drawing (narrow_settings s outer (ends_there c)) m.severity (effective own inherited) r
      (related_answers a)))
      ++ causes_text drawing s outer inherited c (cause_answers a)

  -- The related reports of a report of this severity: nested as inner reports, or one after the other with their
  -- causes.
  pub related_text : Drawing → GraphicalSettings → Option Severity → Option Source → Trees → RelatedAnswers → List ℕ
  related_text drawing s outer inherited no_trees more = []
  related_text drawing s outer inherited (more_trees (tree m own c r) ts) more =
      (if s.related_as_nested then
      under_arrow s outer (are_last ts)
      (trim_trailing_feeds (inner_text drawing (narrow_settings s outer (are_last ts)) m (effective own inherited)
      (own_answer (first_answers more))
      (related_text drawing (narrow_settings s outer (are_last ts)) m.severity (effective own inherited) r
      (related_answers (first_answers more)))))
      else title_text s m ++ body_over s m (drawn_text drawing s m (effective own inherited)
      (own_answer (first_answers more)))
      (causes_text drawing s m.severity (effective own inherited) c (cause_answers (first_answers more)))
      (related_text drawing s m.severity (effective own inherited) r (related_answers (first_answers more))))
      ++ related_text drawing s outer inherited ts (later_answers more)

-- The text of a report: header, message, causes if the chain is on, snippets, help, fixes, related reports, and the
-- footer.
abbrev pub report_text : Drawing → GraphicalSettings → Tree → Answers → List ℕ
report_text drawing s (tree m own c r) a =
    print (header s m)
    ++ body_over s m (drawn_text drawing s m own (own_answer a))
    (only_if s.cause_chain (causes_text drawing s m.severity own c (cause_answers a)))
    (related_text drawing s m.severity own r (related_answers a))
    ++ footer_text s
