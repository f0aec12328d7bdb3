-- Drawings and answers that agree wherever a diagnostic is printed give the same text.
use Rattle.std.proofs.Common.{◌≡◌, ℕ, zero, suc, Bool, true, false, List, [], ◌∷◌, ◌++◌, Option, Some, None}
use Rattle.std.proofs.Common.{refl, ap, ap₂, ◌∙◌, if◌then◌else◌}
use Rattle.miette_runs.specs.rules.Cutting.{trim_trailing_feeds}
use Rattle.miette_tree.specs.rules.Diagnosis.{Diagnosis}
use Rattle.miette_protocol.specs.rules.Reading.{Source}
use Rattle.miette_protocol.specs.declared.protocol.Severity.{Severity}
use Rattle.miette_tree.specs.rules.Tree.{effective, Tree, tree, Cause, diagnostic, texts, Trees, no_trees, more_trees}
use Rattle.miette_graphical_rules.specs.rules.Answers.{DiagnosticAnswer, Answers, RelatedAnswers, own_answer}
use Rattle.miette_graphical_rules.specs.rules.Answers.{cause_answers}
use Rattle.miette_graphical_rules.specs.rules.Answers.{related_answers, first_answers, later_answers}
use Rattle.miette_graphical_rules.specs.rules.Indents.{narrow_settings}
use Rattle.miette_graphical_rules.specs.rules.DiagnosticText.{Drawing, fixes_text, help_text, rows_text, under_arrow}
use Rattle.miette_graphical_rules.specs.rules.DiagnosticText.{title_text}
use Rattle.miette_graphical_rules.specs.rules.PrintedDiagnostics.{PrintedDiagnostic, over}
use Rattle.miette_graphical_rules.specs.rules.GraphicalSettings.{GraphicalSettings}
use Rattle.miette_graphical_rules.specs.rules.Text.{are_last, body_over, causes_text, drawn_text, ends_there}
use Rattle.miette_graphical_rules.specs.rules.Text.{inner_over}
use Rattle.miette_graphical_rules.specs.rules.Text.{only_if, related_text, report_text}
use Rattle.miette_graphical_rules.specs.laws.Alike.{answer_at, numbered_answers}
use Rattle.miette_graphical_rules.specs.laws.Paths.{Step, to_cause, to_related, at_cause, at_related, printed_at}
use Rattle.miette_graphical_rules.proofs.Outermost.{if_same, report_over}

module _ (drawing other : Drawing) where
  -- what is drawn of a printed diagnostic, under an answer and under another one
  abbrev AreSame : PrintedDiagnostic → DiagnosticAnswer → DiagnosticAnswer → Type 0
  AreSame p a b = (u : GraphicalSettings) → (drawing.rows u p.source p.meaning a ≡ other.rows u p.source p.meaning b)
      × (drawing.fixes u p.source p.meaning a ≡ other.fixes u p.source p.meaning b)

  same_drawn : (u : GraphicalSettings) (source : Option Source) (m : Diagnosis) (a b : DiagnosticAnswer)
      → AreSame (over source m) a b →
      drawn_text drawing u m source a ≡ drawn_text other u m source b
  same_drawn u source m a b h =
      ap₂ (λ rows fixes. rows_text rows ++ help_text u m.help ++ fixes_text u fixes) (h u).0 (h u).1

  mutual
    causes_alike : (s : GraphicalSettings) (outer : Option Severity) (inherited : Option Source) (c : Cause)
        (a b : Answers)
        (nested : Bool) → s.related_as_nested ≡ nested →
        ((path : List Step) (p : PrintedDiagnostic) → at_cause nested inherited c path ≡ Some p
        → AreSame p (answer_at a path) (answer_at b path)) →
        causes_text drawing s outer inherited c a ≡ causes_text other s outer inherited c b
    causes_alike s outer inherited (texts ts) a b nested w h = refl
    causes_alike s outer inherited (diagnostic (tree m own c r)) a b nested w h =
        let source = effective own inherited in
        let n = narrow_settings s outer (ends_there c) in
        ap₂ (λ x y. x ++ y)
        (ap (under_arrow s outer (ends_there c))
        (ap₂ (inner_over n m) (same_drawn n source m (own_answer a) (own_answer b) (h [] (over source m) refl))
        (related_alike n m.severity source r (related_answers a) (related_answers b) nested w
        (λ k path. h (to_related k ∷ path)))))
        (causes_alike s outer inherited c (cause_answers a) (cause_answers b) nested w (λ path. h (to_cause ∷ path)))

    related_alike : (s : GraphicalSettings) (outer : Option Severity) (inherited : Option Source) (ts : Trees)
        (a b : RelatedAnswers) (nested : Bool) → s.related_as_nested ≡ nested →
        ((k : ℕ) (path : List Step) (p : PrintedDiagnostic) → at_related nested inherited ts k path ≡ Some p
        → AreSame p (answer_at (numbered_answers a k) path) (answer_at (numbered_answers b k) path)) →
        related_text drawing s outer inherited ts a ≡ related_text other s outer inherited ts b
    related_alike s outer inherited no_trees a b nested w h = refl
    related_alike s outer inherited (more_trees (tree m own c r) ts) a b true w h =
        let source = effective own inherited in
        let n = narrow_settings s outer (are_last ts) in
        ap₂ (λ x y. x ++ y)
        (if_same s.related_as_nested _ _ _ _
        (λ y. ap (λ x. under_arrow s outer (are_last ts) (trim_trailing_feeds x))
        (ap₂ (inner_over n m) (same_drawn n source m (own_answer (first_answers a)) (own_answer (first_answers b))
        (h zero [] (over source m) refl))
        (related_alike n m.severity source r (related_answers (first_answers a)) (related_answers (first_answers b))
        true w (λ k path. h zero (to_related k ∷ path)))))
        (λ y. absurd (cc)))
        (related_alike s outer inherited ts (later_answers a) (later_answers b) true w (λ k path. h (suc k) path))
    related_alike s outer inherited (more_trees (tree m own c r) ts) a b false w h =
        let source = effective own inherited in
        ap₂ (λ x y. x ++ y)
        (if_same s.related_as_nested _ _ _ _
        (λ y. absurd (cc))
        (λ y. ap (λ x. title_text s m ++ body_over s m x (causes_text drawing s m.severity source c
        (cause_answers (first_answers a))) (related_text drawing s m.severity source r
        (related_answers (first_answers a))))
        (same_drawn s source m (own_answer (first_answers a)) (own_answer (first_answers b))
        (h zero [] (over source m) refl))
        ∙ ap₂ (λ x z. title_text s m ++ body_over s m (drawn_text other s m source
        (own_answer (first_answers b))) x z)
        (causes_alike s m.severity source c (cause_answers (first_answers a)) (cause_answers (first_answers b)) false w
        (λ path. h zero (to_cause ∷ path)))
        (related_alike s m.severity source r (related_answers (first_answers a)) (related_answers (first_answers b))
        false w (λ k path. h zero (to_related k ∷ path)))))
        (related_alike s outer inherited ts (later_answers a) (later_answers b) false w (λ k path. h (suc k) path))

  root_alike : (chain : Bool) (s : GraphicalSettings) (m : Diagnosis) (own : Option Source) (c : Cause) (a b : Answers)
      →
      ((path : List Step) (p : PrintedDiagnostic) → (if chain then at_cause s.related_as_nested own c path else None)
      ≡ Some p
      → AreSame p (answer_at a path) (answer_at b path)) →
      only_if chain (causes_text drawing s m.severity own c a) ≡ only_if chain (causes_text other s m.severity own c b)
  root_alike true s m own c a b h = causes_alike s m.severity own c a b s.related_as_nested refl h
  root_alike false s m own c a b h = refl

  pub report_alike : (s : GraphicalSettings) (t : Tree) (a b : Answers) →
      ((path : List Step) (p : PrintedDiagnostic) → printed_at s t path ≡ Some p
      → AreSame p (answer_at a path) (answer_at b path)) → report_text drawing s t a ≡ report_text other s t b
  report_alike s (tree m own c r) a b h =
      ap (λ x. report_over s m x (only_if s.cause_chain (causes_text drawing s m.severity own c (cause_answers a)))
      (related_text drawing s m.severity own r (related_answers a)))
      (same_drawn s own m (own_answer a) (own_answer b) (h [] (over own m) refl))
      ∙ ap₂ (report_over s m (drawn_text other s m own (own_answer b)))
      (root_alike s.cause_chain s m own c (cause_answers a) (cause_answers b) (λ path. h (to_cause ∷ path)))
      (related_alike s m.severity own r (related_answers a) (related_answers b) s.related_as_nested refl
      (λ k path. h (to_related k ∷ path)))
