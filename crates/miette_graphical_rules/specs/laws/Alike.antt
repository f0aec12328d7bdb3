-- Drawings that agree on a printed diagnostic, and answers that agree wherever a diagnostic is printed.
use Rattle.std.specs.Prelude.{◌≡◌, ℕ, zero, suc, List, [], ◌∷◌, Some}
use Rattle.miette_tree.specs.rules.Tree.{Tree}
use Rattle.miette_graphical_rules.specs.rules.GraphicalSettings.{GraphicalSettings}
use Rattle.miette_graphical_rules.specs.rules.Answers.{DiagnosticAnswer, Answers, RelatedAnswers, own_answer}
use Rattle.miette_graphical_rules.specs.rules.Answers.{cause_answers}
use Rattle.miette_graphical_rules.specs.rules.Answers.{related_answers, first_answers, later_answers}
use Rattle.miette_graphical_rules.specs.rules.DiagnosticText.{Drawing}
use Rattle.miette_graphical_rules.specs.rules.PrintedDiagnostics.{PrintedDiagnostic}
use Rattle.miette_graphical_rules.specs.laws.Paths.{Step, to_cause, to_related, printed_at}

-- they agree on the diagnostic's source and labels, for all settings and answers
pub record AreDrawnAlike (drawing other : Drawing) (p : PrintedDiagnostic) : Type 0 where
  pub rows : (s : GraphicalSettings) (a : DiagnosticAnswer) →
      drawing.rows s p.source p.meaning a ≡ other.rows s p.source p.meaning a
  pub fixes : (s : GraphicalSettings) (a : DiagnosticAnswer) →
      drawing.fixes s p.source p.meaning a ≡ other.fixes s p.source p.meaning a

-- the answers of the related report with this index
abbrev pub numbered_answers : RelatedAnswers → ℕ → Answers
numbered_answers more zero = first_answers more
numbered_answers more (suc k) = numbered_answers (later_answers more) k

-- the answer of the diagnostic at a path
abbrev pub answer_at : Answers → List Step → DiagnosticAnswer
answer_at a [] = own_answer a
answer_at a (to_cause ∷ path) = answer_at (cause_answers a) path
answer_at a (to_related k ∷ path) = answer_at (numbered_answers (related_answers a) k) path

-- they agree at each path at which a diagnostic is printed
abbrev pub AreAnsweredAlike : GraphicalSettings → Tree → Answers → Answers → Type 0
AreAnsweredAlike s t a b = (path : List Step) (p : PrintedDiagnostic) → printed_at s t path ≡ Some p →
    answer_at a path ≡ answer_at b path
