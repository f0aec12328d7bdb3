-- Drawings and answers that are the same for each printed diagnostic.
use Rattle.std.proofs.Common.{inl, inr, List, [], ◌∷◌, subst, ◌≡◌, ap}
use Rattle.std.specs.List.{AllByRecursion, Contains}
use Rattle.miette_graphical_rules.specs.rules.PrintedDiagnostics.{PrintedDiagnostic}
use Rattle.miette_graphical_rules.proofs.Paths.{first_or_later, none}
use Rattle.miette_tree.specs.rules.Tree.{Tree}
use Rattle.miette_graphical_rules.specs.rules.Answers.{Answers}
use Rattle.miette_graphical_rules.specs.rules.DiagnosticText.{Drawing}
use Rattle.miette_graphical_rules.specs.rules.GraphicalSettings.{GraphicalSettings}
use Rattle.miette_graphical_rules.specs.rules.Text.{report_text}
use Rattle.miette_graphical_rules.specs.laws.Alike.{AreAnsweredAlike}
use Rattle.miette_graphical_rules.proofs.Alike.{report_alike}

-- what holds of each of a list holds of one that is in it
pub holds_there : (P : PrintedDiagnostic → Type 0) (ps : List PrintedDiagnostic) (p : PrintedDiagnostic)
    → AllByRecursion P ps → Contains ps p → P p
holds_there P [] p all h = absurd (none p h)
holds_there P (q ∷ ps) p all h = elim (first_or_later q ps p h)
    [ inl same ↦ subst P same all.0 | inr there ↦ holds_there P ps p all.1 there ]

pub answered_alike : (drawing : Drawing) (s : GraphicalSettings) (t : Tree) (a b : Answers) → AreAnsweredAlike s t a b
    → report_text drawing s t a ≡ report_text drawing s t b
answered_alike drawing s t a b alike =
    report_alike drawing drawing s t a b (λ path p found u. (
      ap (drawing.rows u p.source p.meaning) (alike path p found),
      ap (drawing.fixes u p.source p.meaning) (alike path p found),
    ))
