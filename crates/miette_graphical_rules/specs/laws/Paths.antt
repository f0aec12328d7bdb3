-- The printed diagnostics of a report, each with its path from the outermost one.
use Rattle.std.specs.Prelude.{◌≡◌, ℕ, zero, suc, Bool, if◌then◌else◌, List, [], ◌∷◌, Option, Some, None}
use Rattle.miette_protocol.specs.rules.Reading.{Source}
use Rattle.miette_tree.specs.rules.Tree.{effective, Tree, tree, Cause, diagnostic, texts, Trees, no_trees, more_trees}
use Rattle.miette_graphical_rules.specs.rules.GraphicalSettings.{GraphicalSettings}
use Rattle.miette_graphical_rules.specs.rules.PrintedDiagnostics.{PrintedDiagnostic, over}

-- a step from a diagnostic to its cause, or to the related report with a zero-based index
pub data Step : Type 0 where
  to_cause : Step
  to_related : ℕ → Step

abbrev mutual
  -- From the causes of a report, which inherit its effective source: the first cause, the next one, or a related report
  -- of the first.
  pub at_cause : Bool → Option Source → Cause → List Step → Option PrintedDiagnostic
  at_cause nested inherited (texts ts) path = None
  at_cause nested inherited (diagnostic (tree m own c r)) [] = Some (over (effective own inherited) m)
  at_cause nested inherited (diagnostic (tree m own c r)) (to_cause ∷ path) = at_cause nested inherited c path
  at_cause nested inherited (diagnostic (tree m own c r)) (to_related k ∷ path) =
      at_related nested (effective own inherited) r k path

  -- from the related report with this index: itself, its causes if it isn't nested, or its related reports
  pub at_related : Bool → Option Source → Trees → ℕ → List Step → Option PrintedDiagnostic
  at_related nested inherited no_trees k path = None
  at_related nested inherited (more_trees (tree m own c r) ts) zero [] = Some (over (effective own inherited) m)
  at_related nested inherited (more_trees (tree m own c r) ts) zero (to_cause ∷ path) =
      if nested then None else at_cause nested (effective own inherited) c path
  at_related nested inherited (more_trees (tree m own c r) ts) zero (to_related k ∷ path) =
      at_related nested (effective own inherited) r k path
  at_related nested inherited (more_trees t ts) (suc k) path = at_related nested inherited ts k path

-- what is printed at a path of a report, if anything
abbrev pub printed_at : GraphicalSettings → Tree → List Step → Option PrintedDiagnostic
printed_at s (tree m own c r) [] = Some (over own m)
printed_at s (tree m own c r) (to_cause ∷ path) = if s.cause_chain then at_cause s.related_as_nested own c path
    else None
printed_at s (tree m own c r) (to_related k ∷ path) = at_related s.related_as_nested own r k path

-- a printed diagnostic has a path
pub record HasPath (s : GraphicalSettings) (t : Tree) (p : PrintedDiagnostic) : Type 0 where
  pub path : List Step
  pub found : printed_at s t path ≡ Some p
