-- The labels of what is found in a source are accepted.
use Rattle.std.proofs.Common.{◌≡◌, ℕ, List, sym, subst}
use Rattle.miette_labels.specs.rules.Groups.{AreInBounds}
use Rattle.miette_protocol.specs.views.Meaning.{Label, Meaning}
use Rattle.miette_tree.specs.rules.DiagnosticParts.{given_labels}
use Rattle.miette_lint_program.specs.views.LintReports.{warning}

pub warned_accepted : (m : Meaning) (found : List Label) (input : List ℕ) → m ≡ warning found
    → AreInBounds input found → AreInBounds input (given_labels m.labels)
warned_accepted m found input is h = subst (λ (v : Meaning). AreInBounds input (given_labels v.labels)) (sym is) h
