-- Each printed diagnostic has a path.
use Rattle.std.proofs.Common.{◌≡◌, ℕ, zero, suc, inl, inr, Bool, true, false, if◌then◌else◌, List, [], ◌∷◌, ◌++◌}
use Rattle.std.proofs.Common.{Option, Some, None, ap}
use Rattle.std.specs.List.{Contains}
use Rattle.std.proofs.lemmas.List.Elements.{Contains-append_cases}
use Rattle.miette_protocol.specs.rules.Reading.{Source}
use Rattle.miette_tree.specs.rules.Tree.{effective, Tree, tree, Cause, diagnostic, texts, Trees, no_trees, more_trees}
use Rattle.miette_graphical_rules.specs.rules.GraphicalSettings.{GraphicalSettings}
use Rattle.miette_graphical_rules.specs.rules.PrintedDiagnostics.{PrintedDiagnostic, over, diagnostics_of}
use Rattle.miette_graphical_rules.specs.rules.PrintedDiagnostics.{printed_causes}
use Rattle.miette_graphical_rules.specs.rules.PrintedDiagnostics.{printed_related}
use Rattle.miette_graphical_rules.specs.laws.Paths.{Step, to_cause, to_related, at_cause, at_related, HasPath}
use Rattle.miette_graphical_rules.proofs.Paths.{first_or_later, none}

abbrev IsAt : (List Step → Option PrintedDiagnostic) → PrintedDiagnostic → Type 0
IsAt at p = (path : List Step) × (at path ≡ Some p)

abbrev IsAmong : (ℕ → List Step → Option PrintedDiagnostic) → PrintedDiagnostic → Type 0
IsAmong at p = (k : ℕ) × IsAt (at k) p

mutual
  cause_named : (nested : Bool) (inherited : Option Source) (c : Cause) (p : PrintedDiagnostic)
      → Contains (printed_causes nested inherited c) p → IsAt (at_cause nested inherited c) p
  cause_named nested inherited (texts ts) p h = absurd (none p h)
  cause_named nested inherited (diagnostic (tree m own c r)) p h =
      let source = effective own inherited in
      elim (Contains-append_cases (over source m ∷ printed_related nested source r) (printed_causes nested inherited c)
      p h) [
        | inl here ↦ elim (first_or_later (over source m) (printed_related nested source r) p here) [
          | inl same ↦ ([], ap Some same)
          | inr below ↦ (let n = related_named nested source r p below in (to_related n.0 ∷ n.1.0, n.1.1))
        ]
        | inr further ↦ (let n = cause_named nested inherited c p further in (to_cause ∷ n.0, n.1))
      ]

  related_named : (nested : Bool) (inherited : Option Source) (ts : Trees) (p : PrintedDiagnostic)
      → Contains (printed_related nested inherited ts) p → IsAmong (at_related nested inherited ts) p
  related_named nested inherited no_trees p h = absurd (none p h)
  related_named true inherited (more_trees (tree m own c r) ts) p h =
      let source = effective own inherited in
      elim (Contains-append_cases (over source m ∷ printed_related true source r) (printed_related true inherited ts) p
      h) [
        | inl here ↦ elim (first_or_later (over source m) (printed_related true source r) p here) [
          | inl same ↦ (zero, ([], ap Some same))
          | inr below ↦ (let n = related_named true source r p below in (zero, (to_related n.0 ∷ n.1.0, n.1.1)))
        ]
        | inr further ↦ (let n = related_named true inherited ts p further in (suc n.0, (n.1.0, n.1.1)))
      ]
  related_named false inherited (more_trees (tree m own c r) ts) p h =
      let source = effective own inherited in
      elim (Contains-append_cases (over source m ∷ (printed_causes false source c ++ printed_related false source r))
      (printed_related false inherited ts) p h) [
        | inl here ↦ elim (first_or_later (over source m) (printed_causes false source c
            ++ printed_related false source r) p here) [
              | inl same ↦ (zero, ([], ap Some same))
              | inr below ↦ elim (Contains-append_cases (printed_causes false source c) (printed_related false source r)
                  p
                  below) [
                    | inl cause ↦ (let n = cause_named false source c p cause in (zero, (to_cause ∷ n.0, n.1)))
                    | inr related ↦ (let n = related_named false source r p related in
                        (zero, (to_related n.0 ∷ n.1.0, n.1.1)))
                  ]
            ]
        | inr further ↦ (let n = related_named false inherited ts p further in (suc n.0, (n.1.0, n.1.1)))
      ]

root_named : (chain nested : Bool) (own : Option Source) (c : Cause) (p : PrintedDiagnostic)
    → Contains (if chain then printed_causes nested own c else []) p →
    IsAt (λ path. if chain then at_cause nested own c path else None) p
root_named true nested own c p h = cause_named nested own c p h
root_named false nested own c p h = absurd (none p h)

pub named : (s : GraphicalSettings) (t : Tree) (p : PrintedDiagnostic) → Contains (diagnostics_of s t) p → HasPath s t p
named s (tree m own c r) p h =
    let causes = if s.cause_chain then printed_causes s.related_as_nested own c else [] in
    elim (first_or_later (over own m) (causes ++ printed_related s.related_as_nested own r) p h) [
      | inl same ↦ record { path = []; found = ap Some same }
      | inr below ↦ elim (Contains-append_cases causes (printed_related s.related_as_nested own r) p below) [
        | inl cause ↦ (let n = root_named s.cause_chain s.related_as_nested own c p cause in
            record { path = to_cause ∷ n.0; found = n.1 })
        | inr related ↦ (let n = related_named s.related_as_nested own r p related in
            record { path = to_related n.0 ∷ n.1.0; found = n.1.1 })
      ]
    ]
