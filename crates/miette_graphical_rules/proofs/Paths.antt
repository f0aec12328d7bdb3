-- What stands at a path is printed.
use Rattle.std.proofs.Common.{◌≡◌, ℕ, zero, suc, ◌⊎◌, inl, inr, Bool, true, false, if◌then◌else◌, List, [], ◌∷◌, ◌++◌}
use Rattle.std.proofs.Common.{Option, Some, None, refl, subst, arith}
use Rattle.std.specs.List.{Contains}
use Rattle.std.proofs.lemmas.List.Elements.{Contains-append_left, Contains-append_right, Contains-append_cases}
use Rattle.std.proofs.lemmas.List.Elements.{Contains-push_cases}
use Rattle.std.proofs.lemmas.Option.{same_Some}
use Rattle.miette_protocol.specs.rules.Reading.{Source}
use Rattle.miette_tree.specs.rules.Tree.{effective, Tree, tree, Cause, diagnostic, texts, Trees, no_trees, more_trees}
use Rattle.miette_graphical_rules.specs.rules.GraphicalSettings.{GraphicalSettings}
use Rattle.miette_graphical_rules.specs.rules.PrintedDiagnostics.{PrintedDiagnostic, over, diagnostics_of}
use Rattle.miette_graphical_rules.specs.rules.PrintedDiagnostics.{printed_causes}
use Rattle.miette_graphical_rules.specs.rules.PrintedDiagnostics.{printed_related}
use Rattle.miette_graphical_rules.specs.laws.Paths.{Step, to_cause, to_related, at_cause, at_related, printed_at}

-- ---- lists

pub none : {A : Type 0} (p : A) → Contains [] p → ⊥
none p h = let below = h.1 in omega arith

only_one : {A : Type 0} (q p : A) → Contains (q ∷ []) p → q ≡ p
only_one q p h = elim (Contains-push_cases [] q p h) [ inl nowhere ↦ absurd (none p nowhere) | inr same ↦ same ]

pub first_or_later : {A : Type 0} (q : A) (ps : List A) (p : A) → Contains (q ∷ ps) p → (q ≡ p) ⊎ Contains ps p
first_or_later q ps p h = elim (Contains-append_cases (q ∷ []) ps p h)
    [ inl here ↦ inl (only_one q p here) | inr later ↦ inr later ]

first : (q : PrintedDiagnostic) (ps : List PrintedDiagnostic) (p : PrintedDiagnostic) → q ≡ p → Contains (q ∷ ps) p
first q ps p e = subst (λ x. Contains (q ∷ ps) x) e (zero, omega arith, refl)

later : (q : PrintedDiagnostic) (ps : List PrintedDiagnostic) (p : PrintedDiagnostic) → Contains ps p
    → Contains (q ∷ ps) p
later q ps p h = Contains-append_right (q ∷ []) ps p h

-- ---- what stands at a path is printed

mutual
  cause_printed : (nested : Bool) (inherited : Option Source) (c : Cause) (path : List Step) (p : PrintedDiagnostic)
      → at_cause nested inherited c path ≡ Some p → Contains (printed_causes nested inherited c) p
  cause_printed nested inherited (texts ts) path p h = absurd (cc)
  cause_printed nested inherited (diagnostic (tree m own c r)) [] p h =
      let source = effective own inherited in
      Contains-append_left (over source m ∷ printed_related nested source r) (printed_causes nested inherited c) p
      (first (over source m) (printed_related nested source r) p (same_Some _ _ h))
  cause_printed nested inherited (diagnostic (tree m own c r)) (to_cause ∷ path) p h =
      Contains-append_right (over (effective own inherited) m ∷ printed_related nested (effective own inherited) r)
      (printed_causes nested inherited c) p (cause_printed nested inherited c path p h)
  cause_printed nested inherited (diagnostic (tree m own c r)) (to_related k ∷ path) p h =
      let source = effective own inherited in
      Contains-append_left (over source m ∷ printed_related nested source r) (printed_causes nested inherited c) p
      (later (over source m) (printed_related nested source r) p (related_printed nested source r k path p h))

  related_printed : (nested : Bool) (inherited : Option Source) (ts : Trees) (k : ℕ) (path : List Step)
      (p : PrintedDiagnostic) → at_related nested inherited ts k path ≡ Some p →
      Contains (printed_related nested inherited ts) p
  related_printed nested inherited no_trees k path p h = absurd (cc)
  related_printed nested inherited (more_trees (tree m own c r) ts) zero [] p h =
      let source = effective own inherited in
      let below = (if nested then [] else printed_causes nested source c) ++ printed_related nested source r in
      Contains-append_left (over source m ∷ below) (printed_related nested inherited ts) p
      (first (over source m) below p (same_Some _ _ h))
  related_printed true inherited (more_trees (tree m own c r) ts) zero (to_cause ∷ path) p h = absurd (cc)
  related_printed false inherited (more_trees (tree m own c r) ts) zero (to_cause ∷ path) p h =
      let source = effective own inherited in
      let below = printed_causes false source c ++ printed_related false source r in
      Contains-append_left (over source m ∷ below) (printed_related false inherited ts) p
      (later (over source m) below p (Contains-append_left (printed_causes false source c)
      (printed_related false source r) p (cause_printed false source c path p h)))
  related_printed nested inherited (more_trees (tree m own c r) ts) zero (to_related k ∷ path) p h =
      let source = effective own inherited in
      let causes = if nested then [] else printed_causes nested source c in
      Contains-append_left (over source m ∷ (causes ++ printed_related nested source r))
      (printed_related nested inherited ts) p
      (later (over source m) (causes ++ printed_related nested source r) p
      (Contains-append_right causes (printed_related nested source r) p
      (related_printed nested source r k path p h)))
  related_printed nested inherited (more_trees (tree m own c r) ts) (suc k) path p h =
      let source = effective own inherited in
      Contains-append_right (over source m ∷ ((if nested then [] else printed_causes nested source c)
      ++ printed_related nested source r)) (printed_related nested inherited ts) p
      (related_printed nested inherited ts k path p h)

root_printed : (chain nested : Bool) (own : Option Source) (c : Cause) (path : List Step) (p : PrintedDiagnostic)
    → (if chain then at_cause nested own c path else None) ≡ Some p →
    Contains (if chain then printed_causes nested own c else []) p
root_printed true nested own c path p h = cause_printed nested own c path p h
root_printed false nested own c path p h = absurd (cc)

pub printed_there : (s : GraphicalSettings) (t : Tree) (path : List Step) (p : PrintedDiagnostic) → printed_at s t path
    ≡ Some p
    → Contains (diagnostics_of s t) p
printed_there s (tree m own c r) [] p h = first (over own m) _ p (same_Some _ _ h)
printed_there s (tree m own c r) (to_cause ∷ path) p h =
    let causes = if s.cause_chain then printed_causes s.related_as_nested own c else [] in
    later (over own m) (causes ++ printed_related s.related_as_nested own r) p
    (Contains-append_left causes (printed_related s.related_as_nested own r) p
    (root_printed s.cause_chain s.related_as_nested own c path p h))
printed_there s (tree m own c r) (to_related k ∷ path) p h =
    let causes = if s.cause_chain then printed_causes s.related_as_nested own c else [] in
    later (over own m) (causes ++ printed_related s.related_as_nested own r) p
    (Contains-append_right causes (printed_related s.related_as_nested own r) p
    (related_printed s.related_as_nested own r k path p h))
