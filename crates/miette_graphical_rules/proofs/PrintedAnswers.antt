-- What holds of the answers of a report holds of each where a diagnostic is printed; and where all answers are the same
-- there, the texts are.
use Rattle.std.proofs.Common.{◌≡◌, zero, suc, ℕ, inl, inr, Bool, true, false, List, [], ◌∷◌, Option, Some, None, refl}
use Rattle.std.proofs.Common.{ap, ap₂, drop, length, map, subst, ◌++◌, if◌then◌else◌}
use Rattle.std.specs.List.{Contains}
use Rattle.std.proofs.lemmas.Bool.{and_parts}
use Rattle.std.proofs.lemmas.Option.{same_Some}
use Rattle.miette_protocol.specs.rules.Reading.{Source}
use Rattle.miette_graphical_rules.specs.rules.Sources.{LabelledSource, after_labels, drawn_with, sources_of}
use Rattle.miette_tree.specs.rules.Tree.{effective, Tree, tree, Cause, diagnostic, texts, Trees, no_trees, more_trees}
use Rattle.miette_snippet_rules.specs.rules.SnippetSettings as snippets
use Rattle.miette_graphical_rules.specs.rules.Answers.{DiagnosticAnswer, Answers, RelatedAnswers, SourceAnswers}
use Rattle.miette_graphical_rules.specs.rules.Answers.{cause_answers}
use Rattle.miette_graphical_rules.specs.rules.Answers.{related_answers}
use Rattle.miette_graphical_rules.specs.rules.Answers.{first_answers, first_source, later_answers, own_answer}
use Rattle.miette_graphical_rules.specs.rules.PossibleAnswers.{AreAnswers, AreCauseAnswers, AreRelatedAnswers, IsAnswer}
use Rattle.miette_graphical_rules.specs.rules.PrintedDiagnostics.{PrintedDiagnostic, all_read, diagnostics_of, over}
use Rattle.miette_graphical_rules.specs.rules.PrintedDiagnostics.{reads_all}
use Rattle.miette_graphical_rules.specs.rules.GraphicalSettings.{GraphicalSettings}
use Rattle.miette_graphical_rules.specs.rules.Snippets.{drawn_fix, rows_over, snippet_settings, source_rows}
use Rattle.miette_graphical_rules.specs.rules.Snippets.{whole_drawing}
use Rattle.miette_graphical_rules.specs.rules.Text.{report_text}
use Rattle.miette_graphical_rules.specs.laws.Alike.{answer_at, numbered_answers}
use Rattle.miette_graphical_rules.specs.laws.Paths.{Step, to_cause, to_related, at_cause, at_related, printed_at}
use Rattle.miette_graphical_rules.proofs.Alike.{report_alike}
use Rattle.miette_graphical_rules.proofs.Paths.{first_or_later, none, printed_there}

-- ---- answers that agree on each source

abbrev pub AgreeOver : List LabelledSource → SourceAnswers → SourceAnswers → Type 0
AgreeOver [] a b = Unit {0}
AgreeOver (it ∷ more) a b = (first_source a ≡ first_source b) × AgreeOver more (drop 1 a) (drop 1 b)

over_alike : (s : GraphicalSettings) (sources : List LabelledSource) (a b : SourceAnswers) → AgreeOver sources a b
    → rows_over s sources a ≡ rows_over s sources b
over_alike s [] a b h = refl
over_alike s (it ∷ more) a b h =
    ap₂ (λ x y. source_rows s it.source it.labels x ++ y) h.0
    (over_alike (after_labels (length it.labels) s) more (drop 1 a) (drop 1 b) h.1)

-- of a printed diagnostic
abbrev pub Agree : PrintedDiagnostic → DiagnosticAnswer → DiagnosticAnswer → Type 0
Agree p a b = AgreeOver (sources_of p.source p.meaning) a.sources b.sources × (a.fixes_fail ≡ b.fixes_fail)

-- wherever a diagnostic is printed
abbrev pub AgreeAlong : GraphicalSettings → Tree → Answers → Answers → Type 0
AgreeAlong s t a b = (path : List Step) (p : PrintedDiagnostic) → printed_at s t path ≡ Some p →
    Agree p (answer_at a path) (answer_at b path)

pub agreed_alike : (s : GraphicalSettings) (t : Tree) (a b : Answers) → AgreeAlong s t a b
    → report_text whole_drawing s t a ≡ report_text whole_drawing s t b
agreed_alike s t a b alike =
    report_alike whole_drawing whole_drawing s t a b
    (λ path p found u. (
      over_alike (drawn_with p.meaning.snippets u) (sources_of p.source p.meaning) (answer_at a path).sources
          (answer_at b path).sources (alike path p found).0,
      ap (λ fails. map (drawn_fix u p.source fails) p.meaning.fixes) (alike path p found).1,
    ))

-- ---- each is an answer of its reads and of the highlighter

abbrev pub IsAnswerThere : snippets.SnippetSettings → Bool → PrintedDiagnostic → DiagnosticAnswer → Type 0
IsAnswerThere l blank p a = IsAnswer l blank p.source p.meaning a

module _ (l : snippets.SnippetSettings) (blank : Bool) where
  here : (q p : PrintedDiagnostic) (a : DiagnosticAnswer) → IsAnswerThere l blank q a → Some q ≡ Some p →
      IsAnswerThere l blank p a
  here q p a h e = subst (λ x. IsAnswerThere l blank x a) (same_Some q p e) h

  mutual
    cause_there : (nested : Bool) (inherited : Option Source) (c : Cause) (a : Answers) (path : List Step)
        (p : PrintedDiagnostic) → AreCauseAnswers l blank inherited c a →
        at_cause nested inherited c path ≡ Some p → IsAnswerThere l blank p (answer_at a path)
    cause_there nested inherited (texts ts) a path p h e = absurd (cc)
    cause_there nested inherited (diagnostic (tree m own c r)) a [] p h e =
        here (over (effective own inherited) m) p (own_answer a) h.0 e
    cause_there nested inherited (diagnostic (tree m own c r)) a (to_cause ∷ path) p h e =
        cause_there nested inherited c (cause_answers a) path p h.2 e
    cause_there nested inherited (diagnostic (tree m own c r)) a (to_related k ∷ path) p h e =
        related_there nested (effective own inherited) r (related_answers a) k path p h.1 e

    related_there : (nested : Bool) (inherited : Option Source) (ts : Trees) (more : RelatedAnswers) (k : ℕ)
        (path : List Step) (p : PrintedDiagnostic) → AreRelatedAnswers l blank inherited ts more →
        at_related nested inherited ts k path ≡ Some p →
        IsAnswerThere l blank p (answer_at (numbered_answers more k) path)
    related_there nested inherited no_trees more k path p h e = absurd (cc)
    related_there nested inherited (more_trees (tree m own c r) ts) more zero [] p h e =
        here (over (effective own inherited) m) p (own_answer (first_answers more)) h.0 e
    related_there true inherited (more_trees (tree m own c r) ts) more zero (to_cause ∷ path) p h e = absurd (cc)
    related_there false inherited (more_trees (tree m own c r) ts) more zero (to_cause ∷ path) p h e =
        cause_there false (effective own inherited) c (cause_answers (first_answers more)) path p h.1 e
    related_there nested inherited (more_trees (tree m own c r) ts) more zero (to_related k ∷ path) p h e =
        related_there nested (effective own inherited) r (related_answers (first_answers more)) k path p h.2 e
    related_there nested inherited (more_trees (tree m own c r) ts) more (suc k) path p h e =
        related_there nested inherited ts (later_answers more) k path p h.3 e

  root_there : (chain nested : Bool) (own : Option Source) (c : Cause) (a : Answers) (path : List Step)
      (p : PrintedDiagnostic) → (chain ≡ true → AreCauseAnswers l blank own c a) →
      (if chain then at_cause nested own c path else None) ≡ Some p → IsAnswerThere l blank p (answer_at a path)
  root_there true nested own c a path p h e = cause_there nested own c a path p (h refl) e
  root_there false nested own c a path p h e = absurd (cc)

pub answer_there : (s : GraphicalSettings) (blank : Bool) (t : Tree) (a : Answers) (path : List Step)
    (p : PrintedDiagnostic)
    → AreAnswers s blank t a → printed_at s t path ≡ Some p
    → IsAnswerThere (snippet_settings s) blank p (answer_at a path)
answer_there s blank (tree m own c r) a [] p h e = here (snippet_settings s) blank (over own m) p (own_answer a) h.0 e
answer_there s blank (tree m own c r) a (to_cause ∷ path) p h e =
    root_there (snippet_settings s) blank s.cause_chain s.related_as_nested own c (cause_answers a) path p h.1 e
answer_there s blank (tree m own c r) a (to_related k ∷ path) p h e =
    related_there (snippet_settings s) blank s.related_as_nested own r (related_answers a) k path p h.2 e

-- ---- each is read from a source that always reads, where all are

one_reads : (ps : List PrintedDiagnostic) (p : PrintedDiagnostic) → all_read ps ≡ true → Contains ps p
    → reads_all p ≡ true
one_reads [] p all h = absurd (none p h)
one_reads (q ∷ ps) p all h =
    let both = and_parts (reads_all q) (all_read ps) all in
    elim (first_or_later q ps p h) [
      | inl same ↦ subst (λ x. reads_all x ≡ true) same both.0
      | inr later ↦ one_reads ps p both.1 later
    ]

pub reads_there : (s : GraphicalSettings) (t : Tree) (path : List Step) (p : PrintedDiagnostic)
    → all_read (diagnostics_of s t) ≡ true → printed_at s t path ≡ Some p
    → reads_all p ≡ true
reads_there s t path p all found = one_reads (diagnostics_of s t) p all (printed_there s t path p found)
