-- Of a report whose sources always read, each read of a picture is determined.
use Rattle.std.proofs.Common.{◌≡◌, ℕ, Bool, true, false, List, [], ◌∷◌, ◌++◌, Option, Some, None, refl}
use Rattle.std.specs.Prelude.{not}
use Rattle.std.proofs.lemmas.Bool.{and_from, and_parts, or_right}
use Rattle.std.specs.List.{All, list_all, list_any}
use Rattle.std.proofs.lemmas.List.Elements.{All-head, All-tail}
use Rattle.std.specs.Prelude.{if◌then◌else◌}
use Rattle.miette_protocol.specs.views.Meaning.{Label}
use Rattle.miette_protocol.specs.rules.Reading.{Source, is_in_bounds}
use Rattle.miette_labels.specs.rules.Groups.{AreInBounds}
use Rattle.miette_tree.specs.rules.Tree.{Tree, tree, Cause, diagnostic, texts, Trees, no_trees, more_trees, effective}
use Rattle.miette_tree.specs.rules.DiagnosticParts.{given_labels}
use Rattle.miette_graphical_rules.specs.rules.PrintedDiagnostics.{PrintedDiagnostic, over, diagnostics_of}
use Rattle.miette_graphical_rules.specs.rules.PrintedDiagnostics.{printed_causes}
use Rattle.miette_graphical_rules.specs.rules.PrintedDiagnostics.{printed_related, all_read, reads_all}
use Rattle.miette_tree.specs.rules.Reads.{AlwaysReads, CauseAlwaysReads, AllAlwaysRead}
use Rattle.miette_fixes.specs.rules.Edits.{FixModel}
use Rattle.miette_tree.specs.rules.Diagnosis.{Diagnosis, Section}
use Rattle.miette_tree.proofs.Nesting.{Reads, effective_reads}
use Rattle.miette_tree.proofs.Readings.{source_reads}
use Rattle.miette_graphical_rules.specs.rules.GraphicalSettings.{GraphicalSettings}
use Rattle.miette_graphical_rules.specs.rules.Sources.{further_sources, has_edits, reads_for, sources_of, sources_read}
use Rattle.miette_labels.proofs.RefusedLabel.{accepted_is}

further_reads : (sections : List Section) → All (λ section. section.source.always_reads ≡ true) sections
    → sources_read (further_sources sections) ≡ true
further_reads [] q = refl
further_reads (section ∷ sections) q =
    let reads : Section → Type 0 = λ it. it.source.always_reads ≡ true in
    and_from _ _ (source_reads (Some section.source) section.labels (All-head reads section sections q))
    (further_reads sections (All-tail reads section sections q))

fixes_reads : (source : Option Source) (fixes : List FixModel) → Reads source → reads_for source fixes ≡ true
fixes_reads None fixes p = refl
fixes_reads (Some source) fixes p = or_right (not (list_any has_edits fixes)) source.always_reads p

sources_reads : (source : Option Source) (m : Diagnosis) → Reads source
    → All (λ section. section.source.always_reads ≡ true) m.snippets → reads_all (over source m) ≡ true
sources_reads source m p q =
    and_from (sources_read (sources_of source m)) (reads_for source m.fixes)
    (and_from _ _ (source_reads source (given_labels m.labels) p) (further_reads m.snippets q))
    (fixes_reads source m.fixes p)

all_of_both : (ps qs : List PrintedDiagnostic) → all_read ps ≡ true → all_read qs ≡ true → all_read (ps ++ qs) ≡ true
all_of_both [] qs p q = q
all_of_both (x ∷ ps) qs p q =
    let h = and_parts (reads_all x) (all_read ps) p in
    and_from (reads_all x) (all_read (ps ++ qs)) h.0 (all_of_both ps qs h.1 q)

unless_nested : (nested : Bool) (ps : List PrintedDiagnostic) → all_read ps ≡ true
    → all_read (if nested then [] else ps) ≡ true
unless_nested true ps p = refl
unless_nested false ps p = p

if_shown : (chain : Bool) (ps : List PrintedDiagnostic) → all_read ps ≡ true → all_read (if chain then ps else [])
    ≡ true
if_shown true ps p = p
if_shown false ps p = refl

mutual
  causes_read : (nested : Bool) (inherited : Option Source) (c : Cause) → Reads inherited → CauseAlwaysReads c
      → all_read (printed_causes nested inherited c) ≡ true
  causes_read nested inherited (texts ts) p q = refl
  causes_read nested inherited (diagnostic (tree m own c r)) p q =
      let source = effective own inherited in
      let here : Reads source = effective_reads own inherited q.0 p in
      all_of_both (over source m ∷ printed_related nested source r) (printed_causes nested inherited c)
      (and_from (reads_all (over source m)) (all_read (printed_related nested source r))
      (sources_reads source m here q.3) (related_read nested source r here q.2))
      (causes_read nested inherited c p q.1)

  related_read : (nested : Bool) (inherited : Option Source) (r : Trees) → Reads inherited → AllAlwaysRead r
      → all_read (printed_related nested inherited r) ≡ true
  related_read nested inherited no_trees p q = refl
  related_read nested inherited (more_trees (tree m own c r) ts) p q =
      let source = effective own inherited in
      let here : Reads source = effective_reads own inherited q.0.0 p in
      let causes = if nested then [] else printed_causes nested source c in
      all_of_both (over source m ∷ (causes ++ printed_related nested source r)) (printed_related nested inherited ts)
      (and_from (reads_all (over source m)) (all_read (causes ++ printed_related nested source r))
      (sources_reads source m here q.0.3)
      (all_of_both causes (printed_related nested source r)
      (unless_nested nested (printed_causes nested source c) (causes_read nested source c here q.0.1))
      (related_read nested source r here q.0.2)))
      (related_read nested inherited ts p q.1)

pub printed-reads : (s : GraphicalSettings) (t : Tree) → AlwaysReads t → all_read (diagnostics_of s t) ≡ true
printed-reads s (tree m own c r) q =
    let causes = if s.cause_chain then printed_causes s.related_as_nested own c else [] in
    and_from (reads_all (over own m)) (all_read (causes ++ printed_related s.related_as_nested own r))
    (sources_reads own m q.0 q.3)
    (all_of_both causes (printed_related s.related_as_nested own r)
    (if_shown s.cause_chain (printed_causes s.related_as_nested own c)
    (causes_read s.related_as_nested own c q.0 q.1)) (related_read s.related_as_nested own r q.0 q.2))

-- each label that is accepted is read
pub accept_all : (bytes : List ℕ) (labels : List Label) → AreInBounds bytes labels
    → list_all (λ label. is_in_bounds bytes label.span) labels ≡ true
accept_all bytes [] h = refl
accept_all bytes (l ∷ ls) h = and_from _ _ (accepted_is bytes l.span h.0) (accept_all bytes ls h.1)
