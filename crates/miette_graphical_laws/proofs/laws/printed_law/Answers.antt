use Rattle.std.proofs.Common.{◌≡◌, false, ◌||◌, List, [], ◌∷◌, ◌++◌, map, drop, length, refl, sym, ap, ap₂, ◌∙◌}
use Rattle.std.proofs.Common.{append-nil, Option, Some}
use Rattle.std.proofs.lemmas.Bool.{or_parts}
use Rattle.miette_protocol.specs.views.Meaning.{Label}
use Rattle.miette_protocol.specs.rules.Reading.{Source}
use Rattle.miette_tree.specs.rules.Diagnosis.{Diagnosis, Section}
use Rattle.miette_tree.specs.rules.DiagnosticParts.{given_labels}
use Rattle.miette_graphical_rules.specs.rules.Answers.{DiagnosticAnswer, SourceAnswer, SourceAnswers, first_source}
use Rattle.miette_graphical_rules.specs.rules.Answers.{sources_listed}
use Rattle.miette_graphical_rules.specs.rules.GraphicalSettings.{GraphicalSettings}
use Rattle.miette_graphical_rules.specs.rules.Snippets.{drawn_fix, drawn_rows, drawn_without_fixes, own_rows, rows_over}
use Rattle.miette_graphical_rules.specs.rules.Snippets.{source_rows, whole_drawing}
use Rattle.miette_graphical_rules.specs.rules.Sources.{after_labels, further_sources, is_labelled, some_further}
use Rattle.miette_graphical_rules.specs.rules.Sources.{sources_of}
use Rattle.miette_graphical_rules.specs.laws.Alike.{answer_at}
use Rattle.miette_graphical_rules.specs.laws.Alike.{AreDrawnAlike}
use Rattle.miette_graphical_rules.specs.rules.PrintedDiagnostics.{diagnostics_of}
use Rattle.miette_graphical_rules.proofs.Paths.{printed_there}
use Rattle.miette_graphical_laws.proofs.PrintedAlike.{answered_alike}
use Rattle.miette_graphical_rules.proofs.Alike.{report_alike}
use Rattle.miette_graphical_laws.proofs.PrintedAlike.{holds_there}
use Rattle.miette_graphical_laws.proofs.laws.printed_law.Goals as goal

pub returns-clause-rows : goal.returns-clause-rows
returns-clause-rows c = λ drawing other s t a alike.
    report_alike drawing other s t a a (λ path p found u.
    let same = holds_there (AreDrawnAlike drawing other) (diagnostics_of s t) p alike (printed_there s t path p found)
    in (same.rows u (answer_at a path), same.fixes u (answer_at a path)))

pub returns-clause-answers : goal.returns-clause-answers
returns-clause-answers c = λ drawing s t a b alike. answered_alike drawing s t a b alike

-- no labels have no rows
bare : (u : GraphicalSettings) (source : Source) (labels : List Label) (a : SourceAnswer)
    → is_labelled (record { source = source; labels = labels }) ≡ false → source_rows u (Some source) labels a ≡ []
bare u source [] a h = refl
bare u source (label ∷ labels) a h = absurd (cc)

-- nor have further sources without labels
bare_further : (u : GraphicalSettings) (sections : List Section) (a : SourceAnswers) → some_further sections ≡ false
    → rows_over u (further_sources sections) a ≡ []
bare_further u [] a h = refl
bare_further u (section ∷ sections) a h =
    let both = or_parts (is_labelled section) (some_further sections) h in
    ap₂ (λ rows more. rows ++ more) (bare u section.source section.labels (first_source a) both.0)
    (bare_further (after_labels (length section.labels) u) sections (drop 1 a) both.1)

-- a diagnostic without labels over further sources has the rows of its own labels
alone : (u : GraphicalSettings) (source : Option Source) (m : Diagnosis) (a : DiagnosticAnswer)
    → some_further m.snippets ≡ false
    → drawn_rows u source m a ≡ own_rows u source m a
alone u source m a none =
    ap (λ it. rows_over (record u { layout = record u.layout { one_line_start = it || u.layout.one_line_start } })
    (sources_of source m) a.sources) none
    ∙ ap (λ rows. own_rows u source m a ++ rows)
    (bare_further (after_labels (length (given_labels m.labels)) u) m.snippets (drop 1 a.sources) none)
    ∙ append-nil (own_rows u source m a)

pub returns-clause-without_snippets : goal.returns-clause-without_snippets
returns-clause-without_snippets c = λ s t a none.
    report_alike whole_drawing (record whole_drawing { rows = own_rows }) s t a a (λ path p found u. (
      alone u p.source p.meaning (answer_at a path)
          (holds_there (λ q. some_further q.meaning.snippets ≡ false) (diagnostics_of s t) p none
          (printed_there s t path p found)),
      refl,
    ))

pub returns-clause-without_fixes : goal.returns-clause-without_fixes
returns-clause-without_fixes c = λ s t a none.
    report_alike whole_drawing drawn_without_fixes s t a a (λ path p found u. (
      refl,
      ap (map (drawn_fix u p.source (answer_at a path).fixes_fail))
          (holds_there (λ q. q.meaning.fixes ≡ []) (diagnostics_of s t) p none (printed_there s t path p found)),
    ))

pub returns-clause-sources : goal.returns-clause-sources
returns-clause-sources c = λ s it m a labels none.
    ap (λ ls. source_rows s it.source ls a) (sym labels)
    ∙ sym (alone s it.source m (sources_listed (a ∷ [])) (ap some_further none))
