-- Answers without a highlighter's pieces are possible in plain styles: the snippets have rows there too.
use Rattle.std.proofs.Common.{◌≡◌, ℕ, Bool, true, List, Option, Some, None, [], ◌∷◌, ◌++◌, drop, length, sym, take}
use Rattle.std.proofs.Common.{is_some, map, option_map, refl, ap, ◌∙◌, subst}
use Rattle.miette_protocol.specs.views.Meaning.{Label}
use Rattle.miette_tree.specs.rules.Diagnosis.{Diagnosis}
use Rattle.miette_protocol.specs.rules.Reading.{Source}
use Rattle.miette_graphical_rules.specs.rules.Sources.{LabelledSource, snippets_after, snippets_with, sources_of}
use Rattle.miette_graphical_rules.specs.rules.Sources.{styles_after}
use Rattle.std.proofs.Math.Nat.{mod-one}
use Rattle.miette_tree.specs.rules.Tree.{effective, Tree, tree, Cause, diagnostic, texts, Trees, no_trees, more_trees}
use Rattle.miette_labels.specs.rules.Answers as snippet_answers
use Rattle.miette_labels.specs.rules.Around.{group_context}
use Rattle.miette_labels.specs.rules.Groups.{groups_of, in_order}
use Rattle.miette_snippet_laws.specs.laws.PlainStyles as row_laws
use Rattle.miette_snippet_laws.specs.laws.PlainStyles.{unhighlighted_answer}
use Rattle.miette_snippet_laws.proofs.PlainStyles.{none_are_plain}
use Rattle.miette_style.specs.rules.Themes.{Styles, no_styles}
use Rattle.miette_snippet_rules.specs.rules.SnippetSettings as snippets
use Rattle.miette_snippet_rules.specs.rules.SnippetLayout.{end_lines, end_settings, snippet_rows}
use Rattle.miette_snippet_rules.proofs.NoPieces.{none_have}
use Rattle.miette_style.specs.rules.Rows.{Row, glyphs_of}
use Rattle.miette_graphical_rules.specs.rules.GraphicalSettings.{GraphicalSettings}
use Rattle.miette_graphical_rules.specs.rules.Snippets.{snippet_settings}
use Rattle.miette_graphical_rules.specs.rules.Answers.{Answers, RelatedAnswers, SourceAnswer, SourceAnswers}
use Rattle.miette_graphical_rules.specs.rules.Answers.{first_answers}
use Rattle.miette_graphical_rules.specs.rules.Answers.{first_source, later_answers}
use Rattle.miette_graphical_rules.specs.rules.Answers.{own_answer, cause_answers, related_answers}
use Rattle.miette_graphical_rules.specs.rules.PossibleAnswers.{AreAnswers, AreCauseAnswers, AreRelatedAnswers}
use Rattle.miette_graphical_rules.specs.rules.PossibleAnswers.{HasPieces}
use Rattle.miette_graphical_rules.specs.rules.PossibleAnswers.{AreAnswersOver, HasRows, IsAnswer, IsAnswerOf}
use Rattle.miette_tree.specs.rules.Reads.{always_reads}
use Rattle.miette_graphical_rules.specs.laws.PlainTexts.{plain_settings, unhighlighted_answers}
use Rattle.miette_graphical_rules.specs.laws.PlainTexts.{unhighlighted_related_answers}
use Rattle.miette_graphical_rules.proofs.Unhighlighted.{first-unhighlighted-source, later-unhighlighted-sources}
use Rattle.miette_graphical_rules.proofs.Unhighlighted.{own-unhighlighted, cause-unhighlighted, related-unhighlighted}
use Rattle.miette_graphical_rules.proofs.Unhighlighted.{first-unhighlighted, later-unhighlighted}

-- in plain styles the rows have the same characters, which the layer of snippets promises
abbrev pub AreRowsKept : Type 0
AreRowsKept = (s : snippets.SnippetSettings) (styles : Styles) (source : Source) (labels : List Label)
    (answers : snippet_answers.Answers) → row_laws.ArePlain styles →
    option_map (map glyphs_of) (snippet_rows (row_laws.restyled_snippets s styles) source labels
    (row_laws.unhighlighted_answer answers)) ≡ option_map (map glyphs_of) (snippet_rows s source labels answers)

some_kept : (plain rows : Option (List Row)) → option_map (map glyphs_of) plain ≡ option_map (map glyphs_of) rows
    → is_some rows ≡ true → is_some plain ≡ true
some_kept None None e h = h
some_kept None (Some rows) e h = absurd (cc)
some_kept (Some plain) rows e h = refl

-- the one highlight that no style has comes again and again
no_styles_after : (n : ℕ) → styles_after n no_styles ≡ no_styles
no_styles_after n =
    ap (λ k. record no_styles { highlights = drop k no_styles.highlights ++ take k no_styles.highlights }) (mod-one n)

module _ (kept : AreRowsKept) where
  rows_kept : (l : snippets.SnippetSettings) (source : Option Source) (labels : List Label) (a : SourceAnswer)
      → HasRows l source labels a → HasRows (row_laws.plain_snippet_settings l) source labels (unhighlighted_answer a)
  rows_kept l None labels a h = tt
  rows_kept l (Some source) labels a h =
      some_kept _ _ (kept (end_settings l a.end_fails source labels) no_styles source labels a none_are_plain) h

  no_pieces : (l : snippets.SnippetSettings) (source : Option Source) (labels : List Label) (a : SourceAnswer)
      → HasPieces (row_laws.plain_snippet_settings l) true source labels (unhighlighted_answer a)
  no_pieces l None labels a = tt
  no_pieces l (Some source) labels a =
      none_have (group_context (end_lines l.layout a.end_fails source labels) (in_order labels)) true source
      (groups_of (end_lines l.layout a.end_fails source labels) source a.join_fails (in_order labels))

  answer_possible : (l : snippets.SnippetSettings) (blank : Bool) (source : Option Source) (labels : List Label)
      (reads : Bool) (a : SourceAnswer) → IsAnswerOf l blank source labels reads a →
      IsAnswerOf (row_laws.plain_snippet_settings l) true source labels reads (unhighlighted_answer a)
  answer_possible l blank source labels reads a h = record {
    read = λ e. ap unhighlighted_answer (h.read e);
    plain = λ b. refl;
    pieces = no_pieces l source labels a;
    rows = rows_kept l source labels a h.rows;
  }

  -- over each source; the highlights that follow are as plain as those before
  over_possible : (l : snippets.SnippetSettings) (blank : Bool) (sources : List LabelledSource) (a : SourceAnswers)
      → AreAnswersOver l blank sources a
      → AreAnswersOver (row_laws.plain_snippet_settings l) true sources (map unhighlighted_answer a)
  over_possible l blank [] a h = tt
  over_possible l blank (it ∷ more) a h = (
    subst (IsAnswerOf (row_laws.plain_snippet_settings l) true it.source it.labels (always_reads it.source it.labels))
        (first-unhighlighted-source a)
        (answer_possible l blank it.source it.labels (always_reads it.source it.labels) (first_source a) h.0),
    subst (λ styles. AreAnswersOver (row_laws.restyled_snippets l styles) true more
        (drop 1 (map unhighlighted_answer a)))
        (sym (no_styles_after (length it.labels)))
        (subst (λ later. AreAnswersOver (row_laws.plain_snippet_settings l) true more later)
        (later-unhighlighted-sources a)
        (over_possible (snippets_after (length it.labels) l) blank more (drop 1 a) h.1)),
  )

  own_possible : (l : snippets.SnippetSettings) (blank : Bool) (source : Option Source) (m : Diagnosis) (a : Answers)
      → IsAnswer l blank source m (own_answer a) →
      IsAnswer (row_laws.plain_snippet_settings l) true source m (own_answer (unhighlighted_answers a))
  own_possible l blank source m a h =
      subst (IsAnswer (row_laws.plain_snippet_settings l) true source m) (own-unhighlighted a) (record {
        sources = over_possible (snippets_with m.snippets l) blank (sources_of source m) (own_answer a).sources
            h.sources;
        fixes = h.fixes;
      })

  mutual
    causes_possible : (l : snippets.SnippetSettings) (blank : Bool) (inherited : Option Source) (c : Cause)
        (a : Answers)
        → AreCauseAnswers l blank inherited c a →
        AreCauseAnswers (row_laws.plain_snippet_settings l) true inherited c (unhighlighted_answers a)
    causes_possible l blank inherited (texts ts) a h = tt
    causes_possible l blank inherited (diagnostic (tree m own c r)) a h =
        let source = effective own inherited in (
          own_possible l blank source m a h.0,
          subst (AreRelatedAnswers (row_laws.plain_snippet_settings l) true source r) (related-unhighlighted a)
              (related_possible l blank source r (related_answers a) h.1),
          subst (AreCauseAnswers (row_laws.plain_snippet_settings l) true inherited c) (cause-unhighlighted a)
              (causes_possible l blank inherited c (cause_answers a) h.2),
        )

    related_possible : (l : snippets.SnippetSettings) (blank : Bool) (inherited : Option Source) (ts : Trees)
        (more : RelatedAnswers) → AreRelatedAnswers l blank inherited ts more →
        AreRelatedAnswers (row_laws.plain_snippet_settings l) true inherited ts (unhighlighted_related_answers more)
    related_possible l blank inherited no_trees more h = tt
    related_possible l blank inherited (more_trees (tree m own c r) ts) more h =
        let source = effective own inherited in
        let a = first_answers more in (
          subst (λ b. IsAnswer (row_laws.plain_snippet_settings l) true source m (own_answer b))
              (first-unhighlighted more)
              (own_possible l blank source m a h.0),
          subst (AreCauseAnswers (row_laws.plain_snippet_settings l) true source c)
              (cause-unhighlighted a ∙ ap cause_answers (first-unhighlighted more))
              (causes_possible l blank source c (cause_answers a) h.1),
          subst (AreRelatedAnswers (row_laws.plain_snippet_settings l) true source r)
              (related-unhighlighted a ∙ ap related_answers (first-unhighlighted more))
              (related_possible l blank source r (related_answers a) h.2),
          subst (AreRelatedAnswers (row_laws.plain_snippet_settings l) true inherited ts) (later-unhighlighted more)
              (related_possible l blank inherited ts (later_answers more) h.3),
        )

  pub answers_possible : (s : GraphicalSettings) (blank : Bool) (t : Tree) (a : Answers) → AreAnswers s blank t a
      → AreAnswers (plain_settings s) true t (unhighlighted_answers a)
  answers_possible s blank (tree m own c r) a h =
      let l = snippet_settings s in (
        own_possible l blank own m a h.0,
        λ chain. subst (AreCauseAnswers (row_laws.plain_snippet_settings l) true own c) (cause-unhighlighted a)
            (causes_possible l blank own c (cause_answers a) (h.1 chain)),
        subst (AreRelatedAnswers (row_laws.plain_snippet_settings l) true own r) (related-unhighlighted a)
            (related_possible l blank own r (related_answers a) h.2),
      )
