-- Where lines are left plain, a text is the one without a highlighter.
use Rattle.std.proofs.Common.{◌≡◌, true, List, [], ◌∷◌, drop, map, refl, sym, ap, ◌∙◌, length}
use Rattle.std.proofs.Common.{subst}
use Rattle.miette_tree.specs.rules.Tree.{Tree}
use Rattle.miette_snippet_laws.specs.laws.PlainStyles.{unhighlighted_answer}
use Rattle.miette_graphical_rules.specs.rules.GraphicalSettings.{GraphicalSettings}
use Rattle.miette_graphical_rules.specs.rules.Snippets.{whole_drawing, snippet_settings}
use Rattle.miette_graphical_rules.specs.rules.Sources.{LabelledSource, snippets_after, snippets_with, sources_of}
use Rattle.miette_graphical_rules.specs.rules.Answers.{Answers, SourceAnswers}
use Rattle.miette_graphical_rules.specs.rules.Answers.{first_source}
use Rattle.miette_graphical_rules.specs.rules.PossibleAnswers.{AreAnswers, AreAnswersOver}
use Rattle.miette_graphical_rules.specs.rules.Text.{report_text}
use Rattle.miette_graphical_rules.specs.laws.Alike.{answer_at}
use Rattle.miette_graphical_rules.specs.laws.PlainTexts.{unhighlighted_answers}
use Rattle.miette_graphical_rules.proofs.PrintedAnswers.{Agree, AgreeAlong, AgreeOver, agreed_alike, answer_there}
use Rattle.miette_snippet_rules.specs.rules.SnippetSettings as snippets
use Rattle.miette_graphical_rules.proofs.Unhighlighted.{unhighlighted_at, first-unhighlighted-source}
use Rattle.miette_graphical_rules.proofs.Unhighlighted.{later-unhighlighted-sources}

-- where lines are left plain, there are no pieces
plain_over : (l : snippets.SnippetSettings) (sources : List LabelledSource) (a : SourceAnswers)
    → AreAnswersOver l true sources a → AgreeOver sources a (map unhighlighted_answer a)
plain_over l [] a h = tt
plain_over l (it ∷ more) a h = (
  ap (λ pieces. record (first_source a) { pieces = pieces }) (h.0.plain refl) ∙ first-unhighlighted-source a,
  subst (λ later. AgreeOver more (drop 1 a) later) (later-unhighlighted-sources a)
      (plain_over (snippets_after (length it.labels) l) more (drop 1 a) h.1),
)

plain_alike : (s : GraphicalSettings) (t : Tree) (a : Answers) → AreAnswers s true t a
    → AgreeAlong s t a (unhighlighted_answers a)
plain_alike s t a h = λ path p found.
    subst (λ b. Agree p (answer_at a path) b) (sym (unhighlighted_at a path)) (
      plain_over (snippets_with p.meaning.snippets (snippet_settings s)) (sources_of p.source p.meaning)
          (answer_at a path).sources (answer_there s true t a path p h found).sources,
      refl,
    )

pub plain-report : (s : GraphicalSettings) (t : Tree) (a : Answers) → AreAnswers s true t a →
    report_text whole_drawing s t a ≡ report_text whole_drawing s t (unhighlighted_answers a)
plain-report s t a h = agreed_alike s t a (unhighlighted_answers a) (plain_alike s t a h)
