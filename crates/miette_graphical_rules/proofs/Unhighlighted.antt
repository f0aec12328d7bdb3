-- Answers without a highlighter. Where every source always reads they say nothing: the text is the one in which nothing
-- is listed.
use Rattle.std.proofs.Common.{◌≡◌, ℕ, zero, suc, Bool, true, List, [], ◌∷◌, drop, map, refl, sym, ap, ◌∙◌, length}
use Rattle.std.proofs.Common.{subst}
use Rattle.miette_tree.specs.rules.Tree.{Tree, tree}
use Rattle.miette_style.specs.rules.Themes.{Styles}
use Rattle.miette_snippet_laws.specs.laws.PlainStyles.{unhighlighted_answer}
use Rattle.miette_graphical_rules.specs.rules.GraphicalSettings.{GraphicalSettings}
use Rattle.miette_graphical_rules.specs.rules.Snippets.{whole_drawing, snippet_settings}
use Rattle.miette_graphical_rules.specs.rules.Sources.{LabelledSource, snippets_after, snippets_with, sources_of}
use Rattle.miette_graphical_rules.specs.rules.Sources.{reads_for, sources_read}
use Rattle.miette_snippet_rules.specs.rules.SnippetSettings as snippets
use Rattle.miette_tree.specs.rules.Reads.{always_reads}
use Rattle.std.proofs.lemmas.Bool.{and_parts}
use Rattle.miette_graphical_rules.specs.rules.Answers.{Answers, SourceAnswers, unlisted, listed, RelatedAnswers}
use Rattle.miette_graphical_rules.specs.rules.Answers.{no_more}
use Rattle.miette_graphical_rules.specs.rules.Answers.{and_more, first_source}
use Rattle.miette_graphical_rules.specs.rules.Answers.{own_answer, cause_answers, related_answers}
use Rattle.miette_graphical_rules.specs.rules.Answers.{first_answers, later_answers}
use Rattle.miette_graphical_rules.specs.rules.PossibleAnswers.{AreAnswers, AreAnswersOver}
use Rattle.miette_graphical_rules.specs.rules.PrintedDiagnostics.{all_read, diagnostics_of, reads_labels}
use Rattle.miette_graphical_rules.specs.rules.Text.{report_text}
use Rattle.miette_graphical_rules.specs.laws.Alike.{answer_at, numbered_answers}
use Rattle.miette_graphical_rules.specs.laws.PlainTexts.{restyled, unhighlighted, unhighlighted_answers}
use Rattle.miette_graphical_rules.specs.laws.PlainTexts.{unhighlighted_related_answers}
use Rattle.miette_graphical_rules.specs.laws.Paths.{Step, to_cause, to_related, printed_at}
use Rattle.miette_graphical_rules.proofs.Only.{nothing_at}
use Rattle.miette_graphical_rules.proofs.PrintedAnswers.{Agree, AgreeAlong, AgreeOver, agreed_alike, answer_there}
use Rattle.miette_graphical_rules.proofs.PrintedAnswers.{reads_there}

-- ---- the parts of such answers

pub first-unhighlighted-source : (a : SourceAnswers) → unhighlighted_answer (first_source a) ≡ first_source
    (map unhighlighted_answer a)
first-unhighlighted-source [] = refl
first-unhighlighted-source (own ∷ more) = refl

pub later-unhighlighted-sources : (a : SourceAnswers)
    → map unhighlighted_answer (drop 1 a) ≡ drop 1 (map unhighlighted_answer a)
later-unhighlighted-sources [] = refl
later-unhighlighted-sources (own ∷ more) = refl

pub own-unhighlighted : (a : Answers) → unhighlighted (own_answer a) ≡ own_answer (unhighlighted_answers a)
own-unhighlighted unlisted = refl
own-unhighlighted (listed own cause related) = refl

pub cause-unhighlighted : (a : Answers)
    → unhighlighted_answers (cause_answers a) ≡ cause_answers (unhighlighted_answers a)
cause-unhighlighted unlisted = refl
cause-unhighlighted (listed own cause related) = refl

pub related-unhighlighted : (a : Answers) → unhighlighted_related_answers (related_answers a)
    ≡ related_answers (unhighlighted_answers a)
related-unhighlighted unlisted = refl
related-unhighlighted (listed own cause related) = refl

pub first-unhighlighted : (more : RelatedAnswers) → unhighlighted_answers (first_answers more)
    ≡ first_answers (unhighlighted_related_answers more)
first-unhighlighted no_more = refl
first-unhighlighted (and_more first more) = refl

pub later-unhighlighted : (more : RelatedAnswers) → unhighlighted_related_answers (later_answers more)
    ≡ later_answers (unhighlighted_related_answers more)
later-unhighlighted no_more = refl
later-unhighlighted (and_more first more) = refl

-- ---- such answers at a path

numbered_unhighlighted : (more : RelatedAnswers) (k : ℕ) → numbered_answers (unhighlighted_related_answers more) k
    ≡ unhighlighted_answers (numbered_answers more k)
numbered_unhighlighted more zero = sym (first-unhighlighted more)
numbered_unhighlighted more (suc k) = ap (λ later. numbered_answers later k) (sym (later-unhighlighted more))
    ∙ numbered_unhighlighted (later_answers more) k

pub unhighlighted_at : (a : Answers) (path : List Step) → answer_at (unhighlighted_answers a) path
    ≡ unhighlighted (answer_at a path)
unhighlighted_at a [] = sym (own-unhighlighted a)
unhighlighted_at a (to_cause ∷ path) =
    ap (λ b. answer_at b path) (sym (cause-unhighlighted a)) ∙ unhighlighted_at (cause_answers a) path
unhighlighted_at a (to_related k ∷ path) =
    ap (λ more. answer_at (numbered_answers more k) path) (sym (related-unhighlighted a))
    ∙ ap (λ b. answer_at b path) (numbered_unhighlighted (related_answers a) k)
    ∙ unhighlighted_at (numbered_answers (related_answers a) k) path

-- ---- texts

-- what is printed is the same in any styles
restyled_at : (s : GraphicalSettings) (styles : Styles) (t : Tree) (path : List Step)
    → printed_at (restyled s styles) t path ≡ printed_at s t path
restyled_at s styles (tree m own c r) [] = refl
restyled_at s styles (tree m own c r) (to_cause ∷ path) = refl
restyled_at s styles (tree m own c r) (to_related k ∷ path) = refl

pub restyled-printed : (s : GraphicalSettings) (styles : Styles) (t : Tree)
    → diagnostics_of (restyled s styles) t ≡ diagnostics_of s t
restyled-printed s styles (tree m own c r) = refl

-- where every read succeeds, such an answer says nothing
nothing_over : (l : snippets.SnippetSettings) (blank : Bool) (sources : List LabelledSource) (a : SourceAnswers)
    → AreAnswersOver l blank sources a → sources_read sources ≡ true
    → AgreeOver sources (map unhighlighted_answer a) []
nothing_over l blank [] a h e = tt
nothing_over l blank (it ∷ more) a h e =
    let p = and_parts (always_reads it.source it.labels) (sources_read more) e in (
      sym (first-unhighlighted-source a) ∙ ap unhighlighted_answer (h.0.read p.0),
      subst (λ later. AgreeOver more later []) (later-unhighlighted-sources a)
          (nothing_over (snippets_after (length it.labels) l) blank more (drop 1 a) h.1 p.1),
    )

nothing_alike : (s : GraphicalSettings) (styles : Styles) (blank : Bool) (t : Tree) (a : Answers)
    → AreAnswers s blank t a
    → all_read (diagnostics_of s t) ≡ true
    → AgreeAlong (restyled s styles) t (unhighlighted_answers a) unlisted
nothing_alike s styles blank t a h reads = λ path p shown.
    let found = sym (restyled_at s styles t path) ∙ shown in
    let there = answer_there s blank t a path p h found in
    let all = and_parts (reads_labels p) (reads_for p.source p.meaning.fixes) (reads_there s t path p reads found) in
    subst (λ b. Agree p b (answer_at unlisted path)) (sym (unhighlighted_at a path))
    (subst (λ b. Agree p (unhighlighted (answer_at a path)) b) (sym (nothing_at path)) (
      nothing_over (snippets_with p.meaning.snippets (snippet_settings s)) blank (sources_of p.source p.meaning)
          (answer_at a path).sources there.sources all.0,
      there.fixes all.1,
    ))

pub unhighlighted-report : (s : GraphicalSettings) (styles : Styles) (blank : Bool) (t : Tree) (a : Answers)
    → AreAnswers s blank t a → all_read (diagnostics_of s t) ≡ true →
    report_text whole_drawing (restyled s styles) t (unhighlighted_answers a)
    ≡ report_text whole_drawing (restyled s styles) t unlisted
unhighlighted-report s styles blank t a h reads =
    agreed_alike (restyled s styles) t (unhighlighted_answers a) unlisted (nothing_alike s styles blank t a h reads)
