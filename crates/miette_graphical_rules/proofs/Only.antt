-- Where every source always reads and lines are left plain, the answers say nothing: the text is the one in which
-- nothing is listed.
use Rattle.std.proofs.Common.{◌≡◌, ℕ, zero, suc, true, List, [], ◌∷◌, drop, length, refl, subst, sym, ap, ◌∙◌}
use Rattle.std.proofs.Common.{encode_utf8_all}
use Rattle.miette_tree.specs.rules.Tree.{Tree}
use Rattle.miette_graphical_rules.specs.rules.GraphicalSettings.{GraphicalSettings}
use Rattle.miette_graphical_rules.specs.rules.Answers.{Answers, SourceAnswers, no_more, nothing_listed, pieces_listed}
use Rattle.miette_graphical_rules.specs.rules.Answers.{unlisted}
use Rattle.miette_graphical_rules.specs.rules.PossibleAnswers.{AreAnswers, AreAnswersOver, IsTextOf}
use Rattle.miette_graphical_rules.specs.rules.PrintedDiagnostics.{all_read, diagnostics_of, reads_labels}
use Rattle.miette_graphical_rules.specs.rules.Snippets.{whole_drawing, snippet_settings}
use Rattle.miette_graphical_rules.specs.rules.Sources.{LabelledSource, snippets_after, snippets_with, sources_of}
use Rattle.miette_graphical_rules.specs.rules.Sources.{reads_for, sources_read}
use Rattle.miette_snippet_rules.specs.rules.SnippetSettings as snippets
use Rattle.miette_tree.specs.rules.Reads.{always_reads}
use Rattle.std.proofs.lemmas.Bool.{and_parts}
use Rattle.miette_graphical_rules.specs.rules.Text.{report_text}
use Rattle.miette_graphical_rules.specs.laws.Alike.{answer_at, numbered_answers}
use Rattle.miette_graphical_rules.specs.laws.Paths.{Step, to_cause, to_related}
use Rattle.miette_graphical_rules.proofs.PrintedAnswers.{Agree, AgreeAlong, AgreeOver, agreed_alike, answer_there}
use Rattle.miette_graphical_rules.proofs.PrintedAnswers.{reads_there}

numbered_none : (k : ℕ) → numbered_answers no_more k ≡ unlisted
numbered_none zero = refl
numbered_none (suc k) = numbered_none k

pub nothing_at : (path : List Step) → answer_at unlisted path ≡ nothing_listed
nothing_at [] = refl
nothing_at (to_cause ∷ path) = nothing_at path
nothing_at (to_related k ∷ path) = ap (λ a. answer_at a path) (numbered_none k) ∙ nothing_at path

unlisted_over : (l : snippets.SnippetSettings) (sources : List LabelledSource) (a : SourceAnswers)
    → AreAnswersOver l true sources a → sources_read sources ≡ true → AgreeOver sources a []
unlisted_over l [] a h e = tt
unlisted_over l (it ∷ more) a h e =
    let p = and_parts (always_reads it.source it.labels) (sources_read more) e in (
      h.0.read p.0 ∙ ap pieces_listed (h.0.plain refl),
      unlisted_over (snippets_after (length it.labels) l) more (drop 1 a) h.1 p.1,
    )

unlisted_alike : (s : GraphicalSettings) (t : Tree) (a : Answers) → AreAnswers s true t a
    → all_read (diagnostics_of s t) ≡ true → AgreeAlong s t a unlisted
unlisted_alike s t a h reads = λ path p found.
    let there = answer_there s true t a path p h found in
    let all = and_parts (reads_labels p) (reads_for p.source p.meaning.fixes) (reads_there s t path p reads found) in
    subst (λ b. Agree p (answer_at a path) b) (sym (nothing_at path)) (
      unlisted_over (snippets_with p.meaning.snippets (snippet_settings s)) (sources_of p.source p.meaning)
          (answer_at a path).sources there.sources all.0,
      there.fixes all.1,
    )

pub only-text : (s : GraphicalSettings) (t : Tree) (bytes : List ℕ) → IsTextOf whole_drawing s true t bytes
    → all_read (diagnostics_of s t) ≡ true → bytes ≡ encode_utf8_all (report_text whole_drawing s t unlisted)
only-text s t bytes printed reads =
    printed.2 ∙ ap encode_utf8_all (printed.1.2 ∙ agreed_alike s t printed.1.0 unlisted
    (unlisted_alike s t printed.1.0 printed.1.1 reads))
