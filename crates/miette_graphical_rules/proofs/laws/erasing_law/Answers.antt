use Rattle.std.proofs.Common.{refl, ap, ◌∙◌, encode_utf8_all, sym}
use Rattle.miette_runs.specs.rules.Sequences.{erase}
use Rattle.miette_graphical_rules.specs.laws.PlainTexts.{plain_settings, restyled, unhighlighted_answers}
use Rattle.miette_graphical_rules.specs.rules.PrintedDiagnostics.{all_read}
use Rattle.miette_graphical_rules.specs.rules.Snippets.{whole_drawing}
use Rattle.miette_graphical_rules.specs.rules.Text.{report_text}
use Rattle.miette_graphical_rules.proofs.Unhighlighted.{unhighlighted-report, restyled-printed}
use Rattle.miette_snippet_laws.proofs.PlainStyles.{none_are_plain}
use Rattle.miette_style.specs.rules.Themes.{no_styles}
use Rattle.miette_graphical_rules.proofs.Possible.{answers_possible}
use Rattle.miette_graphical_rules.proofs.laws.erasing_law.Goals as goal

pub returns-clause-text : goal.returns-clause-text
returns-clause-text c = λ s blank t bytes settings tree printed. record {
  answers = printed.1.0;
  are = printed.1.1;
  text = printed.2 ∙ ap encode_utf8_all printed.1.2;
  possible = answers_possible c.rows_turn_plain.ensures.same s blank t printed.1.0 printed.1.1;
  erased =
      ap erase printed.2 ∙ c.encoding_law.ensures printed.0
      ∙ ap (λ text. encode_utf8_all (erase text)) printed.1.2
      ∙ ap encode_utf8_all (c.colours_law.ensures.erase whole_drawing s t printed.1.0 c.drawn_rows_law.ensures settings
      tree);
}

pub returns-clause-possible : goal.returns-clause-possible
returns-clause-possible c = λ s blank t bytes settings tree printed. (
  report_text whole_drawing (plain_settings s) t (unhighlighted_answers printed.1.0),
  (
    unhighlighted_answers printed.1.0,
    answers_possible c.rows_turn_plain.ensures.same s blank t printed.1.0 printed.1.1,
    refl,
  ),
  ap erase printed.2 ∙ c.encoding_law.ensures printed.0
      ∙ ap (λ text. encode_utf8_all (erase text)) printed.1.2
      ∙ ap encode_utf8_all (c.colours_law.ensures.erase whole_drawing s t printed.1.0 c.drawn_rows_law.ensures settings
      tree),
)

pub returns-clause-plain : goal.returns-clause-plain
returns-clause-plain c = λ s styles blank t bytes settings tree are_plain printed reads.
    ap erase printed.2 ∙ c.encoding_law.ensures printed.0
    ∙ ap (λ text. encode_utf8_all (erase text)) printed.1.2
    ∙ ap encode_utf8_all (c.colours_law.ensures.plain whole_drawing s styles t printed.1.0 c.drawn_rows_law.ensures
    settings tree are_plain)
    ∙ ap encode_utf8_all (unhighlighted-report s styles blank t printed.1.0 printed.1.1 reads)

pub returns-clause-only : goal.returns-clause-only
returns-clause-only c = λ s blank t bytes settings tree printed reads.
    returns-clause-plain c s no_styles blank t bytes settings tree none_are_plain printed reads

pub returns-clause-themes : goal.returns-clause-themes
returns-clause-themes c = λ s blank t bytes others settings tree printed reads again.
    returns-clause-only c s blank t bytes settings tree printed reads
    ∙ sym (returns-clause-only c (restyled s again.0) again.1 t others settings tree again.2
    (ap all_read (restyled-printed s again.0 t) ∙ reads))
