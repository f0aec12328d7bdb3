use Rattle.std.proofs.Common.{ap, ◌∙◌, encode_utf8_all, sym}
use Rattle.miette_runs.specs.rules.Sequences.{erase}
use Rattle.miette_snippet_laws.proofs.PlainStyles.{none_are_plain}
use Rattle.miette_graphical_rules.specs.rules.Snippets.{whole_drawing}
use Rattle.miette_graphical_rules.specs.rules.Text.{report_text}
use Rattle.miette_graphical_laws.proofs.PlainLines.{plain-report}
use Rattle.miette_graphical_laws.proofs.laws.plain_law.Goals as goal

pub returns-clause-text : goal.returns-clause-text
returns-clause-text c = λ drawing s t a law settings tree are_plain none.
    c.colours_law.ensures.plain drawing s s.theme.styles t a law settings tree are_plain
    ∙ ap (report_text drawing s t) none

pub returns-clause-printed : goal.returns-clause-printed
returns-clause-printed c = λ s t bytes settings tree are_plain printed.
    ap erase printed.2 ∙ c.encoding_law.ensures printed.0
    ∙ ap (λ text. encode_utf8_all (erase text)) printed.1.2
    ∙ ap encode_utf8_all (c.colours_law.ensures.plain whole_drawing s s.theme.styles t printed.1.0
    c.drawn_rows_law.ensures settings tree are_plain ∙ sym (plain-report s t printed.1.0 printed.1.1))
    ∙ sym (printed.2 ∙ ap encode_utf8_all printed.1.2)

pub returns-clause-shipped : goal.returns-clause-shipped
returns-clause-shipped c = none_are_plain
