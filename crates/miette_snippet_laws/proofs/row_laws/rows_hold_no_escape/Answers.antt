use Rattle.miette_snippet_laws.proofs.PlainSnippets.{plain_snippets}
use Rattle.miette_snippet_laws.proofs.PlainStyles.{none_are_plain}
use Rattle.miette_style.specs.rules.Themes.{no_styles}
use Rattle.miette_snippet_laws.proofs.row_laws.rows_hold_no_escape.Goals as goal

pub returns : goal.returns
returns c = λ s source labels answers drawings clean texts.
    (plain_snippets (Unit {0}) s no_styles none_are_plain (λ p. drawings) source labels answers (λ p. clean)
    (λ p. texts)).clean tt
