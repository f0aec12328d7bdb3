use Rattle.miette_snippet_laws.proofs.PlainStyles.{none_are_plain}
use Rattle.miette_style.specs.rules.Themes.{no_styles}
use Rattle.miette_fix_rows.proofs.PlainFixes.{plain_fix}
use Rattle.miette_fix_rows.proofs.row_laws.fix_rows_hold_no_escape.Goals as goal

pub returns : goal.returns
returns c = λ s source fails edits drawings clean texts.
    (plain_fix (Unit {0}) s no_styles none_are_plain (λ p. drawings) source fails edits (λ p. clean)
    (λ p. texts)).clean tt
