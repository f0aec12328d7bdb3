use Rattle.std.proofs.Common.{◌++◌, ap, ◌∙◌}
use Rattle.std.specs.Prelude.{take_while}
use Rattle.miette_lint.specs.rules.Findings.{is_blank}
use Rattle.miette_lint.specs.rules.Fixes.{blanks_fix}
use Rattle.miette_lint.proofs.CodedSteps.{coded_from}
use Rattle.miette_lint.proofs.coded.push_tab.Goals as goal

pub returns : goal.returns
returns c =
    coded_from c.push_coded.result _ _ _ _ _ _ _ _ _ c.new-labels.ensures.items c.in_ok-push_tab.ensures
    c.new-fixes.ensures.items (c.in_ok-push_blanks.ensures
    ∙ ap (λ b. c.new-fixes.result.items ++ blanks_fix c.args.start b)
    (c.beginning_blanks.ensures.blanks ∙ ap (take_while is_blank) c.trimmed.ensures)) c.push_coded.ensures
