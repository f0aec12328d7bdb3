use Rattle.std.proofs.Common.{◌++◌, ap₂, sym, ◌∙◌, append-nil, codes}
use Rattle.miette_runs.specs.rules.Runs.{printed_run}
use Rattle.miette_runs.specs.rules.Sequences.{spell}
use Rattle.miette_graphical.proofs.Styling.{help_text}
use Rattle.miette_graphical.proofs.indents.help_indent.Goals as goal

pub returns : goal.returns
returns g c =
    let style = c.args.painter.now.settings.now.theme.styles.help in
    c.in_ok-push_run.ensures.text
    ∙ ap₂ (λ o t. spell o ++ printed_run style t) c.new-runs.ensures help_text
    ∙ sym (append-nil (printed_run style (codes "  help: ")))
