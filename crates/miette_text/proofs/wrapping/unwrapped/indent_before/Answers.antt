use Rattle.std.proofs.Common.{◌∙◌, ap, sym}
use Rattle.miette_runs.specs.views.Interleaving.{interleaving}
use Rattle.miette_text.specs.steps.WholeText.{indent_before}
use Rattle.miette_text.proofs.wrapping.unwrapped.indent_before.Goals as goal

pub returns-then-is_white : goal.returns-then-is_white
returns-then-is_white c =
    let indent = interleaving 0 c.args.indent.codes.now c.args.indent.tags.now in
    c.trim_end.ensures ∙ ap (λ b. indent_before b indent) (sym c.if-is_white.true)

pub returns-else-is_white : goal.returns-else-is_white
returns-else-is_white c =
    let indent = interleaving 0 c.args.indent.codes.now c.args.indent.tags.now in
    ap (λ b. indent_before b indent) (sym c.if-is_white.false)
