use Rattle.std.proofs.Common.{[], get_or, ◌∙◌, sym, ap}
use Rattle.miette_fix_rows.specs.views.LineLists.{met_from, borrowed_lines}
use Rattle.miette_fix_rows.proofs.Commons.{back_at, text_at}
use Rattle.miette_fix_rows.proofs.line_lists.line_from.Goals as goal

pub returns-in-Front : goal.returns-in-Front
returns-in-Front c =
    sym (ap (λ side. get_or (met_from side (borrowed_lines c.args.lines.now)) c.args.i []) c.in-Front.is
    ∙ text_at c.args.lines.now c.args.i)

pub returns-in-Back : goal.returns-in-Back
returns-in-Back c =
    sym (ap (λ side. get_or (met_from side (borrowed_lines c.args.lines.now)) c.args.i []) c.in-Back.is
    ∙ back_at c.args.lines.now c.args.i c.requires)
