use Rattle.std.proofs.Common.{◌∙◌, ap}
use Rattle.std.proofs.lemmas.Result.{IfOk-weaker}
use Rattle.miette_snippet_rules.specs.rules.CutLines.{limit_of, reach_at}
use Rattle.miette_snippet_rules.specs.views.SnippetSettings.{settings_of}
use Rattle.miette_fix_rows.specs.rules.DiffTexts.{line_cells, line_ends}
use Rattle.miette_fix_drawing.specs.views.ChangedLines.{changed_line_of}
use Rattle.miette_fix_drawing.proofs.changed_rows.reach_of.Goals as goal

pub returns : goal.returns
returns c =
    let s = settings_of c.args.settings.now in
    let line = changed_line_of c.args.line.now in
    let cells = line_cells s line.start line.text in
    IfOk-weaker c.largest_reach.result _ _ (λ _ h. h
    ∙ ap (λ cs. reach_at (limit_of c.args.limit) c.dots_width.result c.deref.result.now cs) c.text_in-text.ensures.text
    ∙ ap (λ x. reach_at (limit_of c.args.limit) c.dots_width.result x cells)
    (c.deref.ensures.value ∙ c.in_ok-ends.ensures)
    ∙ ap (λ n. reach_at (limit_of c.args.limit) n (line_ends s line.start line.text line.spans) cells)
    c.dots_width.ensures) c.largest_reach.ensures
