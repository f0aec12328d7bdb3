use Rattle.std.proofs.Common.{◌≡◌, ◌∙◌, ap, false, map, option_map, Option, sym, ℕ}
use Rattle.std.specs.Prelude.{nat_lt}
use Rattle.std.proofs.lemmas.Result.{IfOk-weaker}
use Rattle.miette_snippet_rules.specs.views.Cuts.{measure}
use Rattle.miette_snippet_rules.specs.rules.CutLines.{cut_line_by, dots_width, limit_of}
use Rattle.miette_snippet_rules.specs.rules.PrintedCells.{cells_width}
use Rattle.miette_snippet_rules.specs.views.SnippetSettings.{settings_of}
use Rattle.miette_fix_rows.specs.rules.DiffRows.{cut_beside, pair_reach}
use Rattle.miette_fix_rows.specs.rules.DiffTexts.{line_cells, line_ends}
use Rattle.miette_fix_drawing.specs.views.ChangedLines.{changed_line_of}
use Rattle.miette_fix_drawing.proofs.ChangedRows.{narrow_uncut}
use Rattle.miette_fix_drawing.proofs.changed_rows.cut_of.Goals as goal

pub returns-in_default : goal.returns-in_default
returns-in_default c =
    let s = settings_of c.args.settings.now in
    ap (λ (o : Option ℕ). option_map (map measure) (cut_beside s o (changed_line_of c.args.line.now)
    (option_map changed_line_of c.args.other.now))) (sym c.in_default.is)

pub returns-then-not-wide : goal.returns-then-not-wide
returns-then-not-wide c =
    let s = settings_of c.args.settings.now in
    let line = changed_line_of c.args.line.now in
    let other = option_map changed_line_of c.args.other.now in
    let limit : ℕ = c.in-Some.limit in
    let cells = line_cells s line.start line.text in
    let narrow : nat_lt (limit_of limit) (cells_width 0 cells) ≡ false =
    ap (λ cs. nat_lt (limit_of limit) (cells_width 0 cs)) (sym c.text_in-text.ensures.text)
    ∙ sym c.in_ok-wide.ensures ∙ c.if-not-wide.true in
    sym (ap (option_map (map measure)) (narrow_uncut (dots_width s.theme.characters) limit
    (pair_reach s limit line other)
    (line_ends s line.start line.text line.spans) cells narrow))
    ∙ ap (λ (o : Option ℕ). option_map (map measure) (cut_beside s o line other)) (sym c.in-Some.is)

pub returns : goal.returns
returns c =
    let s = settings_of c.args.settings.now in
    let line = changed_line_of c.args.line.now in
    let other = option_map changed_line_of c.args.other.now in
    let limit : ℕ = c.in-Some.limit in
    let es = line_ends s line.start line.text line.spans in
    let cells = line_cells s line.start line.text in
    IfOk-weaker c.cut_line_with.result _ _ (λ _ h. h
    ∙ ap (λ cs. option_map (map measure) (cut_line_by c.dots_width.result limit c.in_ok-reach.reach c.deref.result.now
    cs))
    c.text_in-text.ensures.text
    ∙ ap (λ x. option_map (map measure) (cut_line_by c.dots_width.result limit c.in_ok-reach.reach x cells))
    (c.deref.ensures.value ∙ c.in_ok-ends.ensures)
    ∙ ap (λ n. option_map (map measure) (cut_line_by n limit c.in_ok-reach.reach es cells)) c.dots_width.ensures
    ∙ ap (λ n. option_map (map measure) (cut_line_by (dots_width s.theme.characters) limit n es cells))
    c.in_ok-reach.ensures
    ∙ ap (λ (o : Option ℕ). option_map (map measure) (cut_beside s o line other)) (sym c.in-Some.is))
    c.cut_line_with.ensures
