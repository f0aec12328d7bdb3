use Rattle.std.proofs.Common.{ap, ◌∙◌}
use Rattle.miette_columns.specs.rules.Cells.{characters}
use Rattle.miette_columns.specs.rules.Columns.{column}
use Rattle.miette_narrated.specs.steps.EditPlaces.{line_text_at}
use Rattle.miette_narrated.proofs.EditPlaces.{placed}
use Rattle.miette_narrated.proofs.edit_places.edit_place_at.Goals as goal

pub returns-clause-place : goal.returns-clause-place
returns-clause-place c =
    let kept = c.cache_line.new.kept in
    placed c.args.source.now c.args.at c.start_before-start.result.0 c.start_before-start.result.1 c.in_ok-line.line
    c.in_ok-before.before kept.start kept.columns c.start_before-start.ensures.start c.start_before-start.ensures.line
    c.in_ok-cache_line.ensures.start
    (c.in_ok-cache_line.ensures.kept ∙ ap (λ bs. line_text_at bs kept.start) c.bytes.ensures)
    (c.in_ok-before.ensures ∙ ap (λ n. column n (characters kept.columns)) c.saturating_sub.ensures)
    c.in_ok-line.ensures
