use Rattle.std.proofs.Common.{[], ◌∷◌}
use Rattle.std.specs.Prelude.{codes}
use Rattle.std.proofs.lemmas.Result.{on_ok_weaker}
use Rattle.miette_style.specs.rules.Rows.{Row, styled_run}
use Rattle.miette_style.specs.rules.Styles.{plain}
use Rattle.miette_columns.specs.rules.Widths.{width_of}
use Rattle.miette_snippet_frames.proofs.TextRows.{row_done}
use Rattle.miette_snippet_frames.proofs.FrameRows.{run_then, run_last}
use Rattle.miette_fix_drawing.proofs.fix.push_refused_fix.Goals as goal

pub returns : goal.returns
returns g c =
    let styles = c.args.settings.now.theme.now.styles in
    let last : Row = styled_run width_of plain (codes "]") ∷ [] in
    let name : Row = styled_run width_of styles.warning c.args.name.now ∷ last in
    let colon : Row = styled_run width_of plain (codes ": ") ∷ name in
    let what : Row = styled_run width_of styles.error (codes "Failed to apply fix") ∷ colon in
    let end = c.push_ascii-5.new.page in
    on_ok_weaker c.end_row.result (λ h.
    row_done (styled_run width_of plain (codes "  [") ∷ what) c.args.page.now end c.end_row.new.self
    (run_then width_of plain (codes "  [") what c.args.page.now c.push_ascii.new.page end c.in_ok-push_ascii.ensures
    (run_then width_of styles.error (codes "Failed to apply fix") colon c.push_ascii.new.page c.push_ascii-2.new.page
    end
    c.in_ok-push_ascii-2.ensures
    (run_then width_of plain (codes ": ") name c.push_ascii-2.new.page c.push_ascii-3.new.page end
    c.in_ok-push_ascii-3.ensures
    (run_then width_of styles.warning c.args.name.now last c.push_ascii-3.new.page c.push_ascii-4.new.page end
    c.in_ok-push_ascii-4.ensures
    (run_last width_of plain (codes "]") c.push_ascii-4.new.page end c.in_ok-push_ascii-5.ensures)))))
    h) c.end_row.ensures
