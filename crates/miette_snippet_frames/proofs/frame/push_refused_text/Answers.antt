use Rattle.std.proofs.Common.{[], ◌∷◌}
use Rattle.std.specs.Prelude.{codes}
use Rattle.std.proofs.lemmas.Result.{on_ok_weaker}
use Rattle.miette_style.specs.rules.Rows.{Row, styled_run}
use Rattle.miette_style.specs.rules.Styles.{plain}
use Rattle.miette_snippet_rules.specs.rules.Frames.{text_or_none}
use Rattle.miette_columns.specs.rules.Widths.{width_of}
use Rattle.miette_snippet_frames.proofs.FrameRows.{run_then, run_last}
use Rattle.miette_snippet_frames.proofs.frame.push_refused_text.Goals as goal

pub returns : goal.returns
returns g c =
    let last : Row = styled_run width_of plain (codes "` (offset: ") ∷ [] in
    let text : Row = styled_run width_of c.args.frame.now.settings.theme.now.styles.link
    (text_or_none c.args.label.now.text)
    ∷ last in
    let tick : Row = styled_run width_of plain (codes " `") ∷ text in
    let failed : Row = styled_run width_of c.args.frame.now.settings.theme.now.styles.error
    (codes "Failed to read contents for label") ∷ tick in
    on_ok_weaker c.push_ascii-4.result (λ h.
    run_then width_of plain (codes "  [") failed c.args.page.now c.push_ascii.new.page c.push_ascii-4.new.page
    c.in_ok-push_ascii.ensures
    (run_then width_of c.args.frame.now.settings.theme.now.styles.error (codes "Failed to read contents for label") tick
    c.push_ascii.new.page c.push_ascii-2.new.page c.push_ascii-4.new.page c.in_ok-push_ascii-2.ensures
    (run_then width_of plain (codes " `") text c.push_ascii-2.new.page c.push_ascii-3.new.page c.push_ascii-4.new.page
    c.in_ok-push_ascii-3.ensures
    (run_then width_of c.args.frame.now.settings.theme.now.styles.link (text_or_none c.args.label.now.text) last
    c.push_ascii-3.new.page c.push_label_text.new.page c.push_ascii-4.new.page c.in_ok-push_label_text.ensures
    (run_last width_of plain (codes "` (offset: ") c.push_label_text.new.page c.push_ascii-4.new.page
    h))))) c.push_ascii-4.ensures
