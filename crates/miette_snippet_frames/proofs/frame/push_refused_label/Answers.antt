use Rattle.miette_style.specs.views.Printouts.{◌⊕◌}
use Rattle.std.proofs.Common.{[], ◌∷◌, ◌++◌, ◌∙◌, ap}
use Rattle.std.specs.Prelude.{codes, chars, decimal}
use Rattle.std.proofs.lemmas.Result.{on_ok_weaker}
use Rattle.miette_style.specs.rules.Rows.{Row, styled_run}
use Rattle.miette_style.specs.rules.Styles.{plain}
use Rattle.miette_snippet_rules.specs.rules.Frames.{refused_front}
use Rattle.miette_snippet_rules.specs.views.SnippetSettings.{settings_of}
use Rattle.miette_columns.specs.rules.Widths.{width_of}
use Rattle.miette_style.specs.views.Tokens.{styled_tokens}
use Rattle.miette_snippet_frames.proofs.TextRows.{row_done, parts_then}
use Rattle.miette_snippet_frames.proofs.FrameRows.{run_then, run_last}
use Rattle.miette_snippet_frames.proofs.frame.push_refused_label.Goals as goal

pub returns : goal.returns
returns g c =
    let link = c.args.frame.now.settings.theme.now.styles.link in
    let last : Row = styled_run width_of plain (codes "]") ∷ [] in
    let name : Row = styled_run width_of c.args.frame.now.settings.theme.now.styles.warning (chars c.args.name.now)
    ∷ last in
    let close : Row = styled_run width_of plain (codes "): ") ∷ name in
    let many : Row = styled_run width_of link (decimal c.args.label.now.span.len) ∷ close in
    let length : Row = styled_run width_of plain (codes ", length: ") ∷ many in
    let offset : Row = styled_run width_of link (decimal c.args.label.now.span.offset) ∷ length in
    on_ok_weaker c.end_row.result (λ h.
    row_done (refused_front (settings_of c.args.frame.now.settings) c.args.label.now
    ++ offset) c.args.page.now c.push_ascii-3.new.page c.end_row.new.self
    (parts_then (refused_front (settings_of c.args.frame.now.settings) c.args.label.now)
    offset c.args.page.now c.push_refused_text.new.page c.push_ascii-3.new.page c.in_ok-push_refused_text.ensures
    (run_then width_of link (decimal c.args.label.now.span.offset) length c.push_refused_text.new.page
    c.push_count.new.page c.push_ascii-3.new.page
    (c.in_ok-push_count.ensures ∙ ap (λ n. c.push_refused_text.new.page ⊕ styled_tokens link (decimal n))
    c.offset.ensures)
    (run_then width_of plain (codes ", length: ") many c.push_count.new.page c.push_ascii.new.page
    c.push_ascii-3.new.page c.in_ok-push_ascii.ensures
    (run_then width_of link (decimal c.args.label.now.span.len) close c.push_ascii.new.page c.push_count-2.new.page
    c.push_ascii-3.new.page
    (c.in_ok-push_count-2.ensures ∙ ap (λ n. c.push_ascii.new.page ⊕ styled_tokens link (decimal n)) c.len.ensures)
    (run_then width_of plain (codes "): ") name c.push_count-2.new.page c.push_ascii-2.new.page c.push_ascii-3.new.page
    c.in_ok-push_ascii-2.ensures
    (run_then width_of c.args.frame.now.settings.theme.now.styles.warning (chars c.args.name.now) last
    c.push_ascii-2.new.page
    c.push_styled.new.page c.push_ascii-3.new.page c.in_ok-push_styled.ensures
    (run_last width_of plain (codes "]") c.push_styled.new.page c.push_ascii-3.new.page
    c.in_ok-push_ascii-3.ensures)))))))
    h) c.end_row.ensures
