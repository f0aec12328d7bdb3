use Rattle.std.proofs.Common.{[], ◌∷◌, ◌++◌, cond}
use Rattle.std.specs.Prelude.{chars, codes}
use Rattle.std.proofs.lemmas.Result.{on_ok_weaker}
use Rattle.miette_style.specs.rules.Rows.{Row, styled_run}
use Rattle.miette_style.specs.rules.Styles.{plain}
use Rattle.miette_snippet_rules.specs.rules.Frames.{place_text}
use Rattle.miette_snippet_frames.specs.views.Places.{place_at}
use Rattle.miette_columns.specs.rules.Widths.{width_of}
use Rattle.miette_snippet_frames.proofs.FrameRows.{run_then, run_last}
use Rattle.miette_snippet_frames.proofs.frame.push_named_place.Goals as goal

pub returns : goal.returns
returns g c =
    let last : Row = styled_run width_of plain (93 ∷ []) ∷ [] in
    let link = cond c.args.frame.now.settings.layout.now.primary_start
    (chars c.args.name.now ++ codes ":" ++ place_text (place_at c.args.place)) (chars c.args.name.now) in
    on_ok_weaker c.push_ascii-2.result (λ h.
    run_then width_of plain (91 ∷ []) (styled_run width_of c.args.frame.now.settings.theme.now.styles.link link ∷ last)
    c.args.page.now c.push_ascii.new.page c.push_ascii-2.new.page c.in_ok-push_ascii.ensures
    (run_then width_of c.args.frame.now.settings.theme.now.styles.link link last c.push_ascii.new.page
    c.push_link.new.page
    c.push_ascii-2.new.page c.in_ok-push_link.ensures
    (run_last width_of plain (93 ∷ []) c.push_link.new.page c.push_ascii-2.new.page h))) c.push_ascii-2.ensures
