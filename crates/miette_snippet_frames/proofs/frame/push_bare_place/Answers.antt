use Rattle.miette_style.specs.views.Printouts.{◌⊕◌}
use Rattle.std.proofs.Common.{[], ◌∷◌, ◌++◌, ◌≡◌, ◌∙◌, cond, true, ap, sym, replicate, rules}
use Rattle.std.specs.Prelude.{codes, ◌&&◌, ◌||◌}
use Rattle.std.proofs.lemmas.Result.{on_ok_weaker}
use Rattle.miette_style.specs.rules.Rows.{styled_run}
use Rattle.miette_style.specs.rules.Styles.{plain}
use Rattle.miette_snippet_rules.specs.rules.Frames.{place_text}
use Rattle.miette_snippet_frames.specs.views.Places.{place_at}
use Rattle.miette_columns.specs.rules.Widths.{width_of}
use Rattle.miette_style.specs.views.Tokens.{row_tokens}
use Rattle.miette_snippet_frames.proofs.FrameRows.{bare_put}
use Rattle.miette_snippet_frames.proofs.frame.push_bare_place.Goals as goal

pub returns-then-shows_bare_place : goal.returns-then-shows_bare_place
returns-then-shows_bare_place g c =
    let layout = c.args.frame.now.settings.layout.now in
    let shown : ((c.args.several || layout.one_line_start) && layout.primary_start) ≡ true = search rules in
    on_ok_weaker c.push.result (λ h.
    bare_put width_of (place_text (place_at c.args.place)) c.args.page.now c.push_line.new.self c.push_place.new.page
    c.push.new.self
    c.in_ok-push_line.ensures c.in_ok-push_place.ensures h
    ∙ ap (λ b. c.args.page.now ⊕ row_tokens (cond b (styled_run width_of plain
    (codes "[" ++ place_text (place_at c.args.place) ++ codes "]") ∷ [])
    (styled_run width_of plain (replicate 3 c.args.frame.now.settings.theme.now.characters.hbar) ∷ []))) (sym shown))
    c.push.ensures
